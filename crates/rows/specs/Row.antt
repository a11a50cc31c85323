-- A lent row, of numbers or of anything else: what a list is, and what the row holds after a question.
-- Assumes nothing.
use Rattle.std.specs.Prelude.{List, [], ◌∷◌, ◌++◌, ℕ, zero, suc, length, drop}
use Rattle.rows.specs.Reply.{Reply, answer, refused}

-- f at k places from place i on
unfoldable pub listed : (ℕ → ℕ) → ℕ → ℕ → List ℕ
listed f i zero = []
listed f i (suc k) = f i ∷ listed f (suc i) k

-- new from the row's start; what lies past it keeps its contents
unfoldable pub over : {A : Type 0} → List A → List A → List A
over new row = new ++ drop (length new) row

-- an answered question writes the list, a refused one nothing
abbrev pub row_after : {A : Type 0} → Reply ℕ → List A → List A → List A
row_after (answer n) new row = over new row
row_after (refused k) new row = row
