-- What a word chooses from a list of words, each with what it stands for.
-- Assumes nothing.
use Rattle.std.specs.Prelude.{ℕ, List, [], ◌∷◌, if◌then◌else◌}
use Prim.Native.String.{String}
use Rattle.words.specs.Text.{◌is◌}

abbrev pub Choices : Type 0 → Type 0
Choices A = List (String × A)

-- what the word stands for; where it is not in the list, something else
unfoldable pub chosen : {A : Type 0} → A → List ℕ → Choices A → A
chosen other word [] = other
chosen other word (q ∷ more) = if word is q.0 then q.1 else chosen other word more
