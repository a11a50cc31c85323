-- The sheet made from a year's own list.
-- Assumes nothing.
use Rattle.std.specs.Prelude.{List, [], ◌∷◌, ◌++◌, ℕ, zero, suc, ◌+◌, if◌then◌else◌}
use Rattle.measure.specs.Days.{sixty_name, stem, branch}
use Rattle.month_law.specs.Calendar.{Calendar, length_of, head, leap_at}
use Rattle.sheets.specs.Marks.{marked}
use Rattle.sheets.specs.declared.Mark.{Mark}
use Rattle.sheets.specs.declared.Shown.TheVariants.{Name, Stem, Branch, Length, Leap}

module _ (c : Calendar) where
  -- what it shows of the month at place p
  unfoldable pub marks_at : ℕ → ℕ → List Mark
  marks_at n p =
      let d = c.first (head c n + p) in
      marked p (Name (sixty_name d)) ∷ marked p (Stem (stem d)) ∷ marked p (Branch (branch d)) ∷ marked p (Length (length_of c (head c n + p)))
      ∷ (if leap_at c n p then marked p Leap ∷ [] else [])

  -- and of the first k months
  unfoldable pub marks_of : ℕ → ℕ → List Mark
  marks_of n zero = []
  marks_of n (suc k) = marks_of n k ++ marks_at n k
