-- A month's record, and the list of a year.
-- Assumes nothing.
use Rattle.std.specs.Prelude.{List, [], ◌∷◌, ◌++◌, ℕ, zero, suc, ◌+◌, ◌-◌}
use Rattle.month_law.specs.Calendar.{Calendar, length_of, head, year_of, number_at, leap_mark}

-- how many numbers a record has, and how many records a row needs for each year
abbrev pub record_width : ℕ
record_width = 4

abbrev pub year_room : ℕ
year_room = 13

-- where a month's length and its leap mark stand in its record; its first day stands first
abbrev pub length_place : ℕ
length_place = 1

abbrev pub mark_place : ℕ
mark_place = 3

module _ (c : Calendar) where
  -- first day, length, number, leap mark of the month at place p of year n
  unfoldable pub record_at : ℕ → ℕ → List ℕ
  record_at n p = c.first (head c n + p) ∷ length_of c (head c n + p) ∷ number_at c n p ∷ leap_mark c n p ∷ []

  -- the record of month l, by the year in whose list it stands
  unfoldable pub record_of : ℕ → List ℕ
  record_of l = let n = year_of c l in record_at n (l - head c n)

  -- the first k records of year n
  unfoldable pub records_of : ℕ → ℕ → List ℕ
  records_of n zero = []
  records_of n (suc k) = records_of n k ++ record_at n k
