-- What is assumed of a calendar's two sequences of days; every law of months follows from this.
-- Assumes nothing.
use Rattle.std.specs.Prelude.{ℕ, suc, ◌+◌, ◌*◌, ◌≤◌, ◌<◌}
use Rattle.month_law.specs.Calendar.{Calendar}

pub record Lawful (c : Calendar) : Type 0 where
  -- a month has 29 or 30 days
  pub month_least : (l : ℕ) → c.first l + 29 ≤ c.first (suc l)
  pub month_most : (l : ℕ) → c.first (suc l) ≤ c.first l + 30
  -- two middle terms lie 30 days apart at least, and two solstices 366 at most
  pub terms_apart : (j : ℕ) → c.mid j + 30 ≤ c.mid (suc j)
  pub year_most : (n : ℕ) → c.mid (12 * suc n) ≤ c.mid (12 * n) + 366
  -- lunation 0 is the month of the first solstice
  pub opening : c.first 0 ≤ c.mid 0
  pub opened : c.mid 0 < c.first 1
