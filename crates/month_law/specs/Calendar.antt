-- "Months", over any calendar that is given by two rising sequences of days: heads, lists, leap months and their numbers
-- (000:445-449, 955).
-- Assumes nothing.
use Rattle.std.specs.Prelude.{Bool, ◌&&◌, ℕ, suc, ◌+◌, ◌-◌, ◌*◌, ◌/◌, ◌%◌}
use Rattle.rows.specs.Choice.{◌≤?◌, ◌<?◌, ◌=?◌}
use Rattle.month_law.specs.Steps.{seek}
use Rattle.month_law.specs.Count.{one_if, count}

pub record Calendar : Type 0 where
  -- the first day of lunation l
  pub first : ℕ → ℕ
  -- the day of middle term j, counted on over the years, twelve a year: that of term 12 × n is the solstice's day of year n
  pub mid : ℕ → ℕ

-- the number of the ordinary month of rank t among the twelve: 11, 12, 1 .. 10
unfoldable pub number_of_rank : ℕ → ℕ
number_of_rank t = (t + 10) % 12 + 1

module _ (c : Calendar) where
  -- month l runs from its first day to the day before that of l + 1
  abbrev pub length_of : ℕ → ℕ
  length_of l = c.first (suc l) - c.first l

  -- the month of a day: the last whose first day is not after it. No month has more than 30 days, so the search may begin at the
  -- thirtieth part of the days gone
  unfoldable pub month_of : ℕ → ℕ
  month_of d = seek c.first d ((d - c.first 0) / 30) d

  -- the head of year n: the last month whose first day is not after the solstice's day
  unfoldable pub head : ℕ → ℕ
  head n = month_of (c.mid (12 * n))

  -- its list runs from there to before the next head
  abbrev pub months_in : ℕ → ℕ
  months_in n = head (suc n) - head n

  -- the year in whose list month l stands: the last whose head is not after it. No year has more than 366 days, so the search may
  -- begin at that part of the days gone
  unfoldable pub year_of : ℕ → ℕ
  year_of l = seek head l ((c.first l - c.mid 0) / 366) l

  -- month l holds the day of middle term j; equal days count as held
  abbrev pub holds : ℕ → ℕ → Bool
  holds l j = (c.first l ≤? c.mid j) && (c.mid j <? c.first (suc l))

  -- how many of the twelve middle terms of year n month l holds
  unfoldable pub held : ℕ → ℕ → ℕ
  held n l = count (λ i. holds l (12 * n + i)) 12

  -- in a list of 13 the month that holds none is leap; places count from 0
  unfoldable pub leap_at : ℕ → ℕ → Bool
  leap_at n p = (months_in n =? 13) && (held n (head n + p) =? 0)

  -- and repeats the number before it: a leap month does not count in the rank
  unfoldable pub number_at : ℕ → ℕ → ℕ
  number_at n p = number_of_rank (p - count (leap_at n) (suc p))

  -- its mark in a record
  abbrev pub leap_mark : ℕ → ℕ → ℕ
  leap_mark n p = one_if (leap_at n p)
