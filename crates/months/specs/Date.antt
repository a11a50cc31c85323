-- The way back: from year, place and day of the month to the day.
-- Assumes nothing.
use Rattle.std.specs.Prelude.{Bool, false, ◌&&◌, ℕ, ◌+◌, ◌-◌}
use Rattle.rows.specs.Choice.{◌≤?◌, ◌<?◌, ◌=?◌}
use Rattle.rows.specs.Reply.{Reply, answer, refused, no_year, outside, refuse_if}
use Rattle.measure.specs.Units.{last_year}
use Rattle.measure.specs.Epoch.{Epoch}
use Rattle.month_law.specs.Calendar.{Calendar, length_of, head, months_in}
use Rattle.edition.specs.Edition.{calendar}
use Rattle.months.specs.Month.{MonthOfDay}

-- day m of the month at place p of year n
unfoldable pub day_at : Calendar → ℕ → ℕ → ℕ → ℕ
day_at c n p m = c.first (head c n + p) + (m - 1)

-- a place that the year's own list lacks is outside, and so is a day that the month lacks
unfoldable pub back_reply : Epoch → ℕ → ℕ → ℕ → Reply ℕ
back_reply e n p m =
    let c = calendar e in
    refuse_if (last_year <? n) no_year
    (refuse_if (months_in c n ≤? p) outside
    (refuse_if (m =? 0) outside
    (refuse_if (length_of c (head c n + p) <? m) outside
    (answer (day_at c n p m)))))

-- whether a reply about a day gives it a year, a place and a day of the month
abbrev pub has_date : Reply MonthOfDay → ℕ → ℕ → ℕ → Bool
has_date (answer x) n p m = (x.year =? n) && (x.place =? p) && (x.day =? m)
has_date (refused k) n p m = false
