-- What a program carries from month to month, and the last middle term before a month's end, by which its kind is told.
-- Assumes nothing.
use Rattle.std.specs.Prelude.{ℕ, suc, ◌≤◌, ◌<◌, if◌then◌else◌}
use Rattle.rows.specs.Choice.{◌<?◌}
use Rattle.month_law.specs.Calendar.{Calendar, number_of_rank}
use Rattle.months.specs.Kind.{Kind, ordinary, leap}
use Rattle.months.specs.declared.Span.{Span}

-- month l, with its first day and that of the next
abbrev pub span_of : Calendar → ℕ → Span
span_of c l = record { lunation = l; first = c.first l; next = c.first (suc l) }

-- j is the last middle term before a day
pub record LastBefore (c : Calendar) (next j : ℕ) : Type 0 where
  pub come : c.mid j < next
  pub not_come : next ≤ c.mid (suc j)

-- the kind of a month that begins on a day, where j is the last middle term before its end
abbrev pub kind_by : Calendar → ℕ → ℕ → Kind
kind_by c first j = if c.mid j <? first then leap (number_of_rank j) else ordinary (number_of_rank j)
