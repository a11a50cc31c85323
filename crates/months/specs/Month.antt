-- "A reply about a day".
-- Assumes nothing.
use Rattle.std.specs.Prelude.{ℕ, ◌+◌, ◌-◌, if◌then◌else◌, Result}
use Rattle.rows.specs.Choice.{◌<?◌}
use Rattle.rows.specs.Reply.{Reply, answer, no_day, refuse_if, number_of, reply_of}
use Rattle.measure.specs.Epoch.{Epoch}
use Rattle.month_law.specs.Calendar.{Calendar, length_of, month_of, head, year_of, leap_at, number_at}
use Rattle.edition.specs.Edition.{calendar}
use Rattle.months.specs.Kind.{Kind, ordinary, leap, kind_said}
use Rattle.rows.specs.declared.Refusal.{Refusal}
use Rattle.months.specs.declared.Month.{Month}

-- the month that a day lies in; places count from 0, days of a month from 1
pub record MonthOfDay : Type 0 where
  pub kind : Kind
  pub year : ℕ
  pub place : ℕ
  pub day : ℕ
  pub first : ℕ
  pub length : ℕ

-- the first and the last day of the calendar
abbrev pub earliest : ℕ
earliest = 35

abbrev pub latest : ℕ
latest = 365_268

module _ (c : Calendar) where
  unfoldable pub kind_at : ℕ → ℕ → Kind
  kind_at n p = if leap_at c n p then leap (number_at c n p) else ordinary (number_at c n p)

  -- day d of month l, which stands at place p of year n
  unfoldable pub placed : ℕ → ℕ → ℕ → ℕ → MonthOfDay
  placed d l n p =
      record {
        kind = kind_at n p;
        year = n;
        place = p;
        day = d - c.first l + 1;
        first = c.first l;
        length = length_of c l;
      }

  -- the month of day d: the month that holds the day is sought, and then the year in whose list that month stands
  unfoldable pub month_of_day : ℕ → MonthOfDay
  month_of_day d =
      let l = month_of c d in
      let n = year_of c l in
      placed d l n (l - head c n)

unfoldable pub day_reply : Epoch → ℕ → Reply MonthOfDay
day_reply e d = refuse_if (d <? earliest) no_day (refuse_if (latest <? d) no_day (answer (month_of_day (calendar e) d)))

-- the paper's month and reply that each stands for
abbrev pub month_said : Month → MonthOfDay
month_said m =
    record {
      kind = kind_said m.kind;
      year = m.year;
      place = m.place;
      day = m.day;
      first = m.first;
      length = m.length;
    }

abbrev pub month_answer_said : Result Month Refusal → Reply MonthOfDay
month_answer_said a = reply_of month_said number_of a
