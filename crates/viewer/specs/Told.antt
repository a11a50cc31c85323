-- What the viewer is told: a reply as a struct of numbers.
-- Assumes nothing.
use Rattle.std.specs.Prelude.{ℕ, ◌<◌}
use Rattle.rows.specs.Reply.{Reply, answer, refused}
use Rattle.months.specs.Kind.{number_in, mark_in}
use Rattle.months.specs.Month.{MonthOfDay}
use Rattle.viewer.specs.declared.Day.{Day}
use Rattle.viewer.specs.declared.Count.{Count}

-- a month has refused 0; a refusal has its number there, and all else 0
abbrev pub day_told : Reply MonthOfDay → Day
day_told (answer m) =
    record {
      first = m.first;
      year = m.year;
      place = m.place;
      day = m.day;
      length = m.length;
      number = number_in m.kind;
      leap = mark_in m.kind;
      refused = 0;
    }
day_told (refused k) = record { first = 0; year = 0; place = 0; day = 0; length = 0; number = 0; leap = 0; refused = k }

-- how many records were written, or why none
abbrev pub count_told : Reply ℕ → Count
count_told (answer n) = record { refused = 0; records = n }
count_told (refused k) = record { refused = k; records = 0 }

-- a month whose numbers the struct's fields can hold
pub record FitsDay (m : MonthOfDay) : Type 0 where
  pub first : m.first < 4_294_967_296
  pub year : m.year < 65_536
  pub place : m.place < 256
  pub day : m.day < 256
  pub length : m.length < 256
  pub number : number_in m.kind < 256
  pub mark : mark_in m.kind < 256
