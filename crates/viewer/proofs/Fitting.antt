-- The numbers of every reply about a day fit the struct that the viewer is told; a month has days, and no refusal is numbered 0.
-- Assumes nothing.
use Prim.Native.Nat.{ℕ, ◌-◌, ◌≤◌, ◌<◌}
use native.Mathlib.Omega.{arith}
use Rattle.rows.specs.Reply.{Reply, answer, refused}
use Rattle.measure.specs.Epoch.{shoushi}
use Rattle.month_law.specs.Calendar.{Calendar, month_of, head, year_of}
use Rattle.edition.specs.Edition.{calendar}
use Rattle.month_law.proofs.Terms.{InList}
use Rattle.month_law.proofs.Lists.{months_in_most}
use Rattle.month_law.proofs.Runs.{year_listed}
use Rattle.edition.proofs.Edition.{shoushi_lawful}
use Rattle.months.specs.Month.{MonthOfDay, earliest, latest, month_of_day, day_reply}
use Rattle.months.proofs.Reach.{month_held}
use Rattle.months.proofs.ByTerm.{month_of_day_lem}
use Rattle.months.proofs.Sizes.{kind_most}
use Rattle.months.proofs.DayReply.{day_cases}
use Rattle.months.proofs.Dated.{day_admitted}
use Rattle.viewer.specs.Told.{FitsDay}

abbrev c : Calendar
c = calendar shoushi

-- the month of a day of the calendar stands in the list of an admitted year
module _ (d : ℕ) (since : earliest ≤ d) (until : d ≤ latest) where
  abbrev l : ℕ
  l = month_of c d

  abbrev n : ℕ
  n = year_of c l

  listed : InList c n l
  listed = year_listed c shoushi_lawful l

  month_fits : FitsDay (month_of_day c d)
  month_fits =
      let held = month_held d since until in
      let kind = kind_most c n (l - head c n) in
      rw (month_of_day_lem c d)
      (record {
        first = omega (arith, held);
        year = omega (arith, day_admitted d since until);
        place = omega (arith, listed, months_in_most c shoushi_lawful n);
        day = omega (arith, held, shoushi_lawful.month_most l);
        length = omega (arith, shoushi_lawful.month_most l);
        number = omega (arith, kind);
        mark = omega (arith, kind);
      })

month_days : (d : ℕ) → 29 ≤ (month_of_day c d).length
month_days d = rw (month_of_day_lem c d) (omega (arith, shoushi_lawful.month_least (month_of c d)))

abbrev pub ReplyFits : Reply MonthOfDay → Type 0
ReplyFits (answer m) = FitsDay m × (29 ≤ m.length)
ReplyFits (refused k) = (0 < k) × (k < 256)

pub reply_fits : (d : ℕ) → ReplyFits (day_reply shoushi d)
reply_fits d =
    day_cases shoushi d ReplyFits (λ since until. (month_fits d since until, month_days d)) (omega arith)
