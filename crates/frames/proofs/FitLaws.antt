-- No digit is lost: every field of every month has room in its digits, in any lawful calendar whose years and days do; so has every reply
-- about a day, and its line is read back to the same fields.
-- Assumes nothing.
use mathlib.Core.Path.{◌≡◌}
use Prim.Native.Nat.{ℕ, ◌-◌, ◌^◌, ◌≤◌, ◌<◌}
use native.Mathlib.Omega.{arith}
use Rattle.rows.specs.Reply.{Reply, answer, refused}
use Rattle.measure.specs.Epoch.{shoushi}
use Rattle.month_law.specs.Calendar.{Calendar, month_of, head, year_of}
use Rattle.month_law.specs.Lawful.{Lawful}
use Rattle.month_law.proofs.Months.{day_in_month}
use Rattle.edition.specs.Edition.{calendar}
use Rattle.edition.proofs.Edition.{figures, shoushi_lawful}
use Rattle.months.specs.Month.{MonthOfDay, earliest, latest, month_of_day, day_reply}
use Rattle.months.proofs.ByTerm.{month_of_day_lem}
use Rattle.months.proofs.Sizes.{kind_most}
use Rattle.months.proofs.Dated.{day_admitted}
use Rattle.months.proofs.DayReply.{day_cases}
use Rattle.frames.specs.DayLine.{day_digits}
use Rattle.frames.specs.MonthLine.{shown, month_line, Fits, read_fields}
use Rattle.frames.proofs.MonthLineLaws.{written_read}

module _ (c : Calendar) where
  pub month_fits : Lawful c → (w d : ℕ) → c.first 0 ≤ d → d < 16 ^ w → year_of c (month_of c d) < 16 ^ 3 → Fits w (shown (month_of_day c d))
  month_fits ok w d since until admitted =
      let l = month_of c d in
      let n = year_of c l in
      let held = day_in_month c ok d since in
      let kind = kind_most c n (l - head c n) in
      rw (month_of_day_lem c d)
      (record {
        year = omega arith;
        number = omega (arith, kind);
        mark = omega (arith, kind);
        first = omega (arith, held);
        length = omega (arith, ok.month_most l);
      })

-- five digits hold the calendar's days
pub day_fits : (d : ℕ) → earliest ≤ d → d ≤ latest → Fits day_digits (shown (month_of_day (calendar shoushi) d))
day_fits d since until =
    month_fits (calendar shoushi) shoushi_lawful day_digits d (omega (arith, figures)) (omega arith) (omega (arith, day_admitted d since until))

-- a reply has room in its line
abbrev pub LineFits : ℕ → Reply MonthOfDay → Type 0
LineFits w (answer m) = Fits w (shown m)
LineFits w (refused k) = k < 16 ^ 1

pub reply_fits : (d : ℕ) → LineFits day_digits (day_reply shoushi d)
reply_fits d = day_cases shoushi d (LineFits day_digits) (day_fits d) (omega arith)

-- the month line of every admitted day is read back to what it shows
pub day_line_back : (d : ℕ) → earliest ≤ d → d ≤ latest
    → let m = month_of_day (calendar shoushi) d in
    read_fields day_digits (month_line day_digits (shown m)) ≡ answer (shown m)
day_line_back d since until = written_read day_digits (shown (month_of_day (calendar shoushi) d)) (day_fits d since until)
