-- Where the Shoushi's months lie: the month of a day is that of the mean new moon before it, or the one before or after; and the lists of
-- the admitted years reach from lunation 0 to 12,367.
-- Assumes nothing.
use mathlib.Core.Path.{◌≡◌, ap, ◌∙◌}
use Prim.Native.Nat.{ℕ, suc, ◌+◌, ◌*◌, ◌≤◌, ◌<◌}
use native.Mathlib.Omega.{arith}
use Rattle.measure.specs.Units.{day, month, last_year}
use Rattle.measure.specs.Epoch.{shoushi, mean_start}
use Rattle.moons.specs.Lunation.{last_lunation}
use Rattle.moons.proofs.Times.{mean_new}
use Rattle.moons.proofs.Corrected.{correction_size}
use Rattle.month_law.specs.Calendar.{Calendar, month_of, head, months_in}
use Rattle.edition.specs.Edition.{middle_day, calendar}
use Rattle.edition.proofs.MonthLength.{near}
use Rattle.month_law.proofs.Rising.{rises_weakly, order_back}
use Rattle.month_law.proofs.Months.{InMonth, first_rises, day_in_month, month_of_lem, head_rises}
use Rattle.month_law.proofs.Lists.{months_in_least}
use Rattle.edition.proofs.Edition.{figures, middle_day_lem, shoushi_lawful, head_1000}
use Rattle.months.specs.Month.{earliest, latest}
use Rattle.months.specs.Span.{span_of, LastBefore}
use Rattle.months.specs.declared.Span.{Span}
use Rattle.months.proofs.Spans.{next_is}

abbrev c : Calendar
c = calendar shoushi

-- no month that is counted begins after the day that follows the latest
pub first_most : (l : ℕ) → l ≤ suc last_lunation → c.first l ≤ suc latest
first_most l h = omega (arith, figures, rises_weakly c.first (first_rises c shoushi_lawful) l (suc last_lunation) h)

pub end_small : (span : Span) (l : ℕ) → span ≡ span_of c l → l ≤ last_lunation → span.next ≤ suc latest
end_small span l e h = omega (arith, next_is c span l e, first_most (suc l) (omega arith))

-- a middle term before then is of an admitted year
pub term_small : (next j : ℕ) → next ≤ suc latest → LastBefore c next j → j < 12_000
term_small next j h last = omega (arith, last.come, middle_day_lem shoushi j)

-- the months of the calendar's days
module _ (d : ℕ) (since : earliest ≤ d) (until : d ≤ latest) where
  pub month_held : InMonth c (month_of c d) d
  month_held = day_in_month c shoushi_lawful d (omega (arith, figures))

  pub month_most : month_of c d ≤ last_lunation
  month_most =
      omega (
        arith,
        order_back c.first (first_rises c shoushi_lawful) (month_of c d) (suc last_lunation) (omega (arith, figures, month_held)),
      )

-- the heads
pub head_most : (n : ℕ) → n ≤ suc last_year → head c n ≤ suc last_lunation
head_most n h = omega (arith, head_1000, rises_weakly (head c) (head_rises c shoushi_lawful) n (suc last_year) h)

pub list_most : (n : ℕ) → n ≤ last_year → head c n + months_in c n ≤ suc last_lunation
list_most n h = omega (arith, head_most (suc n) (omega arith), head_rises c shoushi_lawful n)

pub place_most : (n p : ℕ) → n ≤ last_year → p < 13 → head c n + p ≤ suc last_lunation
place_most n p h k = omega (arith, list_most n h, months_in_least c shoushi_lawful n)

-- the solstice of a year, at the latest that of the year after the last
pub solstice_most : (n : ℕ) → n ≤ suc last_year → middle_day shoushi (12 * n) ≤ latest + 30
solstice_most n h = omega (arith, middle_day_lem shoushi (12 * n))

pub solstice_least : (j : ℕ) → earliest ≤ middle_day shoushi j
solstice_least j = omega (arith, middle_day_lem shoushi j)

-- l is the last mean new moon not after the beginning of day d
pub record MeanBefore (d l : ℕ) : Type 0 where
  pub come : mean_start shoushi + l * month ≤ d * day
  pub next : d * day < mean_start shoushi + l * month + month

late : correction_size ≤ mean_start shoushi
late = omega arith

module _ (d l : ℕ) (at : MeanBefore d l) where
  pub begun_before : (k : ℕ) → suc k ≡ l → c.first k ≤ d
  begun_before k e = omega (arith, near shoushi late k, mean_new shoushi k)

  pub over_after : d < c.first (l + 2)
  over_after = omega (arith, near shoushi late (l + 2), mean_new shoushi (l + 2))

-- a month that holds the day is the day's
pub span_is : (d l first next : ℕ) → first ≡ c.first l → next ≡ c.first (suc l) → first ≤ d → d < next
    → ◌≡◌ {A = Span} (record { lunation = l; first = first; next = next }) (span_of c (month_of c d))
span_is d l first next f n since until =
    (λ i. record { lunation = l; first = f i; next = n i })
    ∙ ap (span_of c) (month_of_lem c shoushi_lawful d l (record { since = omega arith; until = omega arith }))
