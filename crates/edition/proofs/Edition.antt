-- The calendar of an epoch is lawful, where lunation 0 is the month of the first solstice and no correction takes a time below 0; so
-- is that of the Shoushi, whose ends are computed.
-- Assumes nothing.
use mathlib.Core.Path.{◌≡◌, sym, ap}
use Prim.Native.Nat.{ℕ, suc, ◌+◌, ◌*◌, ◌/◌, ◌%◌, ◌≤◌, ◌<◌}
use native.Mathlib.Omega.{arith}
use Rattle.measure.specs.Units.{term_step, last_year}
use Rattle.measure.specs.Epoch.{Epoch, shoushi, mean_start}
use Rattle.measure.specs.Days.{day_of}
use Rattle.seasons.proofs.TermLaws.{term_is}
use Rattle.moons.proofs.Corrected.{correction_size}
use Rattle.moons.proofs.Figures.{true_moons}
use Rattle.month_law.specs.Calendar.{head}
use Rattle.month_law.specs.Lawful.{Lawful}
use Rattle.month_law.proofs.Months.{head_unique}
use Rattle.month_law.proofs.Demand.{Ends}
use Rattle.edition.specs.Edition.{middle_day, calendar, first_day}
use Rattle.edition.proofs.MonthLength.{lunation_length}

-- two term steps from each middle term to the next, also from year to year
pub middle_day_lem : (e : Epoch) (j : ℕ) → middle_day e j ≡ day_of (e.solstice + j * (2 * term_step))
unfolding middle_day
middle_day_lem e j = omega (arith, term_is e (j / 12) (2 * (j % 12)))

-- the days that the Shoushi's lists begin with and end before, computed
pub record Figures : Type 0 where
  pub first_0 : (calendar shoushi).first 0 ≡ 35
  pub first_1 : (calendar shoushi).first 1 ≡ 64
  pub solstice_0 : (calendar shoushi).mid 0 ≡ 55
  pub first_1000 : (calendar shoushi).first 12_368 ≡ 365_269
  pub next_1000 : (calendar shoushi).first 12_369 ≡ 365_299
  pub solstice_1000 : (calendar shoushi).mid 12_000 ≡ 365_297

pub figures : Figures
unfolding first_day
figures =
    record {
      first_0 = ap day_of true_moons.moon_0;
      first_1 = ap day_of true_moons.moon_1;
      solstice_0 = middle_day_lem shoushi 0;
      first_1000 = ap day_of true_moons.moon_12368;
      next_1000 = ap day_of true_moons.moon_12369;
      solstice_1000 = middle_day_lem shoushi 12_000;
    }

-- where an edition may open
pub record Opens (e : Epoch) : Type 0 where
  -- the first mean new moon is later than any correction is large
  pub late : correction_size ≤ mean_start e
  -- lunation 0 is the head of year 0: it holds the day of the solstice
  pub opening : (calendar e).first 0 ≤ (calendar e).mid 0
  pub opened : (calendar e).mid 0 < (calendar e).first 1

pub lawful : (e : Epoch) → Opens e → Lawful (calendar e)
lawful e o =
    record {
      month_least = λ l. (lunation_length e o.late l).least;
      month_most = λ l. (lunation_length e o.late l).most;
      terms_apart = λ j. omega (arith, middle_day_lem e j, middle_day_lem e (suc j));
      year_most = λ n. omega (arith, middle_day_lem e (12 * n), middle_day_lem e (12 * suc n));
      opening = o.opening;
      opened = o.opened;
    }

shoushi_opens : Opens shoushi
shoushi_opens = record { late = omega arith; opening = omega (arith, figures); opened = omega (arith, figures) }

pub shoushi_lawful : Lawful (calendar shoushi)
shoushi_lawful = lawful shoushi shoushi_opens

-- the head after the last list
pub head_1000 : head (calendar shoushi) 1_000 ≡ 12_368
head_1000 =
    sym
    (head_unique (calendar shoushi) shoushi_lawful 1_000 12_368
    (record { since = omega (arith, figures); until = omega (arith, figures) }))

-- the years 0 to 999 have the days 35 to 365,268 and the lunations before 12,368
pub shoushi_ends : Ends (calendar shoushi) last_year 35 365_268 12_368
shoushi_ends = record { first_day_lem = figures.first_0; next_head = head_1000; next_day = figures.first_1000 }
