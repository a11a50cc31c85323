-- A month has 29 or 30 days, in every edition whose first mean new moon is late enough that no correction takes a time below 0.
-- Assumes nothing.
use Prim.Native.Nat.{ℕ, suc, ◌+◌, ◌*◌, ◌%◌, ◌≤◌, ◌<◌}
use native.Mathlib.Omega.{arith}
use Rattle.measure.specs.Units.{day, year, month, anomalistic_month, anomaly_advance, month_deficit}
use Rattle.measure.specs.Epoch.{Epoch, mean_start}
use Rattle.measure.specs.Days.{day_of}
use Rattle.signed.specs.Signed.{Signed}
use Rattle.signed.proofs.Sizes.{Within, gap, gap_is}
use Rattle.moons.specs.Lunation.{mean, solar_time, anomaly}
use Rattle.moons.specs.TrueMoon.{correction, moved}
use Rattle.edition.specs.Edition.{first_day}
use Rattle.moons.proofs.Times.{solar_time_lt, anomaly_lt, mean_least, mean_next, solar_next, anomaly_next}
use Rattle.moons.proofs.Corrected.{correction_size, correction_size_lem, moved_is, true_is, true_near}
use Rattle.inequalities.proofs.SolarStep.{most_solar_advance}
use Rattle.moons.proofs.CorrectionStep.{correction_step}

-- from one day to another it is 29 days or 30
pub record MonthLength (first next : ℕ) : Type 0 where
  pub least : first + 29 ≤ next
  pub most : next ≤ first + 30

-- two times a month apart, whose corrections differ by no more than a month lacks of 30 days
by_step : (t : ℕ) (c c' : Signed)
    → correction_size ≤ t
    → Within correction_size c
    → Within correction_size c'
    → gap c c' ≤ month_deficit
    → MonthLength (day_of (moved t c)) (day_of (moved (t + month) c'))
by_step t c c' h small small' step = omega (arith, moved_is t c, moved_is (t + month) c', gap_is c c')

-- at any solar time and anomaly, for any rule of the year that moves the solar time by no more than a month and a day
pub month_length : (t s e a : ℕ) → correction_size ≤ t → s < year → e ≤ most_solar_advance → a < anomalistic_month
    → MonthLength (day_of (moved t (correction s a)))
    (day_of (moved (t + month) (correction ((s + e) % year) ((a + anomaly_advance) % anomalistic_month))))
month_length t s e a h hs he ha =
    let s' = (s + e) % year in
    let a' = (a + anomaly_advance) % anomalistic_month in
    by_step t (correction s a) (correction s' a') h (correction_size_lem s a) (correction_size_lem s' a')
    (correction_step s e a hs he ha)

-- so month l has 29 or 30 days
pub lunation_length : (e : Epoch) → correction_size ≤ mean_start e → (l : ℕ) → MonthLength (first_day e l) (first_day e (suc l))
unfolding first_day
lunation_length e h l =
    rw (true_is e l 0, true_is e (suc l) 0, mean_next e l 0, solar_next e l 0, anomaly_next e l 0)
    (month_length (mean e l 0) (solar_time e l 0) month (anomaly e l 0) (omega (arith, mean_least e l 0)) (solar_time_lt e l 0)
    (omega arith) (anomaly_lt e l 0))

-- and each true new moon lies no further than a correction's size from its mean
pub record Near (e : Epoch) (l : ℕ) : Type 0 where
  pub not_before : mean e l 0 < first_day e l * day + day + correction_size
  pub not_after : first_day e l * day ≤ mean e l 0 + correction_size

pub near : (e : Epoch) → correction_size ≤ mean_start e → (l : ℕ) → Near e l
unfolding first_day
near e h l =
    let close = true_near e h l 0 in
    record { not_before = omega arith; not_after = omega arith }
