-- The corrections of two lunations in a row differ by at most 46,940,700: 30 days less a month.
-- Assumes nothing.
use mathlib.Core.Logic.{◌⊎◌, inl, inr, ⊎_elim}
use mathlib.Core.Path.{◌≡◌}
use Prim.Native.Nat.{ℕ, ◌+◌, ◌-◌, ◌%◌, ◌≤◌, ◌<◌}
use native.Mathlib.Nat.{mul-le-mul_left}
use native.Mathlib.Omega.{arith}
use Rattle.measure.specs.Units.{year, anomalistic_month, anomaly_advance, month_deficit}
use Rattle.rows.proofs.Choice.{lt_or_ge}
use Rattle.signed.specs.Signed.{Signed, ahead_by, minus}
use Rattle.signed.proofs.Sizes.{Within, gap, gap_is, gap_sym, gap_minus}
use Rattle.inequalities.specs.Solar.{solar}
use Rattle.inequalities.specs.Lunar.{lunar}
use Rattle.inequalities.specs.Motion.{motion}
use Rattle.inequalities.proofs.MotionRows.{least_motion, motion_step}
use Rattle.inequalities.proofs.MotionAt.{motion_least}
use Rattle.moons.specs.TrueMoon.{corrected, correction}
use Rattle.moons.proofs.Corrected.{difference_size, difference_size_lem}
use Rattle.moons.proofs.Quotient.{quotient, quotient_above, quotient_below, quotient_least, corrected_is}
use Rattle.inequalities.proofs.SolarStep.{most_solar_advance, solar_step_bound, solar_step}
use Rattle.inequalities.proofs.LunarStep.{lunar_step_bound, lunar_step}
use Rattle.inequalities.proofs.MotionStep.{motion_step_lem}

-- how far solar less lunar moves
abbrev difference_step : ℕ
difference_step = solar_step_bound + lunar_step_bound

-- two magnitudes of one sign
quotient_step : (x x' m m' : ℕ)
    → x ≤ difference_size
    → x' ≤ x + difference_step
    → least_motion ≤ m
    → least_motion ≤ m'
    → m ≤ m' + motion_step
    → quotient x' m' ≤ quotient x m + month_deficit
quotient_step x x' m m' size step h h' near =
    omega (
      arith,
      quotient_below x' m' h' (quotient x m + month_deficit + 1)
          (omega (
            arith,
            quotient_above x m h,
            quotient_least x m h,
            mul-le-mul_left (quotient x m + 1) near,
          )),
    )

-- two magnitudes of different signs
quotients_sum : (x x' m m' : ℕ) → x + x' ≤ difference_step → least_motion ≤ m → least_motion ≤ m'
    → quotient x m + quotient x' m' ≤ month_deficit
quotients_sum x x' m m' sum h h' = omega (arith, quotient_least x m h, quotient_least x' m' h')

-- x less y and then x' less y', of each one part 0: how far the correction rises
rises : (x y x' y' m m' : ℕ)
    → (x ≡ 0) ⊎ (y ≡ 0)
    → (x' ≡ 0) ⊎ (y' ≡ 0)
    → x ≤ difference_size
    → y' ≤ difference_size
    → x' + y ≤ x + y' + difference_step
    → least_motion ≤ m
    → least_motion ≤ m'
    → m ≤ m' + motion_step
    → m' ≤ m + motion_step
    → quotient x' m' + quotient y m ≤ quotient x m + quotient y' m' + month_deficit
rises x y x' y' m m' (inl x0) (inl x0') size size' step h h' near near' =
    omega (arith, quotient_least x' m' h', quotient_step y' y m' m size' (omega arith) h' h near')
rises x y x' y' m m' (inl x0) (inr y0') size size' step h h' near near' =
    omega (arith, quotients_sum x' y m' m (omega arith) h' h)
rises x y x' y' m m' (inr y0) (inl x0') size size' step h h' near near' =
    omega (arith, quotient_least x' m' h', quotient_least y m h)
rises x y x' y' m m' (inr y0) (inr y0') size size' step h h' near near' =
    omega (arith, quotient_least y m h, quotient_step x x' m m' size (omega arith) h h' near)

one_part : (m n : ℕ) → (m - n ≡ 0) ⊎ (n - m ≡ 0)
one_part m n = ⊎_elim (λ (l : m < n). inl (omega arith)) (λ (l : n ≤ m). inr (omega arith)) (lt_or_ge m n)

-- any two differences and motions so near
module _ (z z' : Signed) (m m' : ℕ) (size : Within difference_size z) (size' : Within difference_size z') (step : gap z z' ≤ difference_step)
    (h : least_motion ≤ m) (h' : least_motion ≤ m') (near : gap (ahead_by m) (ahead_by m') ≤ motion_step) where
  corrected_rises : (corrected z' m').ahead + (corrected z m).behind
      ≤ (corrected z m).ahead + (corrected z' m').behind + month_deficit
  corrected_rises =
      let apart = gap_is z z' in
      let rates = gap_is (ahead_by m) (ahead_by m') in
      omega (
        arith,
        corrected_is z m,
        corrected_is z' m',
        rises (z.ahead - z.behind) (z.behind - z.ahead) (z'.ahead - z'.behind) (z'.behind - z'.ahead) m m'
            (one_part z.ahead z.behind) (one_part z'.ahead z'.behind)
            (omega arith) (omega arith) (omega arith) h h' (omega arith) (omega arith),
      )

module _ (z z' : Signed) (m m' : ℕ) (size : Within difference_size z) (size' : Within difference_size z') (step : gap z z' ≤ difference_step)
    (h : least_motion ≤ m) (h' : least_motion ≤ m') (near : gap (ahead_by m) (ahead_by m') ≤ motion_step) where
  corrected_step : gap (corrected z m) (corrected z' m') ≤ month_deficit
  corrected_step =
      omega (
        arith,
        gap_is (corrected z m) (corrected z' m'),
        corrected_rises z z' m m' size size' step h h' near,
        corrected_rises z' z m' m size' size (rw (gap_sym z' z) step) h' h (rw (gap_sym (ahead_by m') (ahead_by m)) near),
      )

-- at any solar time, with any advance up to a month and a day, and at any anomaly, with that of the next lunation
pub correction_step : (s e a : ℕ) → s < year → e ≤ most_solar_advance → a < anomalistic_month
    → gap (correction s a) (correction ((s + e) % year) ((a + anomaly_advance) % anomalistic_month)) ≤ month_deficit
unfolding correction
correction_step s e a hs he ha =
    let s' = (s + e) % year in
    let a' = (a + anomaly_advance) % anomalistic_month in
    corrected_step (minus (solar s) (lunar a)) (minus (solar s') (lunar a')) (motion a) (motion a')
    (difference_size_lem s a) (difference_size_lem s' a')
    (omega (arith, gap_minus (solar s) (lunar a) (solar s') (lunar a'), solar_step s e hs he, lunar_step a ha))
    (motion_least a) (motion_least a') (motion_step_lem a ha)
