-- The steps from the two inequalities and the motion to the correction and the true moon, in 64 bits: each fits, and is read back.
-- Assumes nothing.
use mathlib.Core.Path.{◌≡◌, ◌∙◌, sym, ap, subst}
use Prim.Native.Nat.{ℕ, suc, ◌+◌, ◌*◌, ◌^◌, ◌≤◌, ◌<◌}
use native.Mathlib.Nat.{le_trans}
use native.Mathlib.Omega.{arith}
use lib.IntN.{ℤ, pos, negsuc, ◌+ℤ◌, ◌-ℤ◌, ◌*ℤ◌}
use lib.Signed.{mag, quot_z}
use mir.Syntax.{w64}
use mir.Val.{SFits, to_z, of_z}
use mir.Facts.{to_z-of_z}
use Rattle.measure.specs.Epoch.{shoushi}
use Rattle.signed.specs.Signed.{minus, integer}
use Rattle.signed.proofs.Integers.{integer_minus, integer_mag, opposite_mag, held}
use Rattle.inequalities.specs.Solar.{solar}
use Rattle.inequalities.specs.Lunar.{lunar}
use Rattle.inequalities.specs.Motion.{motion}
use Rattle.inequalities.proofs.MotionAt.{motion_most}
use Rattle.moons.specs.Lunation.{Counted, mean}
use Rattle.moons.specs.TrueMoon.{correction_factor, correction, correction_of, moved, true_moon}
use Rattle.moons.proofs.Times.{mean_most}
use Rattle.moons.proofs.Corrected.{difference, integer_correction, difference_size, difference_size_lem, correction_size_lem, correction_of_size, integer_true}

-- ---- what fits
mag_mul : (z : ℤ) (k : ℕ) → mag (z *ℤ pos k) ≤ (mag z + 1) * k
mag_mul (pos n) k = omega arith
mag_mul (negsuc n) k = le_trans (opposite_mag (suc n * k)) (omega arith)

difference_mag : (s a : ℕ) → mag (difference s a) ≤ difference_size
unfolding difference
difference_mag s a =
    rw (sym (integer_minus (solar s) (lunar a)))
    (le_trans (integer_mag (minus (solar s) (lunar a))) (difference_size_lem s a))

pub difference_fits : (s a : ℕ) → SFits w64 (difference s a)
difference_fits s a = record { sfits = omega (arith, difference_mag s a) }

pub product_fits : (s a : ℕ) → SFits w64 (difference s a *ℤ pos correction_factor)
product_fits s a =
    record { sfits = omega (arith, difference_mag s a, mag_mul (difference s a) correction_factor) }

pub correction_fits : (s a : ℕ) → SFits w64 (integer (correction s a))
correction_fits s a =
    record { sfits = omega (arith, integer_mag (correction s a), correction_size_lem s a) }

pub motion_fits : (a : ℕ) → SFits w64 (pos (motion a))
motion_fits a = record { sfits = omega (arith, motion_most a) }

module _ (l q : ℕ) (h : Counted l q) where
  pub mean_fits : SFits w64 (pos (mean shoushi l q))
  mean_fits = record { sfits = omega (arith, mean_most l q h) }

  pub true_fits : SFits w64 (pos (true_moon shoushi l q))
  unfolding true_moon moved
  true_fits = record { sfits = omega (arith, mean_most l q h, correction_of_size l q) }

pub fits_as : {z w : ℤ} → z ≡ w → SFits w64 w → SFits w64 z
fits_as e f = subst (SFits w64) (sym e) f

-- ---- what is read where z was written
abbrev pub read : ℤ → ℤ
read z = to_z w64 (of_z w64 z)

read_as : {z w : ℤ} → z ≡ w → SFits w64 w → read z ≡ w
read_as e f = ap read e ∙ to_z-of_z f

module _ (s a : ℕ) (x y : ℤ) (sun : x ≡ integer (solar s)) (moon : y ≡ integer (lunar a))
    (x_Fits : mag x < 2 ^ 63) (y_fits : mag y < 2 ^ 63) where
  pub difference_read : read x -ℤ read y ≡ difference s a
  unfolding difference
  difference_read = rw (held x x_Fits, held y y_fits, sun, moon)

  pub product_read : read (read x -ℤ read y) *ℤ pos correction_factor ≡ difference s a *ℤ pos correction_factor
  product_read = ap (λ (z : ℤ). z *ℤ pos correction_factor) (read_as difference_read (difference_fits s a))

  module _ (m : ℕ) (rate : m ≡ motion a) where
    pub quotient_read : quot_z (read (read (read x -ℤ read y) *ℤ pos correction_factor)) (to_z w64 m) ≡ integer (correction s a)
    quotient_read =
        rw (read_as product_read (product_fits s a), rate, to_z-of_z (motion_fits a)) (integer_correction s a)

    pub correction_read : read (quot_z (read (read (read x -ℤ read y) *ℤ pos correction_factor)) (to_z w64 m))
        ≡ integer (correction s a)
    correction_read = read_as quotient_read (correction_fits s a)

module _ (l q : ℕ) (h : Counted l q) (t : ℕ) (z : ℤ)
    (at : t ≡ mean shoushi l q) (by : z ≡ integer (correction_of shoushi l q)) (z_fits : mag z < 2 ^ 63) where
  pub sum_read : to_z w64 t +ℤ read z ≡ pos (true_moon shoushi l q)
  sum_read = rw (held z z_fits, at, by, to_z-of_z (mean_fits l q h)) (integer_true l q)

  pub true_read : read (to_z w64 t +ℤ read z) ≡ pos (true_moon shoushi l q)
  true_read = read_as sum_read (true_fits l q h)
