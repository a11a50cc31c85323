-- The correction as one number with a sign: the quotient that a program takes is the definition's, and small; and the true moon is
-- the mean moon with it added.
-- Assumes nothing.
use mathlib.Core.Path.{◌≡◌, ◌∙◌, refl, sym}
use Prim.Native.Nat.{ℕ, zero, suc, ◌+◌, ◌*◌, ◌-◌, ◌/◌, ◌≤◌}
use native.Mathlib.Nat.{zero-div}
use native.Mathlib.Omega.{arith}
use lib.IntN.{ℤ, pos, negsuc, neg_ℤ, ◌+ℤ◌, ◌-ℤ◌, ◌*ℤ◌}
use lib.Signed.{quot_z}
use Rattle.measure.specs.Epoch.{Epoch, shoushi, mean_start}
use Rattle.signed.specs.Signed.{Signed, ahead_by, minus, integer}
use Rattle.signed.proofs.Integers.{Is, is_subℕ, is_neg, is_integer, integer_is, integer_ahead, integer_minus}
use Rattle.signed.proofs.Sizes.{Within}
use Rattle.inequalities.specs.Solar.{solar}
use Rattle.inequalities.specs.Lunar.{lunar}
use Rattle.inequalities.specs.Motion.{motion}
use Rattle.inequalities.proofs.Sizes.{solar_size, lunar_size, solar_size_lem, lunar_size_lem}
use Rattle.inequalities.proofs.MotionAt.{motion_least}
use Rattle.moons.specs.Lunation.{mean, solar_time, anomaly}
use Rattle.moons.specs.TrueMoon.{correction_factor, corrected, correction, correction_of, moved, true_moon}
use Rattle.moons.proofs.Quotient.{quotient_least, corrected_is}
use Rattle.moons.proofs.Times.{mean_least}

-- ---- the quotient
quot_neg : (n m : ℕ) → quot_z (neg_ℤ (pos n)) (pos m) ≡ neg_ℤ (pos (n / m))
quot_neg zero m = simp zero-div
quot_neg (suc n) m = refl

is_corrected : (z : ℤ) (x : Signed) (m : ℕ) → Is z x → Is (quot_z (z *ℤ pos correction_factor) (pos m)) (corrected x m)
unfolding corrected
is_corrected (pos n) x m h =
    let left : x.ahead - x.behind ≡ n = omega arith in
    let none : x.behind - x.ahead ≡ 0 = omega arith in
    simp (left, none, zero-div) (omega arith)
is_corrected (negsuc n) x m h =
    let none : x.ahead - x.behind ≡ 0 = omega arith in
    let left : x.behind - x.ahead ≡ suc n = omega arith in
    rw (quot_neg (suc n * correction_factor) m)
    (is_neg (suc n * correction_factor / m) (corrected x m) (simp (left, none, zero-div) (omega arith)))

unfoldable pub difference : ℕ → ℕ → ℤ
difference s a = integer (solar s) -ℤ integer (lunar a)

pub integer_correction : (s a : ℕ) → quot_z (difference s a *ℤ pos correction_factor) (pos (motion a)) ≡ integer (correction s a)
unfolding correction difference
integer_correction s a =
    let x = minus (solar s) (lunar a) in
    rw (sym (integer_minus (solar s) (lunar a)))
    (sym (integer_is (quot_z (integer x *ℤ pos correction_factor) (pos (motion a))) (corrected x (motion a))
    (is_corrected (integer x) x (motion a) (is_integer x))))

-- ---- its size: 1.2 days at most
abbrev pub difference_size : ℕ
difference_size = solar_size + lunar_size

pub difference_size_lem : (s a : ℕ) → Within difference_size (minus (solar s) (lunar a))
difference_size_lem s a = omega (arith, solar_size_lem s, lunar_size_lem a)

abbrev pub correction_size : ℕ
correction_size = 120_000_000

pub correction_size_lem : (s a : ℕ) → Within correction_size (correction s a)
unfolding correction
correction_size_lem s a =
    let x = minus (solar s) (lunar a) in
    omega (
      arith,
      difference_size_lem s a,
      corrected_is x (motion a),
      quotient_least (x.ahead - x.behind) (motion a) (motion_least a),
      quotient_least (x.behind - x.ahead) (motion a) (motion_least a),
    )

-- ---- the true moon
pub moved_is : (t : ℕ) (c : Signed) → moved t c ≡ t + c.ahead - c.behind
unfolding moved
moved_is t c = refl

module _ (e : Epoch) (l q : ℕ) where
  pub true_is : true_moon e l q ≡ moved (mean e l q) (correction (solar_time e l q) (anomaly e l q))
  unfolding true_moon correction_of
  true_is = refl

-- a true moon is never further than a correction's size from its mean, where none takes a time below 0
pub record TrueNear (e : Epoch) (l q : ℕ) : Type 0 where
  pub not_before : mean e l q ≤ true_moon e l q + correction_size
  pub not_after : true_moon e l q ≤ mean e l q + correction_size

pub true_near : (e : Epoch) → correction_size ≤ mean_start e → (l q : ℕ) → TrueNear e l q
true_near e h l q =
    let c = correction (solar_time e l q) (anomaly e l q) in
    let small : Within correction_size c = correction_size_lem (solar_time e l q) (anomaly e l q) in
    let is = true_is e l q in
    let sum = moved_is (mean e l q) c in
    record { not_before = omega (arith, mean_least e l q); not_after = omega (arith, mean_least e l q) }

is_moved : (z : ℤ) (t : ℕ) (c : Signed) → Is z c → c.behind ≤ t + c.ahead → Is (pos t +ℤ z) (ahead_by (moved t c))
unfolding moved
is_moved (pos n) t c h k = omega arith
is_moved (negsuc n) t c h k = is_subℕ t (suc n) (ahead_by (moved t c)) (omega arith)

module _ (l q : ℕ) where
  pub correction_of_size : (correction_of shoushi l q).ahead + (correction_of shoushi l q).behind ≤ correction_size
  unfolding correction_of
  correction_of_size = correction_size_lem (solar_time shoushi l q) (anomaly shoushi l q)

  -- no true moon falls before the running time 0
  pub correction_le_mean : (correction_of shoushi l q).behind ≤ mean shoushi l q
  correction_le_mean = omega (arith, mean_least shoushi l q, correction_of_size)

  pub integer_true : pos (mean shoushi l q) +ℤ integer (correction_of shoushi l q) ≡ pos (true_moon shoushi l q)
  unfolding true_moon
  integer_true =
      let c = correction_of shoushi l q in
      sym (integer_is (pos (mean shoushi l q) +ℤ integer c) (ahead_by (moved (mean shoushi l q) c))
      (is_moved (integer c) (mean shoushi l q) c (is_integer c) (omega (arith, correction_le_mean))))
      ∙ integer_ahead (moved (mean shoushi l q) c)
