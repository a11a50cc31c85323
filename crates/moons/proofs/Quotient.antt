-- A correction's two parts as quotients by the motion, and what is needed of a quotient by a variable.
-- Assumes nothing.
use mathlib.Core.Path.{◌≡◌, refl}
use Prim.Native.Nat.{ℕ, ◌+◌, ◌*◌, ◌-◌, ◌/◌, ◌≤◌, ◌<◌}
use native.Mathlib.Nat.{mul-le-mul_left, div-mul-le_self, lt-div-mul-add, div-lt_iff_lt-mul}
use native.Mathlib.Omega.{arith}
use Rattle.signed.specs.Signed.{Signed}
use Rattle.inequalities.proofs.MotionRows.{least_motion}
use Rattle.moons.specs.TrueMoon.{correction_factor, corrected}

pub quotient : ℕ → ℕ → ℕ
quotient x m = x * correction_factor / m

module _ (x m : ℕ) (h : least_motion ≤ m) where
  pub quotient_above : x * correction_factor < quotient x m * m + m
  unfolding quotient
  quotient_above = lt-div-mul-add {a = x * correction_factor} {b = m} (omega arith)

  pub quotient_below : (q : ℕ) → x * correction_factor < q * m → quotient x m < q
  unfolding quotient
  quotient_below q l = (div-lt_iff_lt-mul {k = m} {x = x * correction_factor} {y = q} (omega arith)).1 l

  -- no more than a quotient by the least motion
  pub quotient_least : quotient x m * least_motion ≤ x * correction_factor
  unfolding quotient
  quotient_least = omega (arith, div-mul-le_self (x * correction_factor) m, mul-le-mul_left (quotient x m) h)

pub record Quotients (z c : Signed) (m : ℕ) : Type 0 where
  pub ahead_is : c.ahead ≡ quotient (z.ahead - z.behind) m
  pub behind_is : c.behind ≡ quotient (z.behind - z.ahead) m

pub corrected_is : (z : Signed) (m : ℕ) → Quotients z (corrected z m) m
unfolding corrected quotient
corrected_is z m = record { ahead_is = refl; behind_is = refl }
