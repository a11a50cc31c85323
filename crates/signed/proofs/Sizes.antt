-- How large a signed number is, and how far two lie apart.
-- Assumes nothing.
use mathlib.Core.Path.{◌≡◌, refl}
use Prim.Native.Nat.{ℕ, ◌+◌, ◌-◌, ◌≤◌}
use native.Mathlib.Omega.{arith}
use Rattle.signed.specs.Signed.{Signed, ahead_by, behind_by, minus}

-- both parts of a signed number together are no more than n
abbrev pub Within : ℕ → Signed → Type 0
Within n x = x.ahead + x.behind ≤ n

-- the magnitude of the difference: of the two differences of naturals one is 0
unfoldable pub gap : Signed → Signed → ℕ
gap x y = x.ahead + y.behind - (y.ahead + x.behind) + (y.ahead + x.behind - (x.ahead + y.behind))

-- what a caller knows of it
pub gap_is : (x y : Signed) → gap x y ≡ x.ahead + y.behind - (y.ahead + x.behind) + (y.ahead + x.behind - (x.ahead + y.behind))
unfolding gap
gap_is x y = refl

pub gap_sym : (x y : Signed) → gap x y ≡ gap y x
unfolding gap
gap_sym x y = omega arith

pub gap_triangle : (x y z : Signed) → gap x z ≤ gap x y + gap y z
unfolding gap
gap_triangle x y z = omega arith

pub gap_minus : (x y x' y' : Signed) → gap (minus x y) (minus x' y') ≤ gap x x' + gap y y'
unfolding gap
gap_minus x y x' y' = omega arith

pub gap_behind : (m n : ℕ) → gap (behind_by m) (behind_by n) ≡ gap (ahead_by m) (ahead_by n)
unfolding gap
gap_behind m n = omega arith
