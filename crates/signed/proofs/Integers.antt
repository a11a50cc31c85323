-- A signed number's integer: what a pair of naturals comes to, for programs that hold one number with a sign.
-- Assumes nothing.
use mathlib.Core.Bool.{Bool, true, false, not, cond}
use mathlib.Core.Path.{◌≡◌, refl, ap, ◌∙◌}
use Prim.Native.Nat.{ℕ, zero, suc, ◌+◌, ◌-◌, ◌^◌, ◌≤◌, ◌<◌}
use native.Mathlib.Omega.{arith}
use lib.Dec.{T, ltb, ltb→lt, nltb→le}
use lib.IntN.{ℤ, pos, negsuc, neg_ℤ, sub_ℕ, ◌-ℤ◌}
use lib.Signed.{mag}
use mir.Syntax.{w64}
use mir.Val.{to_z, of_z}
use mir.Facts.{to_z-of_z}
use Rattle.signed.specs.Signed.{Signed, ahead_by, behind_by, minus, integer}

-- the integer z is what is ahead in x less what is behind
abbrev pub Is : ℤ → Signed → Type 0
Is (pos n) x = n + x.behind ≡ x.ahead
Is (negsuc n) x = suc n + x.ahead ≡ x.behind

pub is_subℕ : (a b : ℕ) (x : Signed) → a + x.behind ≡ b + x.ahead → Is (sub_ℕ a b) x
is_subℕ a b x h = go (ltb a b) (ltb→lt a b) (nltb→le a b)
  where
    go : (t : Bool) → (T t → a < b) → (T (not t) → b ≤ a) → Is (cond t (negsuc (b - suc a)) (pos (a - b))) x
    go true l k = let less = l tt in omega arith
    go false l k = let more = k tt in omega arith

pub is_neg : (n : ℕ) (x : Signed) → n + x.ahead ≡ x.behind → Is (neg_ℤ (pos n)) x
is_neg zero x h = omega arith
is_neg (suc n) x h = omega arith

pub is_integer : (x : Signed) → Is (integer x) x
unfolding integer
is_integer x = is_subℕ x.ahead x.behind x (omega arith)

is_unique : (z w : ℤ) (x : Signed) → Is z x → Is w x → z ≡ w
is_unique (pos m) (pos n) x h k = ap pos (omega arith)
is_unique (pos m) (negsuc n) x h k = absurd (omega arith)
is_unique (negsuc m) (pos n) x h k = absurd (omega arith)
is_unique (negsuc m) (negsuc n) x h k = ap negsuc (omega arith)

-- only one integer is a pair's
pub integer_is : (z : ℤ) (x : Signed) → Is z x → integer x ≡ z
integer_is z x h = is_unique (integer x) z x (is_integer x) h

pub integer_ahead : (n : ℕ) → integer (ahead_by n) ≡ pos n
integer_ahead n = integer_is (pos n) (ahead_by n) (omega arith)

pub integer_behind : (n : ℕ) → integer (behind_by n) ≡ neg_ℤ (pos n)
integer_behind n = integer_is (neg_ℤ (pos n)) (behind_by n) (is_neg n (behind_by n) (omega arith))

is_minus : (z w : ℤ) (x y : Signed) → Is z x → Is w y → Is (z -ℤ w) (minus x y)
is_minus (pos m) (pos zero) x y h k = omega arith
is_minus (pos m) (pos (suc n)) x y h k = is_subℕ m (suc n) (minus x y) (omega arith)
is_minus (pos m) (negsuc n) x y h k = omega arith
is_minus (negsuc m) (pos zero) x y h k = is_subℕ 0 (suc m) (minus x y) (omega arith)
is_minus (negsuc m) (pos (suc n)) x y h k = omega arith
is_minus (negsuc m) (negsuc n) x y h k = is_subℕ (suc n) (suc m) (minus x y) (omega arith)

pub integer_minus : (x y : Signed) → integer (minus x y) ≡ integer x -ℤ integer y
integer_minus x y =
    integer_is (integer x -ℤ integer y) (minus x y)
    (is_minus (integer x) (integer y) x y (is_integer x) (is_integer y))

is_mag : (z : ℤ) (x : Signed) → Is z x → mag z ≤ x.ahead + x.behind
is_mag (pos n) x h = omega arith
is_mag (negsuc n) x h = omega arith

-- an integer is no larger than its pair
pub integer_mag : (x : Signed) → mag (integer x) ≤ x.ahead + x.behind
integer_mag x = is_mag (integer x) x (is_integer x)

-- 64 bits: a number that they hold is read back off them, and the opposite of a natural as a program takes it
pub held : (z : ℤ) → mag z < 2 ^ 63 → to_z w64 (of_z w64 z) ≡ z
held z h = to_z-of_z {w = w64} {z = z} (record { sfits = h })

pub held_as : {z w : ℤ} → mag z < 2 ^ 63 → z ≡ w → to_z w64 (of_z w64 z) ≡ w
held_as {z} h e = held z h ∙ e

pub opposite : (n : ℕ) → pos 0 -ℤ pos n ≡ neg_ℤ (pos n)
opposite zero = refl
opposite (suc n) =
    let x = behind_by (suc n) in
    is_unique (pos 0 -ℤ pos (suc n)) (negsuc n) x (is_subℕ 0 (suc n) x (omega arith)) (omega arith)

pub opposite_mag : (n : ℕ) → mag (neg_ℤ (pos n)) ≤ n
opposite_mag zero = omega arith
opposite_mag (suc n) = omega arith
