-- Products over a day: the two halves of `over_day` fit 64 bits and make up the whole part.
-- Assumes nothing.
use mathlib.Core.Path.{◌≡◌, ap}
use Prim.Native.Nat.{ℕ, ◌+◌, ◌-◌, ◌*◌, ◌/◌, ◌%◌, ◌≤◌, ◌<◌}
use native.Mathlib.Nat.{mul-le-mul, div-add-mod'}
use native.Mathlib.Omega.{arith}
use Rattle.measure.specs.Units.{day}

-- a product of bounded numbers, to be handed to omega
pub product : (a b m n : ℕ) → a ≤ m → b ≤ n → a * b ≤ m * n
product a b m n h k = mul-le-mul h k

pub split : (a t : ℕ) → a * (t / day) + a * (t % day) / day ≡ a * t / day
split a t = omega (arith, ap (λ (x : ℕ). a * x) (div-add-mod' t day))

module _ (a t : ℕ) (ha : a ≤ 1_800 * day) (ht : t < day * day) where
  pub days : a * (t / day) ≤ 1_800 * day * (day - 1)
  days = product a (t / day) (1_800 * day) (day - 1) ha (omega arith)

  pub rest : a * (t % day) ≤ 1_800 * day * (day - 1)
  rest = product a (t % day) (1_800 * day) (day - 1) ha (omega arith)
