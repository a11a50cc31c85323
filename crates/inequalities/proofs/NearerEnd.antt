-- Limits counted from the nearer end of their half.
-- Assumes nothing.
use mathlib.Core.Path.{◌≡◌}
use Prim.Native.Nat.{ℕ, ◌≤◌, ◌*◌, ◌-◌}
use native.Mathlib.Omega.{arith}
use Rattle.rows.proofs.Choice.{if_le, if_through}
use Rattle.inequalities.specs.Limits.{from_nearer_end, middle, end}
use Rattle.rows.specs.Choice.{◌≤?◌}
use Rattle.measure.specs.Units.{day}
use Rattle.inequalities.specs.Law.{law_moon, law, exact}
use Rattle.inequalities.specs.Lunar.{lunar_magnitude}
use Rattle.inequalities.specs.Evaluation.{reach}
use Rattle.inequalities.specs.Motion.{whole_law}

pub nearer_le : (n m : ℕ) → from_nearer_end n m ≤ m
unfolding from_nearer_end
nearer_le n m = if_le (λ (v : ℕ). v ≤ m) _ _ n m (λ h. h) (λ h. omega arith)

pub magnitude_nearer : (n : ℕ) → law law_moon (from_nearer_end n (middle * day)) ≡ lunar_magnitude n
unfolding from_nearer_end lunar_magnitude
magnitude_nearer n = if_through (law law_moon) (n ≤? middle * day) n (end * day - n)

-- a whole limit so counted is within a law's reach
pub nearer_reach : (n : ℕ) {k : ℕ} → k ≡ from_nearer_end n middle → k ≤ reach
nearer_reach n e = omega (arith, nearer_le n middle)

pub whole_nearer : (k : ℕ) → exact law_moon (from_nearer_end k middle) ≡ whole_law k
unfolding from_nearer_end whole_law
whole_nearer k = if_through (exact law_moon) (k ≤? middle) k (end - k)
