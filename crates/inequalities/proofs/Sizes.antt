-- How large the inequalities can be, by the laws' first coefficients alone: nothing is said of where a law peaks.
-- Assumes nothing.
use Prim.Native.Nat.{ℕ, ◌-◌, ◌≤◌, ◌*◌}
use native.Mathlib.Omega.{arith}
use lib.Dec.{lit≤}
use Rattle.measure.specs.Units.{half_year, day, anomalistic_half}
use Rattle.rows.proofs.Choice.{if_le, if_lt}
use Rattle.signed.proofs.Sizes.{Within}
use Rattle.inequalities.specs.Law.{law_a, law_b, law_moon}
use Rattle.inequalities.proofs.LawStep.{law_le}
use Rattle.inequalities.specs.Solar.{fast_limit, slow_limit, fast_at, slow_at, solar}
use Rattle.inequalities.specs.Limits.{middle, end, limits, from_nearer_end}
use Rattle.inequalities.specs.Lunar.{lunar_magnitude, lunar}
use Rattle.inequalities.proofs.Evaluation.{exact_le}
use Rattle.inequalities.proofs.NearerEnd.{nearer_le, whole_nearer}
use Rattle.inequalities.specs.Motion.{whole_law}

abbrev pub solar_size : ℕ
solar_size = 457_000_000

abbrev pub lunar_size : ℕ
lunar_size = 934_000_000

pub fast_le : (t : ℕ) → fast_at t ≤ solar_size
unfolding fast_at
fast_le t =
    if_le (λ (v : ℕ). v ≤ solar_size) _ _ t fast_limit (λ h. omega (arith, law_le law_a t))
    (λ h. omega (arith, law_le law_b (half_year - t)))

pub slow_le : (t : ℕ) → slow_at t ≤ solar_size
unfolding slow_at
slow_le t =
    if_le (λ (v : ℕ). v ≤ solar_size) _ _ t slow_limit (λ h. omega (arith, law_le law_b t))
    (λ h. omega (arith, law_le law_a (half_year - t)))

-- at any solar time
pub solar_size_lem : (s : ℕ) → Within solar_size (solar s)
unfolding solar
solar_size_lem s =
    if_lt (Within solar_size) _ _ s half_year (λ h. omega (arith, slow_le s)) (λ h. omega (arith, fast_le (s - half_year)))

pub magnitude_le : (n : ℕ) → lunar_magnitude n ≤ lunar_size
unfolding lunar_magnitude
magnitude_le n =
    if_le (λ (v : ℕ). v ≤ lunar_size) _ _ n (middle * day) (λ h. omega (arith, law_le law_moon n))
    (λ h. omega (arith, law_le law_moon (end * day - n)))

-- at any anomaly
pub lunar_size_lem : (a : ℕ) → Within lunar_size (lunar a)
unfolding lunar
lunar_size_lem a =
    if_lt (Within lunar_size) _ _ a anomalistic_half (λ h. omega (arith, magnitude_le (limits a)))
    (λ h. omega (arith, magnitude_le (limits (a - anomalistic_half))))

pub whole_law_le : (k : ℕ) → whole_law k ≤ 2 * lunar_size
whole_law_le k =
    omega (
      arith,
      whole_nearer k,
      exact_le law_moon (from_nearer_end k middle) (lit≤ tt) (omega (arith, nearer_le k middle)),
    )
