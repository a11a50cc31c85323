-- The sun's inequality changes by at most 160,000,000 from one lunation to the next.
-- Assumes nothing.
use mathlib.Core.Path.{◌≡◌, refl}
use Prim.Native.Nat.{ℕ, ◌+◌, ◌-◌, ◌%◌, ◌≤◌, ◌<◌}
use native.Mathlib.Omega.{arith}
use lib.Dec.{lit≤}
use Rattle.rows.specs.Choice.{◌≤?◌, ◌<?◌}
use Rattle.measure.specs.Units.{day, year, half_year, month}
use Rattle.signed.specs.Signed.{Signed, ahead_by, behind_by}
use Rattle.inequalities.specs.Law.{law_a, law_b, taken, law}
use Rattle.inequalities.proofs.LawStep.{Steady}
use Rattle.inequalities.specs.Solar.{fast_limit, slow_limit, fast_at, slow_at, solar}
use Rattle.signed.proofs.Sizes.{gap, gap_is}
use Rattle.inequalities.proofs.Gentle.{Gentle, weaken, glue, up_to, before, backwards, later, opposite, law_gentle, around}

-- the two laws, at the rate of the faster one
abbrev solar_rate : ℕ
solar_rate = law_a.first

steady_a : Steady law_a 89
steady_a = record { under = lit≤ tt; gradual = lit≤ tt; lost = lit≤ tt }

steady_b : Steady law_b 94
steady_b = record { under = lit≤ tt; gradual = lit≤ tt; lost = lit≤ tt }

gentle_a : Gentle (λ (t : ℕ). ahead_by (law law_a t)) solar_rate 2 0 fast_limit
gentle_a = weaken solar_rate fast_limit (law_gentle law_a 89 steady_a) (lit≤ tt) (lit≤ tt)

gentle_b : Gentle (λ (t : ℕ). ahead_by (law law_b t)) solar_rate 2 0 slow_limit
gentle_b = weaken solar_rate slow_limit (law_gentle law_b 94 steady_b) (lit≤ tt) (lit≤ tt)

-- the halves, in which the laws differ a little where they meet
abbrev solar_joint : ℕ
solar_joint = 9_735

abbrev half_slack : ℕ
half_slack = 2 + solar_joint + 2

slow_meet : gap (ahead_by (law law_b slow_limit)) (ahead_by (law law_a (half_year - slow_limit))) ≤ solar_joint
unfolding law taken
slow_meet = rw gap_is (lit≤ tt)

gentle_slow : Gentle (λ (t : ℕ). ahead_by (slow_at t)) solar_rate half_slack 0 half_year
unfolding slow_at
gentle_slow =
    glue ahead_by (law law_b) (λ (t : ℕ). law law_a (half_year - t)) slow_limit solar_joint gentle_b
    (backwards half_year half_year gentle_a) slow_meet (λ (t : ℕ). t ≤? slow_limit) (up_to slow_limit)

fast_meet : gap (ahead_by (law law_a fast_limit)) (ahead_by (law law_b (half_year - fast_limit))) ≤ solar_joint
unfolding law taken
fast_meet = rw gap_is (lit≤ tt)

gentle_fast : Gentle (λ (t : ℕ). ahead_by (fast_at t)) solar_rate half_slack 0 half_year
unfolding fast_at
gentle_fast =
    glue ahead_by (law law_a) (λ (t : ℕ). law law_b (half_year - t)) fast_limit solar_joint gentle_a
    (backwards half_year half_year gentle_b) fast_meet (λ (t : ℕ). t ≤? fast_limit) (up_to fast_limit)

-- the year
abbrev solar_slack : ℕ
solar_slack = half_slack + 0 + half_slack

halves_meet : gap (behind_by (slow_at half_year)) (ahead_by (fast_at (half_year - half_year))) ≤ 0
unfolding slow_at fast_at law taken
halves_meet = rw gap_is (lit≤ tt)

gentle_solar : Gentle solar solar_rate solar_slack 0 year
unfolding solar
gentle_solar =
    glue (λ (x : Signed). x) (λ (s : ℕ). behind_by (slow_at s)) (λ (s : ℕ). ahead_by (fast_at (s - half_year))) half_year 0
    (opposite slow_at gentle_slow) (later half_year gentle_fast) halves_meet (λ (s : ℕ). s <? half_year) (before half_year)

closed : solar year ≡ solar 0
unfolding solar slow_at fast_at law taken
closed = refl

-- The solar time moves by a month. Where a rule of the year shifts it, this leaves room for a whole day
abbrev pub most_solar_advance : ℕ
most_solar_advance = month + day

abbrev pub solar_step_bound : ℕ
solar_step_bound = 160_000_000

pub solar_step : (s e : ℕ) → s < year → e ≤ most_solar_advance → gap (solar s) (solar ((s + e) % year)) ≤ solar_step_bound
solar_step s e h l = omega (arith, around year gentle_solar closed s e h (omega arith))
