-- The moon's inequality changes by at most 270,000,000 from one lunation to the next.
-- Assumes nothing.
use mathlib.Core.Path.{◌≡◌, refl}
use Prim.Native.Nat.{ℕ, ◌+◌, ◌*◌, ◌-◌, ◌%◌, ◌≤◌, ◌<◌}
use native.Mathlib.Omega.{arith}
use lib.Dec.{lit≤}
use Rattle.rows.specs.Choice.{◌≤?◌, ◌<?◌}
use Rattle.measure.specs.Units.{day, anomalistic_month, anomalistic_half, anomaly_advance}
use Rattle.signed.specs.Signed.{Signed, ahead_by, behind_by}
use Rattle.inequalities.specs.Law.{law_moon, taken, law}
use Rattle.inequalities.proofs.LawStep.{Steady}
use Rattle.inequalities.specs.Limits.{middle, end, limits}
use Rattle.inequalities.specs.Lunar.{lunar_magnitude, lunar}
use Rattle.signed.proofs.Sizes.{gap, gap_is}
use Rattle.inequalities.proofs.Gentle.{Gentle, glue, up_to, before, backwards, later, opposite, law_gentle, around}

-- the law, whose rate is for a limit
abbrev limit_rate : ℕ
limit_rate = law_moon.first

steady_moon : Steady law_moon middle
steady_moon = record { under = lit≤ tt; gradual = lit≤ tt; lost = lit≤ tt }

gentle_moon : Gentle (λ (n : ℕ). ahead_by (law law_moon n)) limit_rate 2 0 (middle * day)
gentle_moon = law_gentle law_moon middle steady_moon

-- a half, by its limits: the law forwards, then backwards, and 0 past the end
middle_meets : gap (ahead_by (law law_moon (middle * day))) (ahead_by (law law_moon (end * day - middle * day))) ≤ 0
unfolding law taken
middle_meets = rw gap_is (lit≤ tt)

gentle_limits : Gentle (λ (n : ℕ). ahead_by (lunar_magnitude n)) limit_rate (2 + 0 + 2) 0 (limits anomalistic_half)
unfolding lunar_magnitude
gentle_limits =
    glue ahead_by (law law_moon) (λ (n : ℕ). law law_moon (end * day - n)) (middle * day) 0 gentle_moon
    (backwards (end * day) (limits anomalistic_half) gentle_moon) middle_meets (λ (n : ℕ). n ≤? middle * day) (up_to (middle * day))

-- by its time: the rate is for a day, and the part of a limit that `limits` drops is less than 1 in the law
abbrev lunar_rate : ℕ
lunar_rate = limits limit_rate

abbrev half_slack : ℕ
half_slack = 2 + 0 + 2 + 1

gentle_half : Gentle (λ (a : ℕ). ahead_by (lunar_magnitude (limits a))) lunar_rate half_slack 0 anomalistic_half
gentle_half =
    record {
      step = λ a e a' eq l h.
          omega (
            arith,
            gentle_limits.step (limits a) (limits a' - limits a) (limits a') (omega arith) (omega arith) (omega arith),
          );
    }

-- the anomalistic month
abbrev lunar_slack : ℕ
lunar_slack = half_slack + 0 + half_slack

halves_meet : gap (ahead_by (lunar_magnitude (limits anomalistic_half)))
    (behind_by (lunar_magnitude (limits (anomalistic_half - anomalistic_half))))
    ≤ 0
unfolding lunar_magnitude law taken
halves_meet = rw gap_is (lit≤ tt)

gentle_lunar : Gentle lunar lunar_rate lunar_slack 0 anomalistic_month
unfolding lunar
gentle_lunar =
    glue (λ (x : Signed). x) (λ (a : ℕ). ahead_by (lunar_magnitude (limits a)))
    (λ (a : ℕ). behind_by (lunar_magnitude (limits (a - anomalistic_half)))) anomalistic_half 0 gentle_half
    (later anomalistic_half (opposite (λ (a : ℕ). lunar_magnitude (limits a)) gentle_half)) halves_meet
    (λ (a : ℕ). a <? anomalistic_half) (before anomalistic_half)

closed : lunar anomalistic_month ≡ lunar 0
unfolding lunar lunar_magnitude law taken
closed = refl

abbrev pub lunar_step_bound : ℕ
lunar_step_bound = 270_000_000

pub lunar_step : (a : ℕ) → a < anomalistic_month → gap (lunar a) (lunar ((a + anomaly_advance) % anomalistic_month)) ≤ lunar_step_bound
lunar_step a h = omega (arith, around anomalistic_month gentle_lunar closed a anomaly_advance h (omega arith))
