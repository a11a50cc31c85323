-- The sixty-name of a day is that of the running count from day 0.
-- Assumes nothing.
use mathlib.Core.Path.{◌≡◌, refl, ap, ◌∙◌}
use Prim.Native.Nat.{ℕ, zero, suc, ◌%◌}
use native.Mathlib.Omega.{arith}
use borrow.Author.Tests.{eqb-true, eqb-false}
use Rattle.rows.specs.Choice.{◌=?◌}
use Rattle.measure.specs.Days.{sixty_name}
use Rattle.rows.proofs.Choice.{if_cases}
use Rattle.demand.specs.Demand.{next_name, running_name}

next_day : (d : ℕ) → sixty_name (suc d) ≡ next_name (sixty_name d)
unfolding next_name
next_day d =
    if_cases (λ (k : ℕ). suc d % 60 ≡ k) 0 (suc (d % 60)) (d % 60 =? 59) (λ last. omega (arith, eqb-true (d % 60) 59 last))
    (λ other. omega (arith, eqb-false (d % 60) 59 other))

pub names_run : (d : ℕ) → sixty_name d ≡ running_name d
unfolding running_name
names_run zero = refl
names_run (suc d) = next_day d ∙ ap next_name (names_run d)
