-- How large the number and the leap mark of a month are, in any calendar.
-- Assumes nothing.
use Prim.Native.Nat.{ℕ, ◌≤◌}
use native.Mathlib.Omega.{arith}
use Rattle.rows.proofs.Choice.{if_cases}
use Rattle.months.specs.Kind.{Kind, ordinary, leap, number_in, mark_in}
use Rattle.month_law.specs.Calendar.{Calendar, leap_at, number_at}
use Rattle.month_law.proofs.Numbers.{rank_at, number_rank, rank_number}
use Rattle.months.specs.Month.{kind_at}

abbrev Small : Kind → Type 0
Small k = (number_in k ≤ 12) × (mark_in k ≤ 1)

module _ (c : Calendar) (n p : ℕ) where
  pub number_most : number_at c n p ≤ 12
  number_most = omega (arith, number_rank c n p, rank_number (rank_at c n p))

  pub kind_most : Small (kind_at c n p)
  unfolding kind_at
  kind_most =
      if_cases Small (leap (number_at c n p)) (ordinary (number_at c n p)) (leap_at c n p) (λ _. (number_most, omega arith))
      (λ _. (number_most, omega arith))
