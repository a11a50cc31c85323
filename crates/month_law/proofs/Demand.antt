-- The dates of any lawful calendar: each day between the ends of the years 0 to a last one has just one, and no other day has one.
-- Assumes nothing.
use mathlib.Core.Path.{◌≡◌, ap, ◌∙◌}
use Prim.Native.Nat.{ℕ, suc, ◌≤◌}
use native.Mathlib.Omega.{arith}
use Rattle.month_law.specs.Calendar.{Calendar, head}
use Rattle.month_law.specs.Lawful.{Lawful}
use Rattle.month_law.specs.Demand.{JustOne, Date, Dated}
use Rattle.month_law.proofs.Rising.{Within}
use Rattle.month_law.proofs.Months.{head_zero}
use Rattle.month_law.proofs.Days.{one_date, run_days}

-- the ends of the years 0 to `last`: they have the days from `earliest` to `latest` and the lunations before `beyond`
pub record Ends (c : Calendar) (last earliest latest beyond : ℕ) : Type 0 where
  pub first_day_lem : c.first 0 ≡ earliest
  pub next_head : head c (suc last) ≡ beyond
  pub next_day : c.first beyond ≡ suc latest

module _ (c : Calendar) (ok : Lawful c) {last earliest latest beyond : ℕ} (ends : Ends c last earliest latest beyond) where
  begins_on : c.first (head c 0) ≡ earliest
  begins_on = ap c.first (head_zero c ok) ∙ ends.first_day_lem

  ends_before : c.first (head c (suc last)) ≡ suc latest
  ends_before = ap c.first ends.next_head ∙ ends.next_day

  pub dates : (d : ℕ) → earliest ≤ d → d ≤ latest → JustOne (λ (t : Date). (t.year ≤ last) × Dated c d t)
  dates d h k =
      let one : JustOne (λ (t : Date). Within 0 (suc last) t.year × Dated c d t) =
      one_date c ok 0 (suc last) d (record { since = omega (arith, begins_on); until = omega (arith, ends_before) }) in
      record {
        it = one.it;
        such = (omega (arith, one.such.0), one.such.1);
        only = λ t x. one.only t (record { since = omega arith; until = omega (arith, x.0) }, x.1);
      }

  pub no_others : (d : ℕ) (t : Date) → t.year ≤ last → Dated c d t → (earliest ≤ d) × (d ≤ latest)
  no_others d t h x =
      let days : Within (c.first (head c 0)) (c.first (head c (suc last))) d =
      run_days c ok 0 (suc last) d t x (record { since = omega arith; until = omega arith }) in
      omega (arith, days, begins_on, ends_before)
