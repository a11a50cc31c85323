-- How many of a year's own middle terms a month holds: none just where a month of its list holds no middle term at all.
-- Assumes nothing.
use mathlib.Core.Bool.{true, false}
use mathlib.Core.Logic.{⊎_elim}
use mathlib.Core.Path.{◌≡◌, ap, ◌∙◌}
use Prim.Native.Nat.{ℕ, suc, ◌+◌, ◌-◌, ◌*◌}
use native.Mathlib.Nat.{add-sub_of_le}
use native.Mathlib.Omega.{arith}
use borrow.Author.Tests.{le-leb, lt-ltb, leb-true, ltb-true}
use Rattle.rows.specs.Choice.{◌≤?◌, ◌<?◌}
use Rattle.rows.proofs.Choice.{passes_or_fails, both_pass, left_passes, right_passes}
use Rattle.month_law.specs.Calendar.{Calendar, holds, held}
use Rattle.month_law.specs.Lawful.{Lawful}
use Rattle.month_law.proofs.Count.{none_passes, all_fail}
use Rattle.month_law.proofs.Months.{Holds, HoldsNone}
use Rattle.month_law.proofs.Terms.{InList, OfYear, list_holds}

module _ (c : Calendar) where
  -- the test for a held middle term is right
  pub holds_passes : (l j : ℕ) → Holds c l j → holds c l j ≡ true
  holds_passes l j h =
      both_pass (c.first l ≤? c.mid j) (c.mid j <? c.first (suc l)) (le-leb (c.first l) (c.mid j) h.since)
      (lt-ltb (c.mid j) (c.first (suc l)) h.until)

  pub passes_holds : (l j : ℕ) → holds c l j ≡ true → Holds c l j
  passes_holds l j e =
      record {
        since = leb-true (c.first l) (c.mid j) (left_passes (c.first l ≤? c.mid j) (c.mid j <? c.first (suc l)) e);
        until = ltb-true (c.mid j) (c.first (suc l)) (right_passes (c.first l ≤? c.mid j) (c.mid j <? c.first (suc l)) e);
      }

  -- a month without a middle term holds none of any year
  pub none_held : (n l : ℕ) → HoldsNone c l → held c n l ≡ 0
  unfolding held
  none_held n l h = all_fail (λ i. holds c l (12 * n + i)) 12 (λ i g. fails (12 * n + i))
    where
      fails : (j : ℕ) → holds c l j ≡ false
      fails j =
          ⊎_elim (λ (e : holds c l j ≡ true). absurd (h j (passes_holds l j e))) (λ (e : holds c l j ≡ false). e)
          (passes_or_fails (holds c l j))

module _ (c : Calendar) (ok : Lawful c) where
  -- a month of the list that holds none of the year's holds none at all
  pub held_none : (n l : ℕ) → InList c n l → held c n l ≡ 0 → HoldsNone c l
  unfolding held
  held_none n l listed z j h =
      let year : OfYear n j = list_holds c ok n l j listed h in
      let here : 12 * n + (j - 12 * n) ≡ j = add-sub_of_le year.since in
      let passes : holds c l (12 * n + (j - 12 * n)) ≡ true = ap (holds c l) here ∙ holds_passes c l j h in
      let fails : holds c l (12 * n + (j - 12 * n)) ≡ false =
      none_passes (λ i. holds c l (12 * n + i)) (j - 12 * n) 12 z (omega (arith, year)) in
      let never : ◌≡◌ {A = ℕ} 0 1 = cc in
      omega arith
