-- What the count of the places that pass a test says of them.
-- Assumes nothing.
use mathlib.Core.Bool.{Bool, true, false}
use mathlib.Core.Logic.{⊎_elim}
use mathlib.Core.Path.{◌≡◌, refl, ap}
use Prim.Native.Nat.{ℕ, zero, suc, ◌+◌, ◌≤◌, ◌<◌}
use native.Mathlib.Omega.{arith}
use Rattle.rows.proofs.Choice.{passes_or_fails}
use Rattle.month_law.specs.Count.{one_if, count}
use Rattle.month_law.proofs.Rising.{never_falls}

-- a place below k that passes
pub record Passing (test : ℕ → Bool) (k : ℕ) : Type 0 where
  pub place : ℕ
  pub below : place < k
  pub passes : test place ≡ true

pub one_most : (b : Bool) → one_if b ≤ 1
one_most true = omega arith
one_most false = omega arith

-- two tests that agree below k count the same
pub count_same : (s t : ℕ → Bool) (k : ℕ) → ((p : ℕ) → p < k → s p ≡ t p) → count s k ≡ count t k
unfolding count
count_same s t zero h = refl
count_same s t (suc k) h =
    omega (arith, count_same s t k (λ (p : ℕ) (l : p < k). h p (omega arith)), ap one_if (h k (omega arith)))

module _ (test : ℕ → Bool) where
  -- one place more
  pub count_suc : (k : ℕ) → count test (suc k) ≡ count test k + one_if (test k)
  unfolding count
  count_suc k = refl

  -- more places count no less
  pub count_rises : (i k : ℕ) → i ≤ k → count test i ≤ count test k
  count_rises = never_falls (count test) (λ (k : ℕ). omega (arith, count_suc k))

  pub count_most : (k : ℕ) → count test k ≤ k
  unfolding count
  count_most zero = omega arith
  count_most (suc k) = omega (arith, count_most k, one_most (test k))

  -- a place that passes is counted after those before it
  pub count_past : (p k : ℕ) → p < k → test p ≡ true → suc (count test p) ≤ count test k
  count_past p k h e = omega (arith, count_rises (suc p) k h, count_suc p, ap one_if e)

  -- where none is counted none passes
  pub none_passes : (p k : ℕ) → count test k ≡ 0 → p < k → test p ≡ false
  none_passes p k z h =
      ⊎_elim (λ (e : test p ≡ true). absurd (omega (arith, count_past p k h e))) (λ (e : test p ≡ false). e)
      (passes_or_fails (test p))

  -- where any is counted, one passes
  pub some_passes : (k : ℕ) → 0 < count test k → Passing test k
  unfolding count
  some_passes zero h = absurd (omega arith)
  some_passes (suc k) h =
      ⊎_elim (λ (e : test k ≡ true). record { place = k; below = omega arith; passes = e })
      (λ (e : test k ≡ false). earlier (some_passes k (omega (arith, ap one_if e))))
      (passes_or_fails (test k))
    where
      earlier : Passing test k → Passing test (suc k)
      earlier x = record { place = x.place; below = omega (arith, x.below); passes = x.passes }

  two_pass : (p q k : ℕ) → p < q → q < k → test p ≡ true → test q ≡ true → 2 ≤ count test k
  two_pass p q k l h ep eq = omega (arith, count_past p q l ep, count_past q k h eq)

  -- where one at most is counted, two places that pass are one
  pub one_passes : (p q k : ℕ) → count test k ≤ 1 → p < k → q < k → test p ≡ true → test q ≡ true → p ≡ q
  one_passes p q k o hp hq ep eq =
      let not_before : ¬ (p < q) = λ (l : p < q). omega (arith, two_pass p q k l hq ep eq) in
      let not_after : ¬ (q < p) = λ (l : q < p). omega (arith, two_pass q p k l hp eq ep) in
      omega arith

  -- places that all fail count nothing
  pub all_fail : (k : ℕ) → ((q : ℕ) → q < k → test q ≡ false) → count test k ≡ 0
  unfolding count
  all_fail zero h = refl
  all_fail (suc k) h = omega (arith, all_fail k (λ (q : ℕ) (g : q < k). h q (omega arith)), ap one_if (h k (omega arith)))
