-- Functions of time that change by no more than a rate a day and a slack: a law is one, and they can be glued, read backwards, begun
-- later, turned to their opposite and closed to a circle. A glued function has the slacks of both parts and the gap at the joint for
-- its slack, so that nobody counts the joints that a step passes.
-- Assumes nothing.
use Rattle.std.specs.Prelude.{if◌then◌else◌}
use mathlib.Core.Bool.{Bool, true, false}
use mathlib.Core.Logic.{◌⊎◌, inl, inr}
use mathlib.Core.Path.{◌≡◌, ap, subst}
use Prim.Native.Nat.{ℕ, ◌+◌, ◌*◌, ◌-◌, ◌%◌, ◌≤◌, ◌<◌}
use native.Mathlib.Nat.{mul-le-mul_left, mul-le-mul_right, mod-eq_of_lt, mod-eq-sub-mod}
use native.Mathlib.Omega.{arith}
use borrow.Author.Tests.{leb-true, leb-false, ltb-true, ltb-false}
use Rattle.rows.specs.Choice.{◌≤?◌, ◌<?◌}
use Rattle.measure.specs.Units.{day}
use Rattle.rows.proofs.Choice.{lt_or_ge, passes_or_fails}
use Rattle.signed.specs.Signed.{Signed, ahead_by, behind_by}
use Rattle.inequalities.specs.Law.{Law, law}
use Rattle.inequalities.proofs.LawStep.{Steady, law_rises, law_falls}
use Rattle.signed.proofs.Sizes.{gap, gap_is, gap_sym, gap_triangle, gap_behind}

-- f from lo to hi
pub record Gentle (f : ℕ → Signed) (rate slack lo hi : ℕ) : Type 0 where
  pub step : (t e t' : ℕ) → t + e ≡ t' → lo ≤ t → t' ≤ hi → day * gap (f t) (f t') ≤ rate * e + day * slack

-- a law, on its first n days
pub law_gentle : (c : Law) (n : ℕ) → Steady c n → Gentle (λ (t : ℕ). ahead_by (law c t)) c.first 2 0 (n * day)
law_gentle c n s = record { step = λ t e t' eq l k. rw (← eq) (either_way t e (omega arith)) }
  where
    either_way : (t e : ℕ) → t + e ≤ n * day
        → day * gap (ahead_by (law c t)) (ahead_by (law c (t + e))) ≤ c.first * e + day * 2
    either_way t e h = rw gap_is (omega (arith, law_rises c t e, law_falls c n t e s h))

-- on a shorter stretch, and at a greater rate
pub weaken : {f : ℕ → Signed} {rate slack lo hi : ℕ} (rate' hi' : ℕ)
    → Gentle f rate slack lo hi
    → rate ≤ rate'
    → hi' ≤ hi
    → Gentle f rate' slack lo hi'
weaken rate' hi' g faster shorter =
    record {
      step = λ t e t' eq l k. omega (arith, g.step t e t' eq l (omega arith), mul-le-mul_right e faster);
    }

-- a test that passes up to the joint p and fails from it on; at p itself it may do either
pub record Parts (test : ℕ → Bool) (p : ℕ) : Type 0 where
  pub early : (t : ℕ) → test t ≡ true → t ≤ p
  pub late : (t : ℕ) → test t ≡ false → p ≤ t

pub up_to : (p : ℕ) → Parts (λ (t : ℕ). t ≤? p) p
up_to p = record { early = λ t e. leb-true t p e; late = λ t e. omega (arith, leb-false t p e) }

pub before : (p : ℕ) → Parts (λ (t : ℕ). t <? p) p
before p = record { early = λ t e. omega (arith, ltb-true t p e); late = λ t e. ltb-false t p e }

-- f up to the joint and g from it on, where they differ by no more than `joint`. They are read as signed numbers by `sign`
module _ {A : Type 0} (sign : A → Signed) (f g : ℕ → A) (p joint : ℕ) {rate slack slack' lo hi : ℕ}
    (left : Gentle (λ (t : ℕ). sign (f t)) rate slack lo p) (right : Gentle (λ (t : ℕ). sign (g t)) rate slack' p hi)
    (meet : gap (sign (f p)) (sign (g p)) ≤ joint) where
  across : (t e₁ e₂ t' : ℕ) → t + e₁ ≡ p → p + e₂ ≡ t' → lo ≤ t → t' ≤ hi
      → day * gap (sign (f t)) (sign (g t')) ≤ rate * (e₁ + e₂) + day * (slack + joint + slack')
  across t e₁ e₂ t' a b l k =
      omega (
        arith,
        left.step t e₁ p a l (omega arith),
        right.step p e₂ t' b (omega arith) k,
        gap_triangle (sign (f t)) (sign (f p)) (sign (g t')),
        gap_triangle (sign (f p)) (sign (g p)) (sign (g t')),
      )

  pub glue : (test : ℕ → Bool) → Parts test p
      → Gentle (λ (t : ℕ). sign (if test t then f t else g t)) rate (slack + joint + slack') lo hi
  glue test parts = record { step = λ t e t' eq l k. go t e t' eq l k (passes_or_fails (test t)) (passes_or_fails (test t')) }
    where
      go : (t e t' : ℕ) → t + e ≡ t' → lo ≤ t → t' ≤ hi
          → (test t ≡ true) ⊎ (test t ≡ false)
          → (test t' ≡ true) ⊎ (test t' ≡ false)
          → day * gap (sign (if test t then f t else g t)) (sign (if test t' then f t' else g t'))
          ≤ rate * e + day * (slack + joint + slack')
      go t e t' eq l k (inl a) (inl b) =
          rw (a, b) (omega (arith, left.step t e t' eq l (parts.early t' b)))
      go t e t' eq l k (inl a) (inr b) =
          rw (a, b)
          (subst (λ (d : ℕ). day * gap (sign (f t)) (sign (g t')) ≤ rate * d + day * (slack + joint + slack'))
          (omega (arith, parts.early t a, parts.late t' b))
          (across t (p - t) (t' - p) t' (omega (arith, parts.early t a)) (omega (arith, parts.late t' b)) l k))
      go t e t' eq l k (inr a) (inl b) =
          let same : test t ≡ test t' = ap test (omega (arith, parts.late t a, parts.early t' b)) in
          let never : ◌≡◌ {A = ℕ} 0 1 = cc in
          absurd (omega arith)
      go t e t' eq l k (inr a) (inr b) =
          rw (a, b) (omega (arith, right.step t e t' eq (parts.late t a) k))

-- f read backwards from the place `top`; past it f stays at 0
pub backwards : {f : ℕ → Signed} {rate slack hi : ℕ} (top until : ℕ)
    → Gentle f rate slack 0 hi
    → Gentle (λ (t : ℕ). f (top - t)) rate slack (top - hi) until
backwards {f} {rate} top until g =
    record {
      step = λ t e t' eq l k.
          omega (
            arith,
            g.step (top - t') (top - t - (top - t')) (top - t) (omega arith) (omega arith) (omega arith),
            gap_sym (f (top - t')) (f (top - t)),
            mul-le-mul_left {m = top - t - (top - t')} {n = e} rate (omega arith),
          );
    }

-- f begun at the place `start`
pub later : {f : ℕ → Signed} {rate slack lo hi : ℕ} (start : ℕ)
    → Gentle f rate slack lo hi
    → Gentle (λ (t : ℕ). f (t - start)) rate slack (start + lo) (start + hi)
later start g =
    record {
      step = λ t e t' eq l k. g.step (t - start) e (t' - start) (omega arith) (omega arith) (omega arith);
    }

-- behind as much as it was ahead
pub opposite : (f : ℕ → ℕ) {rate slack lo hi : ℕ}
    → Gentle (λ (t : ℕ). ahead_by (f t)) rate slack lo hi
    → Gentle (λ (t : ℕ). behind_by (f t)) rate slack lo hi
opposite f g = record { step = λ t e t' eq l k. rw gap_behind (g.step t e t' eq l k) }

-- around a circle, where f ends as it begins
module _ {f : ℕ → Signed} {rate slack : ℕ} (circle : ℕ) (g : Gentle f rate slack 0 circle) (closed : f circle ≡ f 0) where
  past_the_end : (t d t' : ℕ) → t + d ≡ circle → t' ≤ circle → day * gap (f t) (f t') ≤ rate * (d + t') + day * (2 * slack)
  past_the_end t d t' eq h =
      omega (
        arith,
        g.step t d circle eq (omega arith) (omega arith),
        rw (← closed) at (g.step 0 t' t' (omega arith) (omega arith) h),
        gap_triangle (f t) (f circle) (f t'),
      )

  pub around : (t e : ℕ) → t < circle → e ≤ circle → day * gap (f t) (f ((t + e) % circle)) ≤ rate * e + day * (2 * slack)
  around t e h k = go (lt_or_ge (t + e) circle)
    where
      go : (t + e < circle) ⊎ (circle ≤ t + e) → day * gap (f t) (f ((t + e) % circle)) ≤ rate * e + day * (2 * slack)
      go (inl short) =
          rw (mod-eq_of_lt short) (omega (arith, g.step t e (t + e) (omega arith) (omega arith) (omega arith)))
      go (inr long) =
          rw (mod-eq-sub-mod long, mod-eq_of_lt {n = t + e - circle} {m = circle} (omega arith))
          (subst (λ (d : ℕ). day * gap (f t) (f (t + e - circle)) ≤ rate * d + day * (2 * slack))
          (omega arith) (past_the_end t (circle - t) (t + e - circle) (omega arith) (omega arith)))
