-- Laws of choices: of two numbers one is less or is not, a test passes or fails, and what holds in both cases of a choice, or of a
-- refusal, holds of it.
-- Assumes nothing.
use Rattle.std.specs.Prelude.{if◌then◌else◌}
use mathlib.Core.Bool.{Bool, true, false, ◌&&◌, ◌||◌, false≢true}
use mathlib.Core.Logic.{◌⊎◌, inl, inr}
use mathlib.Core.Path.{◌≡◌, refl, sym}
use Prim.Native.Nat.{ℕ, ◌≤◌, ◌<◌}
use native.Mathlib.Decide.{dec_lt}
use native.Mathlib.Omega.{arith}
use borrow.Author.Tests.{leb-true, leb-false, ltb-true, ltb-false}
use Rattle.rows.specs.Choice.{◌≤?◌, ◌<?◌}
use Rattle.rows.specs.Reply.{Reply, refused, refuse_if}

pub lt_or_ge : (a b : ℕ) → (a < b) ⊎ (b ≤ a)
lt_or_ge a b = elim (dec_lt a b) [ yes h ↦ inl h | no n ↦ inr (omega arith) ]

pub passes_or_fails : (t : Bool) → (t ≡ true) ⊎ (t ≡ false)
passes_or_fails true = inl refl
passes_or_fails false = inr refl

-- two tests together
pub both_pass : (s t : Bool) → s ≡ true → t ≡ true → (s && t) ≡ true
both_pass true t e f = f
both_pass false t e f = e

pub left_passes : (s t : Bool) → (s && t) ≡ true → s ≡ true
left_passes true t e = refl
left_passes false t e = e

pub right_passes : (s t : Bool) → (s && t) ≡ true → t ≡ true
right_passes true t e = e
right_passes false t e = absurd (false≢true e)

-- one of two tests
pub left_fails : (s t : Bool) → (s || t) ≡ false → s ≡ false
left_fails true t e = e
left_fails false t e = refl

pub right_fails : (s t : Bool) → (s || t) ≡ false → t ≡ false
right_fails true t e = absurd (false≢true (sym e))
right_fails false t e = e

module _ {A : Type 0} (P : A → Type 0) (a b : A) where
  pub if_cases : (t : Bool) → (t ≡ true → P a) → (t ≡ false → P b) → P (if t then a else b)
  if_cases true passed failed = passed refl
  if_cases false passed failed = failed refl

  pub if_le : (m n : ℕ) → (m ≤ n → P a) → (n < m → P b) → P (if m ≤? n then a else b)
  if_le m n below above = if_cases (m ≤? n) (λ e. below (leb-true m n e)) (λ e. above (leb-false m n e))

  pub if_lt : (m n : ℕ) → (m < n → P a) → (n ≤ m → P b) → P (if m <? n then a else b)
  if_lt m n below above = if_cases (m <? n) (λ e. below (ltb-true m n e)) (λ e. above (ltb-false m n e))

-- a function of a choice
pub if_through : {A B : Type 0} (f : A → B) (t : Bool) (a b : A) → f (if t then a else b) ≡ (if t then f a else f b)
if_through f true a b = refl
if_through f false a b = refl

-- what holds of a refusal, and of what follows where its test fails, holds of the reply
pub refuse_cases : {A : Type 0} (P : Reply A → Type 0) (t : Bool) (k : ℕ) (later : Reply A) → P (refused k) → (t ≡ false → P later)
    → P (refuse_if t k later)
refuse_cases P true k later stop go = stop
refuse_cases P false k later stop go = go refl
