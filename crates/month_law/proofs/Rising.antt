-- A sequence that rises at each step: its order, that a number falls in one step, and that the search finds it.
-- Assumes nothing.
use mathlib.Core.Logic.{⊎_elim}
use mathlib.Core.Path.{◌≡◌, ap}
use Prim.Native.Nat.{ℕ, zero, suc, ◌+◌, ◌≤◌, ◌<◌}
use native.Mathlib.Nat.{le_of_suc-le-suc, lt_of_not-le}
use native.Mathlib.Omega.{arith}
use Rattle.rows.proofs.Choice.{lt_or_ge, if_lt}
use Rattle.month_law.specs.Steps.{seek}

-- x is at lo or later, and before hi
pub record Within (lo hi x : ℕ) : Type 0 where
  pub since : lo ≤ x
  pub until : x < hi

-- the number d falls in step i of f: at f i or later, and before the next
abbrev pub InStep : (ℕ → ℕ) → ℕ → ℕ → Type 0
InStep f i d = Within (f i) (f (suc i)) d

-- a sequence that falls at no step is no lower at a later place
pub never_falls : (f : ℕ → ℕ) → ((i : ℕ) → f i ≤ f (suc i)) → (i j : ℕ) → i ≤ j → f i ≤ f j
never_falls f up i zero h = let e : i ≡ zero = omega arith in omega (arith, ap f e)
never_falls f up i (suc j) h =
    ⊎_elim (λ (l : i < suc j). omega (arith, never_falls f up i j (omega arith), up j))
    (λ (g : suc j ≤ i). let e : i ≡ suc j = omega arith in omega (arith, ap f e))
    (lt_or_ge i (suc j))

module _ (f : ℕ → ℕ) (rises : (i : ℕ) → f i < f (suc i)) where
  -- a later place has no lower value
  pub rises_weakly : (i j : ℕ) → i ≤ j → f i ≤ f j
  rises_weakly = never_falls f (λ (i : ℕ). omega (arith, rises i))

  -- but a higher one
  pub rises_strictly : (i j : ℕ) → i < j → f i < f j
  rises_strictly i j h = omega (arith, rises i, rises_weakly (suc i) j h)

  -- and back: the order of the values is the order of the places
  pub order_back : (i j : ℕ) → f i < f j → i < j
  order_back i j h = lt_of_not-le λ (g : j ≤ i). omega (arith, rises_weakly j i g)

  -- a value that lies before the end of a step is of that step or an earlier one
  pub begun_by : (i j d : ℕ) → f i ≤ d → d < f (suc j) → i ≤ j
  begun_by i j d h g = le_of_suc-le-suc (order_back i (suc j) (omega arith))

  -- a number falls in one step at most
  pub step_unique : (d i j : ℕ) → InStep f i d → InStep f j d → i ≡ j
  step_unique d i j p q = omega (arith, begun_by i j d p.since q.until, begun_by j i d q.since p.until)

  -- a number of step i lies between two values of f just where i lies between their places
  pub places_of : (d i a b : ℕ) → InStep f i d → Within (f a) (f b) d → Within a b i
  places_of d i a b p q =
      record { since = begun_by a i d q.since p.until; until = order_back i b (omega (arith, p, q)) }

  pub values_of : (d i a b : ℕ) → InStep f i d → Within a b i → Within (f a) (f b) d
  values_of d i a b p q =
      record {
        since = omega (arith, p, rises_weakly a i q.since);
        until = omega (arith, p, rises_weakly (suc i) b q.until);
      }

  least_value : (i : ℕ) → i ≤ f i
  least_value zero = omega arith
  least_value (suc i) = omega (arith, least_value i, rises i)

  -- the search ends in the step of d, if it starts no later; d places are enough
  pub seek_finds : (d i most : ℕ) → f i ≤ d → d ≤ i + most → InStep f (seek f d i most) d
  unfolding seek
  seek_finds d i zero l u = record { since = l; until = omega (arith, least_value (suc i)) }
  seek_finds d i (suc k) l u =
      if_lt (λ (r : ℕ). InStep f r d) i (seek f d (suc i) k) d (f (suc i)) (λ h. record { since = l; until = h })
      (λ h. seek_finds d (suc i) k h (omega arith))
