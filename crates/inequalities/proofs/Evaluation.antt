-- Where a law is evaluated, each of its steps is bounded; and the exact law with fewer products.
-- Assumes nothing.
use mathlib.Core.Path.{◌≡◌, ap}
use Prim.Native.Nat.{ℕ, ◌+◌, ◌*◌, ◌-◌, ◌/◌, ◌≤◌}
use native.Mathlib.Nat.{sub-add_cancel}
use native.Mathlib.Omega.{arith}
use Rattle.measure.specs.Units.{day}
use Rattle.measure.proofs.Product.{product}
use Rattle.inequalities.specs.Law.{Law, fine, taken, exact}
use Rattle.inequalities.specs.Evaluation.{reach, Evaluated}

-- what the third coefficient brings
abbrev pub growth : Law → ℕ → ℕ
growth c t = c.third * fine * t / day

-- in the law's first n days, or limits
module _ (c : Law) (n t : ℕ) (h : t ≤ n * day) where
  pub growth_within : growth c t ≤ c.third * fine * n
  growth_within = omega (arith, product (c.third * fine) t (c.third * fine) (n * day) (omega arith) h)

  pub taken_within : taken c t ≤ (c.second * fine + c.third * fine * n) * n
  unfolding taken
  taken_within =
      omega (
        arith,
        product (c.second * fine + growth c t) t (c.second * fine + c.third * fine * n) (n * day)
            (omega (arith, growth_within)) h,
      )

module _ (c : Law) (t : ℕ) (h : Evaluated c t) where
  pub growth_le : growth c t ≤ c.third * fine * reach
  growth_le = growth_within c reach t h.2

  pub taken_le : taken c t ≤ c.first * fine
  taken_le = omega (arith, taken_within c reach t h.2)

module _ (c : Law) (k : ℕ) (h : (c.second + c.third * reach) * reach ≤ c.first) (r : k ≤ reach) where
  pub inner_le : k * (c.second + k * c.third) ≤ c.first
  inner_le =
      omega (
        arith,
        product k (c.second + k * c.third) reach (c.second + reach * c.third) r
            (omega (arith, product k c.third reach c.third r (omega arith))),
      )

  pub nested : k * (c.first - k * (c.second + k * c.third)) ≡ exact c k
  unfolding exact
  nested = omega (arith, ap (λ (x : ℕ). k * x) (sub-add_cancel inner_le))

  pub exact_le : exact c k ≤ reach * c.first
  unfolding exact
  exact_le = omega (arith, product k c.first reach c.first r (omega arith))

  pub nested_le : k * (c.first - k * (c.second + k * c.third)) ≤ reach * c.first
  nested_le = omega (arith, nested, exact_le)
