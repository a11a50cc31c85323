-- The paper's remark on the laws: a law's result differs from the exact cubic in t by less than 2 units. Both sides are multiplied by
-- the third power of the day, so that no fraction appears. It is in fact less than one unit: a rest dropped from what is taken away
-- adds at most one day's worth for each day passed, and `fine` is more than 94 days times 95.
-- Assumes nothing.
use mathlib.Core.Path.{◌≡◌, ap}
use Prim.Native.Nat.{ℕ, ◌+◌, ◌*◌, ◌-◌, ◌≤◌, ◌<◌}
use native.Mathlib.Nat.{mul-le-mul_right, sub-add_cancel}
use native.Mathlib.Omega.{arith}
use Rattle.measure.specs.Units.{day}
use Rattle.measure.proofs.Product.{product}
use Rattle.inequalities.specs.Law.{Law, fine, taken, law, law_a, law_b, law_moon}
use Rattle.inequalities.specs.Evaluation.{reach, Evaluated}
use Rattle.inequalities.proofs.Evaluation.{growth, taken_le}
use Rattle.inequalities.specs.Solar.{fast_limit, slow_limit}
use Rattle.inequalities.specs.Limits.{middle}

-- the exact cubic is the gain less the loss, over day × day × day
abbrev gain : Law → ℕ → ℕ
gain c t = c.first * t * day * day

abbrev loss : Law → ℕ → ℕ
loss c t = c.second * t * t * day + c.third * t * t * t

abbrev cubed : ℕ
cubed = day * day * day

-- the law is less than n units above the cubic, and less than n below it
pub record Within (n : ℕ) (c : Law) (t : ℕ) : Type 0 where
  pub not_above : law c t * cubed + loss c t < gain c t + n * cubed
  pub not_below : gain c t < law c t * cubed + loss c t + n * cubed

module _ (c : Law) (t : ℕ) (h : Evaluated c t) where
  -- what is taken away, against the exact loss
  growth_below : growth c t * day * (t * t) ≤ c.third * fine * t * (t * t)
  growth_below = mul-le-mul_right (t * t) (omega arith)

  growth_above : c.third * fine * t * (t * t) ≤ (growth c t * day + day) * (t * t)
  growth_above = mul-le-mul_right (t * t) (omega arith)

  taken_below : taken c t * day * t ≤ (c.second * fine + growth c t) * t * t
  unfolding taken
  taken_below = mul-le-mul_right t (omega arith)

  taken_above : (c.second * fine + growth c t) * t * t ≤ (taken c t * day + day) * t
  unfolding taken
  taken_above = mul-le-mul_right t (omega arith)

  loss_least : taken c t * t * day * day ≤ fine * loss c t
  loss_least = omega (arith, growth_below, taken_below)

  loss_most : fine * loss c t ≤ taken c t * t * day * day + day * day * t + day * (t * t)
  loss_most = omega (arith, growth_above, taken_above)

  rests : day * day * t + day * (t * t) ≤ (reach + reach * reach) * cubed
  rests = omega (arith, product t t (reach * day) (reach * day) h.2 h.2)

  -- what is left, against the gain
  left : (c.first * fine - taken c t) * t + taken c t * t ≡ c.first * fine * t
  left = omega (arith, ap (λ (x : ℕ). x * t) (sub-add_cancel (taken_le c t h)))

  law_below : law c t * fine * day ≤ (c.first * fine - taken c t) * t
  unfolding law
  law_below = omega arith

  law_above : (c.first * fine - taken c t) * t < law c t * fine * day + fine * day
  unfolding law
  law_above = omega arith

  pub within_one : Within 1 c t
  within_one =
      record {
        not_above = omega (arith, loss_most, rests, left, law_below);
        not_below = omega (arith, loss_least, left, law_above);
      }

  pub within_two : Within 2 c t
  within_two = omega (arith, within_one)

pub remark_a : (t : ℕ) → t ≤ fast_limit → Within 2 law_a t
remark_a t h = within_two law_a t (omega arith)

pub remark_b : (t : ℕ) → t ≤ slow_limit → Within 2 law_b t
remark_b t h = within_two law_b t (omega arith)

pub remark_moon : (n : ℕ) → n ≤ middle * day → Within 2 law_moon n
remark_moon n h = within_two law_moon n (omega arith)
