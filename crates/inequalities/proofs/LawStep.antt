-- How fast a law can rise and fall, and what it is at most: for any coefficients, so once for all three laws.
-- Assumes nothing.
use mathlib.Core.Path.{◌≡◌, refl, ap}
use Prim.Native.Nat.{ℕ, ◌+◌, ◌*◌, ◌-◌, ◌/◌, ◌≤◌}
use native.Mathlib.Nat.{mul-le-mul_left, mul-le-mul_right, sub-add_cancel}
use native.Mathlib.Omega.{arith}
use Rattle.measure.specs.Units.{day}
use Rattle.measure.proofs.Product.{product}
use Rattle.inequalities.specs.Law.{Law, fine, taken, law}
use Rattle.inequalities.proofs.Evaluation.{growth, growth_within, taken_within}

-- the number that a law's last two quotients divide
whole : Law → ℕ → ℕ
whole c t = (c.first * fine - taken c t) * t

law_whole : (c : Law) (t : ℕ) → law c t ≡ whole c t / day / fine
unfolding law whole
law_whole c t = refl

-- a law is at most its first coefficient's part
pub law_le : (c : Law) (t : ℕ) → law c t ≤ c.first * t / day
unfolding whole
law_le c t = omega (arith, law_whole c t, product (c.first * fine - taken c t) t (c.first * fine) t (omega arith) (omega arith))

-- it rises no faster than its first coefficient says: what is taken never falls
module _ (c : Law) (t e : ℕ) where
  taken_rises : taken c t ≤ taken c (t + e)
  unfolding taken
  taken_rises =
      omega (
        arith,
        product (c.second * fine + growth c t) t (c.second * fine + growth c (t + e)) (t + e) (omega arith) (omega arith),
      )

  whole_rises : whole c (t + e) ≤ whole c t + c.first * fine * e
  unfolding whole
  whole_rises =
      omega (
        arith,
        product (c.first * fine - taken c (t + e)) (t + e) (c.first * fine - taken c t) (t + e)
            (omega (arith, taken_rises)) (omega arith),
        product (c.first * fine - taken c t) e (c.first * fine) e (omega arith) (omega arith),
      )

  pub law_rises : day * law c (t + e) ≤ day * law c t + c.first * e + day
  law_rises = omega (arith, law_whole c t, law_whole c (t + e), whole_rises)

-- What a law must satisfy so that in its first n days, or limits, it falls no faster than that either: what is taken stays below the
-- first coefficient and grows slowly enough, and the dropped rests come to 1 at most
pub record Steady (c : Law) (n : ℕ) : Type 0 where
  pub under : (c.second * fine + c.third * fine * n) * n ≤ c.first * fine
  pub gradual : (3 * (c.third * fine) * n + 2 * (c.second * fine)) * n ≤ 2 * (c.first * fine)
  pub lost : (n + 1) * n ≤ fine

module _ (c : Law) (n t e : ℕ) (s : Steady c n) (h : t + e ≤ n * day) where
  within : t ≤ n * day
  within = omega arith

  et : e * t ≤ e * (n * day)
  et = product e t e (n * day) (omega arith) within

  growth_steep : growth c (t + e) * t ≤ growth c t * t + t + c.third * fine * n * e
  growth_steep =
      omega (
        arith,
        mul-le-mul_right {m = day * growth c (t + e)} {n = day * growth c t + day + c.third * fine * e} t (omega arith),
        mul-le-mul_left c.third et,
      )

  taken_steep : day * taken c (t + e) ≤ day * taken c t + day + t + (2 * (c.third * fine) * n + c.second * fine) * e
  unfolding taken
  taken_steep = omega (arith, growth_steep, mul-le-mul_right e (growth_within c n (t + e) h))

  times_steep : taken c (t + e) * t
      ≤ taken c t * t + (n + 1) * t + (2 * (c.third * fine) * n + c.second * fine) * n * e
  times_steep =
      omega (
        arith,
        mul-le-mul_right
            {m = day * taken c (t + e)}
            {n = day * taken c t + day + t + (2 * (c.third * fine) * n + c.second * fine) * e}
            t taken_steep,
        mul-le-mul_left (2 * (c.third * fine) * n + c.second * fine) et,
        mul-le-mul_right t within,
      )

  whole_falls : whole c t ≤ whole c (t + e) + fine * day + c.first * fine * e
  unfolding whole
  whole_falls =
      omega (
        arith,
        times_steep,
        mul-le-mul_right e (taken_within c n (t + e) h),
        mul-le-mul_right e s.gradual,
        mul-le-mul_left (n + 1) within,
        s.lost,
        ap (λ (z : ℕ). z * t)
            (sub-add_cancel {n = c.first * fine} {m = taken c t}
            (omega (arith, s.under, taken_within c n (t + e) h, taken_rises c t e))),
        ap (λ (z : ℕ). z * (t + e))
            (sub-add_cancel {n = c.first * fine} {m = taken c (t + e)} (omega (arith, s.under, taken_within c n (t + e) h))),
      )

  pub law_falls : day * law c t ≤ day * law c (t + e) + c.first * e + day * 2
  law_falls = omega (arith, law_whole c t, law_whole c (t + e), whole_falls)
