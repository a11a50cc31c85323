-- The times of a lunation's quarter: where they lie, and those of the next lunation.
-- Assumes nothing.
use mathlib.Core.Path.{◌≡◌}
use Prim.Native.Nat.{ℕ, suc, ◌+◌, ◌*◌, ◌%◌, ◌≤◌, ◌<◌}
use native.Mathlib.Omega.{arith}
use Rattle.measure.specs.Units.{day, year, month, anomalistic_month, anomaly_advance}
use Rattle.measure.specs.Epoch.{Epoch, shoushi, mean_start}
use Rattle.moons.specs.Lunation.{Counted, mean, solar_time, anomaly}

pub solar_time_lt : (e : Epoch) (l q : ℕ) → solar_time e l q < year
unfolding solar_time
solar_time_lt e l q = omega arith

pub anomaly_lt : (e : Epoch) (l q : ℕ) → anomaly e l q < anomalistic_month
unfolding anomaly
anomaly_lt e l q = omega arith

pub mean_new : (e : Epoch) (l : ℕ) → mean e l 0 ≡ mean_start e + l * month
unfolding mean
mean_new e l = omega arith

pub mean_least : (e : Epoch) (l q : ℕ) → mean_start e ≤ mean e l q
unfolding mean
mean_least e l q = omega arith

pub mean_most : (l q : ℕ) → Counted l q → mean shoushi l q ≤ 400_000 * day
unfolding mean
mean_most l q h = omega arith

-- the same quarter of the next lunation
module _ (e : Epoch) (l q : ℕ) where
  pub mean_next : mean e (suc l) q ≡ mean e l q + month
  unfolding mean
  mean_next = omega arith

  pub solar_next : solar_time e (suc l) q ≡ (solar_time e l q + month) % year
  unfolding solar_time
  solar_next = omega arith

  pub anomaly_next : anomaly e (suc l) q ≡ (anomaly e l q + anomaly_advance) % anomalistic_month
  unfolding anomaly
  anomaly_next = omega arith
