-- The true new moons of the lunations 0, 1, 12,368 and 12,369, computed: the Shoushi's first list begins with 0, and its last ends before 12,368.
-- Assumes nothing.
use mathlib.Core.Path.{◌≡◌}
use Rattle.measure.specs.Epoch.{shoushi}
use Rattle.inequalities.proofs.Figures.{figures}
use Rattle.moons.specs.Lunation.{mean, solar_time, anomaly}
use Rattle.moons.specs.TrueMoon.{corrected, correction, correction_of, moved, true_moon}

pub record TrueMoons : Type 0 where
  pub moon_0 : true_moon shoushi 0 0 ≡ 3_521_069_168
  pub moon_1 : true_moon shoushi 1 0 ≡ 6_479_957_652
  pub moon_12368 : true_moon shoushi 12_368 0 ≡ 36_526_953_774_962
  pub moon_12369 : true_moon shoushi 12_369 0 ≡ 36_529_919_168_231

pub true_moons : TrueMoons
unfolding true_moon moved mean correction_of correction corrected solar_time anomaly
true_moons =
    record {
      moon_0 = rw (figures.0.0, figures.0.1, figures.0.2);
      moon_1 = rw (figures.1.0, figures.1.1, figures.1.2);
      moon_12368 = rw (figures.2.0, figures.2.1, figures.2.2);
      moon_12369 = rw (figures.3.0, figures.3.1, figures.3.2);
    }
