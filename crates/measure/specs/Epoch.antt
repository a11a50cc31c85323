-- The epoch: where the counts of an edition begin. Every definition that hangs on it takes it as a record.
-- Assumes nothing.
use Rattle.std.specs.Prelude.{◌≡◌, refl, ℕ, ◌+◌, ◌-◌, ◌*◌, ◌%◌}
use Rattle.measure.specs.Units.{fen, half_year, anomalistic_month}

pub record Epoch : Type 0 where
  -- the solstice of year 0, as a running time
  pub solstice : ℕ
  -- how long before it the mean new moon fell
  pub leap_remainder : ℕ
  -- the anomaly at the solstice
  pub anomaly : ℕ

-- 000:195, 196 and 894: 550,600, 201,850 and 131,904 fen
abbrev pub shoushi : Epoch
shoushi = record { solstice = 5_506_000_000; leap_remainder = 2_018_500_000; anomaly = 1_319_040_000 }

printed : (shoushi.solstice ≡ 550_600 * fen) × (shoushi.leap_remainder ≡ 201_850 * fen) × (shoushi.anomaly ≡ 131_904 * fen)
printed = (refl, refl, refl)

-- The three starts, at lunation 0: the solstice, the half year and the anomaly, each less the leap remainder. The last is
-- reduced into the anomalistic month; two of these are added first, so that no leap remainder under a month takes it below 0
abbrev pub mean_start : Epoch → ℕ
mean_start e = e.solstice - e.leap_remainder

abbrev pub solar_start : Epoch → ℕ
solar_start e = half_year - e.leap_remainder

abbrev pub anomaly_start : Epoch → ℕ
anomaly_start e = (e.anomaly + 2 * anomalistic_month - e.leap_remainder) % anomalistic_month

starts : (mean_start shoushi ≡ 3_487_500_000) × (solar_start shoushi ≡ 16_243_625_000) × (anomaly_start shoushi ≡ 2_056_000_000)
starts = (refl, refl, refl)
