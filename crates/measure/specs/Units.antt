-- "Units and constants": each constant of the table once, with its identity checked. A time is in whole wei, an angle in whole units
-- of 10⁻⁸ degree. Beside a constant stands where source 000 prints it.
-- Assumes nothing.
use Rattle.std.specs.Prelude.{◌≡◌, refl, ℕ, ◌+◌, ◌*◌, ◌-◌}

-- 000:166. A limit of the lunar inequality is counted in as many parts
abbrev pub day : ℕ
day = 100_000_000

abbrev pub fen : ℕ
fen = 10_000

abbrev pub miao : ℕ
miao = 100

-- 000:186
abbrev pub year : ℕ
year = 36_524_250_000

-- 000:480
abbrev pub half_year : ℕ
half_year = 18_262_125_000

-- 001:981; 000:188 is misread
abbrev pub month : ℕ
month = 2_953_059_300

-- 000:886
abbrev pub quarter_step : ℕ
quarter_step = 738_264_825

-- 000:192
abbrev pub term_step : ℕ
term_step = 1_521_843_750

-- not printed: a third of a term
abbrev pub pentad_step : ℕ
pentad_step = 507_281_250

-- 000:248
abbrev pub earth_step : ℕ
earth_step = 304_368_750

-- 000:870
abbrev pub anomalistic_month : ℕ
anomalistic_month = 2_755_460_000

-- 000:874
abbrev pub anomalistic_half : ℕ
anomalistic_half = 1_377_730_000

-- 000:884: how far the anomaly moves from one month to the next
abbrev pub anomaly_advance : ℕ
anomaly_advance = month - anomalistic_month

-- 000:200: a month is so much under 30 days
abbrev pub month_deficit : ℕ
month_deficit = 46_940_700

-- years are counted from 0 to this one
abbrev pub last_year : ℕ
last_year = 999

units : (day ≡ 10_000 * fen) × (fen ≡ 100 * miao)
units = (refl, refl)

solar_identities : (year ≡ 365 * day + 2_425 * fen) × (year ≡ 2 * half_year) × (year ≡ 24 * term_step)
    × (term_step ≡ 3 * pentad_step)
    × (term_step ≡ 5 * earth_step)
solar_identities = (refl, refl, refl, refl, refl)

lunar_identities : (month ≡ 295_305 * fen + 93 * miao) × (month ≡ 4 * quarter_step) × (30 * day ≡ month + month_deficit)
    × (anomalistic_month ≡ 2 * anomalistic_half)
lunar_identities = (refl, refl, refl, refl)
