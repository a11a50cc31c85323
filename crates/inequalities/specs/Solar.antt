-- "Solar inequality" (000:486-519), in units of 10⁻⁸ degree.
-- Assumes nothing.
use Rattle.std.specs.Prelude.{◌≡◌, refl, ℕ, ◌+◌, ◌-◌, if◌then◌else◌}
use Rattle.rows.specs.Choice.{◌≤?◌, ◌<?◌}
use Rattle.rows.specs.Reply.{Reply, answer, outside, refuse_if}
use Rattle.measure.specs.Units.{half_year}
use Rattle.signed.specs.Signed.{Signed, ahead_by, behind_by}
use Rattle.inequalities.specs.Law.{law_a, law_b, law}
use Rattle.inequalities.specs.declared.solar.SolarHalf.{SolarHalf as SolarHalfAsked}
use Rattle.inequalities.specs.declared.solar.SolarHalf.TheVariants.{Fast, Slow}

-- suo and ying
pub data SolarHalf : Type 0 where
  slow fast : SolarHalf

-- 000:482 and 484: how far the first law of each half reaches
abbrev pub fast_limit : ℕ
fast_limit = 8_890_922_500

abbrev pub slow_limit : ℕ
slow_limit = 9_371_202_500

limits_sum : half_year ≡ fast_limit + slow_limit
limits_sum = refl

-- the magnitude at a time in each half
unfoldable pub fast_at : ℕ → ℕ
fast_at t = if t ≤? fast_limit then law law_a t else law law_b (half_year - t)

unfoldable pub slow_at : ℕ → ℕ
slow_at t = if t ≤? slow_limit then law law_b t else law law_a (half_year - t)

-- fast is positive, slow negative
abbrev pub solar_at : SolarHalf → ℕ → Signed
solar_at fast t = ahead_by (fast_at t)
solar_at slow t = behind_by (slow_at t)

-- at a solar time from 0 to before the year: the slow half comes first
unfoldable pub solar : ℕ → Signed
solar s = if s <? half_year then solar_at slow s else solar_at fast (s - half_year)

-- the direct question: a half and a time in it
unfoldable pub solar_at_reply : SolarHalf → ℕ → Reply Signed
solar_at_reply h t = refuse_if (half_year ≤? t) outside (answer (solar_at h t))

-- the half that each case stands for
abbrev pub solar_half_said : SolarHalfAsked → SolarHalf
solar_half_said Fast = fast
solar_half_said Slow = slow
