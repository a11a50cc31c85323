-- Limits of the "Lunar inequality" (000:876-884): the halves of the anomalistic month, and how a time in a half is counted.
-- Assumes nothing.
use Rattle.std.specs.Prelude.{◌≡◌, refl, ℕ, ◌*◌, ◌-◌, ◌/◌, min, if◌then◌else◌}
use Rattle.rows.specs.Choice.{◌≤?◌}
use Rattle.measure.specs.Units.{day, anomalistic_half}
use Rattle.inequalities.specs.declared.limits.LunarHalf.{LunarHalf as LunarHalfAsked}
use Rattle.inequalities.specs.declared.limits.LunarHalf.TheVariants.{Quick, Tardy}

-- ji and chi
pub data LunarHalf : Type 0 where
  quick tardy : LunarHalf

-- 000:876-880: limits to the middle of a half, and to its end
abbrev pub middle : ℕ
middle = 84

abbrev pub end : ℕ
end = 168

-- the limits in a time, counted in 10⁻⁸ of a limit
abbrev pub limits : ℕ → ℕ
limits t = t * 122 / 10

-- half a month is a little over 168 limits
half_limits : limits anomalistic_half ≡ 16_808_306_000
half_limits = refl

-- the whole limit at a time in a half; 168 counts as 167
abbrev pub whole_limit : ℕ → ℕ
whole_limit t = min (end - 1) (limits t / day)

-- what is past the middle counts from the end, and past the end there is nothing
unfoldable pub from_nearer_end : ℕ → ℕ → ℕ
from_nearer_end n m = if n ≤? m then n else 2 * m - n

-- the half that each case stands for
abbrev pub lunar_half_said : LunarHalfAsked → LunarHalf
lunar_half_said Quick = quick
lunar_half_said Tardy = tardy
