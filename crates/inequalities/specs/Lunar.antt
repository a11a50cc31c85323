-- "Lunar inequality" (000:896-947), in units of 10⁻⁸ degree.
-- Assumes nothing.
use Rattle.std.specs.Prelude.{ℕ, ◌*◌, ◌-◌, if◌then◌else◌}
use Rattle.rows.specs.Choice.{◌≤?◌, ◌<?◌}
use Rattle.rows.specs.Reply.{Reply, answer, outside, refuse_if}
use Rattle.measure.specs.Units.{day, anomalistic_half}
use Rattle.signed.specs.Signed.{Signed, ahead_by, behind_by}
use Rattle.inequalities.specs.Law.{law_moon, law}
use Rattle.inequalities.specs.Limits.{LunarHalf, quick, tardy, middle, end, limits}

-- the magnitude at so many limits. A difference of naturals is never below 0: past the end it is 0, and the law there too
unfoldable pub lunar_magnitude : ℕ → ℕ
lunar_magnitude n = if n ≤? middle * day then law law_moon n else law law_moon (end * day - n)

-- at a time in a half: quick is positive, tardy negative
abbrev pub lunar_at : LunarHalf → ℕ → Signed
lunar_at quick t = ahead_by (lunar_magnitude (limits t))
lunar_at tardy t = behind_by (lunar_magnitude (limits t))

-- at an anomaly from 0 to before the anomalistic month: the quick half comes first
unfoldable pub lunar : ℕ → Signed
lunar a = if a <? anomalistic_half then lunar_at quick a else lunar_at tardy (a - anomalistic_half)

-- the direct question: a half and a time in it
unfoldable pub lunar_at_reply : LunarHalf → ℕ → Reply Signed
lunar_at_reply h t = refuse_if (anomalistic_half ≤? t) outside (answer (lunar_at h t))
