-- "Motion in a limit": by how much the moon moves in each whole limit, in units of 10⁻⁸ degree.
-- Assumes nothing.
use Rattle.std.specs.Prelude.{ℕ, ◌+◌, ◌-◌, if◌then◌else◌}
use Rattle.rows.specs.Choice.{◌≤?◌, ◌<?◌}
use Rattle.rows.specs.Reply.{Reply, answer, outside, refuse_if}
use Rattle.measure.specs.Units.{anomalistic_half}
use Rattle.inequalities.specs.Law.{law_moon, exact}
use Rattle.inequalities.specs.Limits.{LunarHalf, quick, tardy, middle, end, whole_limit}

-- 13.36875 degrees a day (000:882) for the 0.0820 day of a limit
abbrev pub mean_motion : ℕ
mean_motion = 109_623_750

-- E(k): the exact law at whole k up to the middle, and at 168 − k after
unfoldable pub whole_law : ℕ → ℕ
whole_law k = if k ≤? middle then exact law_moon k else exact law_moon (end - k)

-- the mean and E(k + 1) − E(k) when quick, less it when tardy
unfoldable pub motion_at : LunarHalf → ℕ → ℕ
motion_at quick k = mean_motion + whole_law (k + 1) - whole_law k
motion_at tardy k = mean_motion + whole_law k - whole_law (k + 1)

-- the table of 336: 168 rows of the quick half, then those of the tardy half
abbrev pub rows : ℕ
rows = end + end

unfoldable pub motion_in_row : ℕ → ℕ
motion_in_row r = if r <? end then motion_at quick r else motion_at tardy (r - end)

-- the row of an anomaly, and the motion there
unfoldable pub row_of : ℕ → ℕ
row_of a = if a <? anomalistic_half then whole_limit a else end + whole_limit (a - anomalistic_half)

unfoldable pub motion : ℕ → ℕ
motion a = motion_in_row (row_of a)

-- the direct question: a half and a whole limit
unfoldable pub motion_at_reply : LunarHalf → ℕ → Reply ℕ
motion_at_reply h k = refuse_if (end ≤? k) outside (answer (motion_at h k))
