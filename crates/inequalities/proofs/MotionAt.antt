-- The rows of the table: which limit and which anomaly has which row, and the motion there.
-- Assumes nothing.
use mathlib.Core.Path.{◌≡◌}
use Prim.Native.Nat.{ℕ, ◌+◌, ◌-◌, ◌≤◌, ◌<◌}
use native.Mathlib.Nat.{add-sub_cancel_left}
use native.Mathlib.Omega.{arith}
use borrow.Author.Tests.{lt-ltb, le-ltb}
use Rattle.measure.specs.Units.{anomalistic_half}
use Rattle.inequalities.specs.Limits.{quick, tardy, end, whole_limit}
use Rattle.inequalities.specs.Motion.{mean_motion, whole_law, motion_at, rows, motion_in_row, row_of, motion}
use Rattle.rows.proofs.Choice.{if_lt}
use Rattle.inequalities.proofs.MotionRows.{least_motion, greatest_motion, row_least, row_most}

pub row_lt : (a : ℕ) → row_of a < rows
unfolding row_of
row_lt a = if_lt (λ (r : ℕ). r < rows) _ _ a anomalistic_half (λ h. omega arith) (λ h. omega arith)

pub row_quick : (a : ℕ) → a < anomalistic_half → row_of a ≡ whole_limit a
unfolding row_of
row_quick a h = rw (lt-ltb a anomalistic_half h)

pub row_tardy : (a : ℕ) → anomalistic_half ≤ a → row_of a ≡ end + whole_limit (a - anomalistic_half)
unfolding row_of
row_tardy a h = rw (le-ltb a anomalistic_half h)

pub quick_row : (k : ℕ) → k < end → motion_in_row k ≡ motion_at quick k
unfolding motion_in_row
quick_row k h = simp (lt-ltb _ _ h)

pub tardy_row : (k : ℕ) → motion_in_row (end + k) ≡ motion_at tardy k
unfolding motion_in_row
tardy_row k = simp (le-ltb (end + k) end (omega arith), add-sub_cancel_left)

-- so no motion falls below 0
pub quick_rises : (k : ℕ) → k < end → whole_law k ≤ mean_motion + whole_law (k + 1)
unfolding motion_at
quick_rises k h = omega (arith, row_least k (omega arith), quick_row k h)

pub tardy_rises : (k : ℕ) → k < end → whole_law (k + 1) ≤ mean_motion + whole_law k
unfolding motion_at
tardy_rises k h = omega (arith, row_least (end + k) (omega arith), tardy_row k)

pub motion_quick : (a : ℕ) → a < anomalistic_half → motion a ≡ motion_at quick (whole_limit a)
unfolding motion
motion_quick a h = rw (row_quick a h) (quick_row (whole_limit a) (omega arith))

pub motion_tardy : (a : ℕ) → anomalistic_half ≤ a → motion a ≡ motion_at tardy (whole_limit (a - anomalistic_half))
unfolding motion
motion_tardy a h = rw (row_tardy a h) (tardy_row (whole_limit (a - anomalistic_half)))

pub motion_least : (a : ℕ) → least_motion ≤ motion a
unfolding motion
motion_least a = row_least (row_of a) (row_lt a)

pub motion_most : (a : ℕ) → motion a ≤ greatest_motion
unfolding motion
motion_most a = row_most (row_of a) (row_lt a)
