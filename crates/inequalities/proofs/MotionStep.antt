-- The motion changes by at most 5,000,000 from one lunation to the next: the row of the next lunation is 24 or 25 rows on, around the
-- circle of all rows.
-- Assumes nothing.
use mathlib.Core.Logic.{◌⊎◌, inl, inr, ⊎_elim}
use mathlib.Core.Path.{◌≡◌}
use Prim.Native.Nat.{ℕ, ◌+◌, ◌-◌, ◌/◌, ◌%◌, ◌≤◌, ◌<◌, min}
use native.Mathlib.Omega.{arith}
use Rattle.measure.specs.Units.{day, anomalistic_month, anomalistic_half, anomaly_advance}
use Rattle.rows.proofs.Choice.{lt_or_ge}
use Rattle.signed.specs.Signed.{ahead_by}
use Rattle.inequalities.specs.Limits.{end, limits, whole_limit}
use Rattle.inequalities.specs.Motion.{motion_in_row, rows, row_of, motion}
use Rattle.inequalities.proofs.MotionRows.{row_on, fewer_rows, more_rows, motion_step, Near, near_fewer, near_more}
use Rattle.inequalities.proofs.MotionAt.{row_lt, row_quick, row_tardy}
use Rattle.signed.proofs.Sizes.{gap, gap_is}

-- 24 or 25 rows on
OnBy : ℕ → ℕ → Type 0
OnBy r r' = (r' ≡ (r + fewer_rows) % rows) ⊎ (r' ≡ (r + more_rows) % rows)

-- where a row lies that far on, with or without a whole circle
on_by : (r r' far : ℕ) → r' ≡ far % rows → r + fewer_rows ≤ far → far ≤ r + more_rows → OnBy r r'
unfolding OnBy
on_by r r' far at l k =
    ⊎_elim (λ (s : far < r + more_rows). inl (omega arith)) (λ (s : r + more_rows ≤ far). inr (omega arith)) (lt_or_ge far (r + more_rows))

-- from a time in a half to that of the next lunation, in the same half and in the other one. First in limits: neither an advance
-- nor a half leaves a rest there
same_limits : (n n' : ℕ) → n' ≡ n + limits anomaly_advance → n' < limits anomalistic_half
    → (min (end - 1) (n / day) + fewer_rows ≤ min (end - 1) (n' / day)) × (min (end - 1) (n' / day) ≤ min (end - 1) (n / day) + more_rows)
same_limits n n' e h = omega arith

same_half : (t t' : ℕ) → t' ≡ t + anomaly_advance → t' < anomalistic_half
    → (whole_limit t + fewer_rows ≤ whole_limit t') × (whole_limit t' ≤ whole_limit t + more_rows)
same_half t t' e h = same_limits (limits t) (limits t') (omega arith) (omega arith)

other_limits : (n n' : ℕ) → n < limits anomalistic_half → n' + limits anomalistic_half ≡ n + limits anomaly_advance
    → (min (end - 1) (n / day) + fewer_rows ≤ end + min (end - 1) (n' / day))
    × (end + min (end - 1) (n' / day) ≤ min (end - 1) (n / day) + more_rows)
other_limits n n' h e = omega arith

other_half : (t t' : ℕ) → t < anomalistic_half → t' + anomalistic_half ≡ t + anomaly_advance
    → (whole_limit t + fewer_rows ≤ end + whole_limit t') × (end + whole_limit t' ≤ whole_limit t + more_rows)
other_half t t' h e = other_limits (limits t) (limits t') (omega arith) (omega arith)

abbrev next_anomaly : ℕ → ℕ
next_anomaly a = (a + anomaly_advance) % anomalistic_month

from_quick : (a : ℕ) → a < anomalistic_half → (a + anomaly_advance < anomalistic_half) ⊎ (anomalistic_half ≤ a + anomaly_advance)
    → OnBy (row_of a) (row_of (next_anomaly a))
from_quick a quick (inl stays) =
    let on = same_half a (next_anomaly a) (omega arith) (omega arith) in
    rw (row_quick a quick, row_quick (next_anomaly a) (omega arith))
    (on_by _ _ (whole_limit (next_anomaly a)) (omega arith) on.0 on.1)
from_quick a quick (inr leaves) =
    let on = other_half a (next_anomaly a - anomalistic_half) quick (omega arith) in
    rw (row_quick a quick, row_tardy (next_anomaly a) (omega arith))
    (on_by _ _ (end + whole_limit (next_anomaly a - anomalistic_half)) (omega arith) on.0 on.1)

from_tardy : (a : ℕ) → anomalistic_half ≤ a → a < anomalistic_month
    → (a + anomaly_advance < anomalistic_month) ⊎ (anomalistic_month ≤ a + anomaly_advance)
    → OnBy (row_of a) (row_of (next_anomaly a))
from_tardy a tardy h (inl stays) =
    let on = same_half (a - anomalistic_half) (next_anomaly a - anomalistic_half) (omega arith) (omega arith) in
    rw (row_tardy a tardy, row_tardy (next_anomaly a) (omega arith))
    (on_by _ _ (end + whole_limit (next_anomaly a - anomalistic_half)) (omega arith) (omega arith) (omega arith))
from_tardy a tardy h (inr leaves) =
    let on = other_half (a - anomalistic_half) (next_anomaly a) (omega arith) (omega arith) in
    rw (row_tardy a tardy, row_quick (next_anomaly a) (omega arith))
    (on_by _ _ (whole_limit (next_anomaly a) + rows) (omega arith) (omega arith) (omega arith))

row_step : (a : ℕ) → a < anomalistic_month → OnBy (row_of a) (row_of (next_anomaly a))
row_step a h =
    ⊎_elim (λ (quick : a < anomalistic_half). from_quick a quick (lt_or_ge (a + anomaly_advance) anomalistic_half))
    (λ (tardy : anomalistic_half ≤ a). from_tardy a tardy h (lt_or_ge (a + anomaly_advance) anomalistic_month))
    (lt_or_ge a anomalistic_half)

-- and so are the motions
near_gap : (r r' : ℕ) → Near r r' → gap (ahead_by (motion_in_row r)) (ahead_by (motion_in_row r')) ≤ motion_step
near_gap r r' h = rw gap_is (omega arith)

rows_step : (r r' : ℕ) → r < rows → OnBy r r' → gap (ahead_by (motion_in_row r)) (ahead_by (motion_in_row r')) ≤ motion_step
unfolding OnBy
rows_step r r' h on =
    ⊎_elim (λ (e : r' ≡ (r + fewer_rows) % rows). rw e (near_gap r (row_on fewer_rows r) (near_fewer r h)))
    (λ (e : r' ≡ (r + more_rows) % rows). rw e (near_gap r (row_on more_rows r) (near_more r h)))
    on

pub motion_step_lem : (a : ℕ) → a < anomalistic_month
    → gap (ahead_by (motion a)) (ahead_by (motion ((a + anomaly_advance) % anomalistic_month))) ≤ motion_step
unfolding motion
motion_step_lem a h = rows_step (row_of a) (row_of (next_anomaly a)) (row_lt a) (row_step a h)
