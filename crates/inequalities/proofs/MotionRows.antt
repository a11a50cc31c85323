-- The motions over the rows of the table: how small, how large, and by how much they differ 24 and 25 rows apart, around the circle of
-- all rows, as they are from one lunation to the next. Each is a test, computed at every row.
-- Assumes nothing.
use mathlib.Core.Bool.{Bool, ◌&&◌}
use mathlib.Core.Path.{◌≡◌, refl}
use Prim.Native.Nat.{ℕ, ◌+◌, ◌-◌, ◌/◌, ◌%◌, ◌≤◌, ◌<◌}
use lib.Dec.{T, leb→le}
use Rattle.rows.specs.Choice.{◌≤?◌}
use Rattle.measure.specs.Units.{day, anomaly_advance}
use Rattle.inequalities.specs.Law.{exact}
use Rattle.inequalities.specs.Limits.{end, limits}
use Rattle.inequalities.specs.Motion.{whole_law, motion_at, rows, motion_in_row}
use Rattle.rows.proofs.Below.{both_left, both_right, below, below_at}

-- ---- least and greatest
abbrev pub least_motion : ℕ
least_motion = 98_542_175

abbrev pub greatest_motion : ℕ
greatest_motion = 120_705_325

occur : (motion_in_row end ≡ least_motion) × (motion_in_row (rows - 1) ≡ greatest_motion)
unfolding motion_in_row motion_at whole_law exact
occur = (refl, refl)

at_least : ℕ → Bool
at_least r = least_motion ≤? motion_in_row r

at_most : ℕ → Bool
at_most r = motion_in_row r ≤? greatest_motion

all_at_least : T (below at_least rows)
unfolding at_least motion_in_row motion_at whole_law exact
all_at_least = tt

all_at_most : T (below at_most rows)
unfolding at_most motion_in_row motion_at whole_law exact
all_at_most = tt

pub row_least : (r : ℕ) → r < rows → least_motion ≤ motion_in_row r
unfolding at_least
row_least r h = leb→le least_motion (motion_in_row r) (below_at at_least rows all_at_least r h)

pub row_most : (r : ℕ) → r < rows → motion_in_row r ≤ greatest_motion
unfolding at_most
row_most r h = leb→le (motion_in_row r) greatest_motion (below_at at_most rows all_at_most r h)

-- ---- steps around the circle
abbrev pub row_on : ℕ → ℕ → ℕ
row_on d r = (r + d) % rows

-- the anomaly moves on by 24 whole limits and a part
abbrev pub fewer_rows : ℕ
fewer_rows = limits anomaly_advance / day

abbrev pub more_rows : ℕ
more_rows = fewer_rows + 1

counts : (fewer_rows ≡ 24) × (more_rows ≡ 25)
counts = (refl, refl)

abbrev pub motion_step : ℕ
motion_step = 5_000_000

-- the motions of two rows are at most a step apart
abbrev pub Near : ℕ → ℕ → Type 0
Near r s = (motion_in_row s ≤ motion_in_row r + motion_step) × (motion_in_row r ≤ motion_in_row s + motion_step)

rises : ℕ → ℕ → Bool
rises d r = motion_in_row (row_on d r) ≤? motion_in_row r + motion_step

falls : ℕ → ℕ → Bool
falls d r = motion_in_row r ≤? motion_in_row (row_on d r) + motion_step

near : ℕ → ℕ → Bool
near d r = rises d r && falls d r

all_near_fewer : T (below (near fewer_rows) rows)
unfolding near rises falls motion_in_row motion_at whole_law exact
all_near_fewer = tt

all_near_more : T (below (near more_rows) rows)
unfolding near rises falls motion_in_row motion_at whole_law exact
all_near_more = tt

near_at : (d : ℕ) → T (below (near d) rows) → (r : ℕ) → r < rows → Near r (row_on d r)
unfolding near rises falls
near_at d t r h =
    let at = below_at (near d) rows t r h in (
      leb→le (motion_in_row (row_on d r)) (motion_in_row r + motion_step) (both_left (rises d r) (falls d r) at),
      leb→le (motion_in_row r) (motion_in_row (row_on d r) + motion_step) (both_right (rises d r) (falls d r) at),
    )

pub near_fewer : (r : ℕ) → r < rows → Near r (row_on fewer_rows r)
near_fewer = near_at fewer_rows all_near_fewer

pub near_more : (r : ℕ) → r < rows → Near r (row_on more_rows r)
near_more = near_at more_rows all_near_more
