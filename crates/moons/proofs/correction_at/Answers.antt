-- `moons::correction_at` meets its contract: each step fits its bits and is read back off them. Assumes nothing.
use native.Mathlib.Omega.{arith}
use Rattle.inequalities.proofs.MotionAt.{motion_least}
use Rattle.moons.proofs.Bits.{fits_as, difference_fits, product_fits, motion_fits, correction_fits, difference_read, product_read, quotient_read, correction_read}
use Rattle.moons.proofs.correction_at.Goals as goal

pub overflow_sub-ahead : goal.overflow_sub-ahead
overflow_sub-ahead c =
    fits_as (difference_read _ _ _ _ c.solar.ensures c.lunar.ensures c.solar.type_inv c.lunar.type_inv) (difference_fits _ _)

pub overflow_mul-result : goal.overflow_mul-result
overflow_mul-result c =
    fits_as (product_read _ _ _ _ c.solar.ensures c.lunar.ensures c.solar.type_inv c.lunar.type_inv) (product_fits _ _)

pub overflow_cast-result : goal.overflow_cast-result
overflow_cast-result c =
    rw c.motion.ensures (motion_fits c.args.anomaly)

pub nonzero_div-result : goal.nonzero_div-result
nonzero_div-result c =
    let read = quotient_read _ _ _ _ c.solar.ensures c.lunar.ensures c.solar.type_inv c.lunar.type_inv _ c.motion.ensures in
    (omega (arith, motion_least c.args.anomaly, c.motion.ensures), fits_as read (correction_fits _ _))

pub returns : goal.returns
returns c =
    correction_read _ _ _ _ c.solar.ensures c.lunar.ensures c.solar.type_inv c.lunar.type_inv _ c.motion.ensures
