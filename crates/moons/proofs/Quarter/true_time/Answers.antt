-- `moons::Quarter::true_time` meets its contract: the sum fits its bits, and is no less than 0. Assumes nothing.
use mathlib.Core.Path.{ap}
use lib.IntN.{nat_abs}
use mir.Facts.{Fits-nat_abs}
use Rattle.moons.proofs.Bits.{fits_as, mean_fits, true_fits, sum_read, true_read}
use Rattle.moons.proofs.Quarter.true_time.Goals as goal

pub overflow_cast-result : goal.overflow_cast-result
overflow_cast-result c =
    rw c.mean.ensures (mean_fits _ _ c.args.self.counted)

pub overflow_add-result : goal.overflow_add-result
overflow_add-result c =
    fits_as (sum_read _ _ c.args.self.counted _ _ c.mean.ensures c.correction.ensures c.correction.type_inv) (true_fits _ _ c.args.self.counted)

pub overflow_cast-result-2 : goal.overflow_cast-result-2
overflow_cast-result-2 c =
    rw (true_read _ _ c.args.self.counted _ _ c.mean.ensures c.correction.ensures c.correction.type_inv) (tt, Fits-nat_abs tt (true_fits _ _ c.args.self.counted))

pub returns : goal.returns
returns c =
    ap nat_abs (true_read _ _ c.args.self.counted _ _ c.mean.ensures c.correction.ensures c.correction.type_inv)
