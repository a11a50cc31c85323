-- `reads::given` meets its contract: a number from 0 on is a `usize`, and one below 0 is none. Assumes nothing.
use Rattle.std.proofs.Common.{◌≡◌, ◌∙◌, ap, ℕ, ℤ, pos, negsuc, nat_abs, min, refl, w64, arith}
use Rattle.std.specs.Int.{FitsUnsignedBits}
use mir.Val.{SFits}
use mir.Facts.{to_z-of_z}
use Rattle.reads.specs.Given.{bytes, failed, given}
use Rattle.reads.proofs.given.Goals as goal

from_zero : (z : ℤ) (n room least : ℕ) → FitsUnsignedBits 64 z → n ≡ nat_abs z → least ≡ min n room → bytes least ≡ given z room
unfolding given
from_zero (pos k) n room least fits e f = ap bytes (f ∙ ap (λ (m : ℕ). min m room) e)
from_zero (negsuc k) n room least fits e f = absurd fits

below_zero : (z : ℤ) (room : ℕ) → SFits w64 z → (FitsUnsignedBits 64 z → ⊥) → failed ≡ given z room
unfolding given
below_zero (pos k) room f h = absurd (h (omega (arith, f.sfits)))
below_zero (negsuc k) room f h = refl

pub returns-in-Ok-clause-value : goal.returns-in-Ok-clause-value
returns-in-Ok-clause-value c =
    let back = to_z-of_z c.ranges.answered in
    let told = simp back at c.in-Ok.ensures in
    from_zero c.args.answered _ _ _ told.0 told.1 c.min.ensures

pub returns-in-Err-clause-value : goal.returns-in-Err-clause-value
returns-in-Err-clause-value c =
    let back = to_z-of_z c.ranges.answered in
    below_zero c.args.answered _ c.ranges.answered (simp back at c.in-Err.ensures)
