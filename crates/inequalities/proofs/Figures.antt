-- Both inequalities and the motion, computed for the lunations 0, 1, 12,368 and 12,369, with which the Shoushi's lists begin and end.
-- Assumes nothing.
use mathlib.Core.Path.{◌≡◌, refl}
use Prim.Native.Nat.{ℕ}
use Rattle.signed.specs.Signed.{Signed, ahead_by, behind_by}
use Rattle.inequalities.specs.Law.{taken, law, exact}
use Rattle.inequalities.specs.Solar.{fast_at, slow_at, solar}
use Rattle.inequalities.specs.Lunar.{lunar_magnitude, lunar}
use Rattle.inequalities.specs.Motion.{whole_law, motion_at, motion_in_row, row_of, motion}

-- the sun's at a solar time, and the moon's and the motion at an anomaly
abbrev At : ℕ → ℕ → Signed → Signed → ℕ → Type 0
At s a sun moon rate = (solar s ≡ sun) × (lunar a ≡ moon) × (motion a ≡ rate)

pub figures : At 16_243_625_000 2_056_000_000 (behind_by 93_335_814) (behind_by 542_779_589) 109_786_425
    × At 19_196_684_300 2_253_599_300 (ahead_by 45_798_927) (behind_by 499_962_789) 113_589_675
    × At 15_431_047_400 1_871_122_400 (behind_by 124_904_550) (behind_by 496_056_437) 105_482_675
    × At 18_384_106_700 2_068_721_700 (ahead_by 6_224_904) (behind_by 542_475_248) 109_243_025
unfolding solar fast_at slow_at lunar lunar_magnitude motion motion_in_row row_of motion_at whole_law exact law taken
figures = ((refl, refl, refl), (refl, refl, refl), (refl, refl, refl), (refl, refl, refl))
