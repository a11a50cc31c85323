-- "True moons" (000:953-955).
-- Assumes nothing.
use Rattle.std.specs.Prelude.{ℕ, ◌+◌, ◌*◌, ◌-◌, ◌/◌}
use Rattle.rows.specs.Reply.{Reply}
use Rattle.measure.specs.Epoch.{Epoch}
use Rattle.signed.specs.Signed.{Signed, minus}
use Rattle.inequalities.specs.Solar.{solar}
use Rattle.inequalities.specs.Lunar.{lunar}
use Rattle.inequalities.specs.Motion.{motion}
use Rattle.moons.specs.Lunation.{of_quarter, mean, solar_time, anomaly}

-- what the correction multiplies by: 0.0820 day to a limit
abbrev pub correction_factor : ℕ
correction_factor = 8_200_000

-- the magnitude's quotient, its rest dropped and the sign put back: of the two differences one is 0
unfoldable pub corrected : Signed → ℕ → Signed
corrected x m =
    record {
      ahead = (x.ahead - x.behind) * correction_factor / m;
      behind = (x.behind - x.ahead) * correction_factor / m;
    }

-- the correction at a solar time and an anomaly: solar less lunar, over the motion
unfoldable pub correction : ℕ → ℕ → Signed
correction s a = corrected (minus (solar s) (lunar a)) (motion a)

-- of quarter q of lunation l
unfoldable pub correction_of : Epoch → ℕ → ℕ → Signed
correction_of e l q = correction (solar_time e l q) (anomaly e l q)

-- a time with its correction
unfoldable pub moved : ℕ → Signed → ℕ
moved t c = t + c.ahead - c.behind

unfoldable pub true_moon : Epoch → ℕ → ℕ → ℕ
true_moon e l q = moved (mean e l q) (correction_of e l q)

-- the questions about a lunation and a quarter
unfoldable pub solar_reply : Epoch → ℕ → ℕ → Reply Signed
solar_reply e l q = of_quarter l q (solar (solar_time e l q))

unfoldable pub lunar_reply : Epoch → ℕ → ℕ → Reply Signed
lunar_reply e l q = of_quarter l q (lunar (anomaly e l q))

unfoldable pub motion_reply : Epoch → ℕ → ℕ → Reply ℕ
motion_reply e l q = of_quarter l q (motion (anomaly e l q))

unfoldable pub correction_reply : Epoch → ℕ → ℕ → Reply Signed
correction_reply e l q = of_quarter l q (correction_of e l q)

unfoldable pub true_reply : Epoch → ℕ → ℕ → Reply ℕ
true_reply e l q = of_quarter l q (true_moon e l q)
