-- The paper's other examples and figures of times, its refusals in their order, and some figures of the second program for each definition
-- that has a number in it: a plain test, computed. Those of months are in `Months`.
-- Assumes nothing.
use Rattle.std.specs.Prelude.{List, [], ◌∷◌, ◌++◌, ◌≡◌, refl, ℕ, ◌+◌, ◌*◌}
use Rattle.rows.specs.Reply.{answer, refused}
use Rattle.rows.specs.Row.{listed, over, row_after}
use Rattle.measure.specs.Units.{day}
use Rattle.measure.specs.Epoch.{shoushi}
use Rattle.measure.specs.Days.{sixty_name, stem, branch}
use Rattle.remainders.specs.Hours.{double_hour, ke, hour_reply}
use Rattle.remainders.specs.ExtraDays.{days_on, none, extra_day, extra_reply, vanishing_day, vanishing_reply}
use Rattle.signed.specs.Signed.{ahead_by, behind_by}
use Rattle.inequalities.specs.Law.{taken, law, exact}
use Rattle.inequalities.specs.Limits.{quick, tardy}
use Rattle.inequalities.specs.Solar.{slow, fast, fast_at, slow_at, solar, solar_at_reply}
use Rattle.inequalities.specs.Lunar.{lunar_magnitude, lunar, lunar_at_reply}
use Rattle.inequalities.specs.Motion.{whole_law, motion_at, motion_in_row, row_of, motion, motion_at_reply}
use Rattle.seasons.specs.Solstice.{solstice, solstice_reply}
use Rattle.seasons.specs.Terms.{term, term_reply, term_list, terms_reply, pentad, pentad_reply, earth, earth_reply}
use Rattle.moons.specs.Lunation.{mean, mean_reply, solar_time, anomaly}
use Rattle.moons.specs.TrueMoon.{corrected, correction, correction_of, moved, true_moon, solar_reply, lunar_reply, motion_reply, correction_reply, true_reply}

-- year 5's terms, and a row with room for two numbers more
terms_5 : List ℕ
terms_5 = 188_127_250_000 ∷ 189_649_093_750 ∷ 191_170_937_500 ∷ 192_692_781_250 ∷ 194_214_625_000 ∷ 195_736_468_750 ∷ 197_258_312_500 ∷ 198_780_156_250 ∷ 200_302_000_000 ∷ 201_823_843_750 ∷ 203_345_687_500 ∷ 204_867_531_250 ∷ 206_389_375_000 ∷ 207_911_218_750 ∷ 209_433_062_500 ∷ 210_954_906_250 ∷ 212_476_750_000 ∷ 213_998_593_750 ∷ 215_520_437_500 ∷ 217_042_281_250 ∷ 218_564_125_000 ∷ 220_085_968_750 ∷ 221_607_812_500 ∷ 223_129_656_250 ∷ []

row_of_26 : List ℕ
row_of_26 = 1 ∷ 2 ∷ 3 ∷ 4 ∷ 5 ∷ 6 ∷ 7 ∷ 8 ∷ 9 ∷ 10 ∷ 11 ∷ 12 ∷ 13 ∷ 14 ∷ 15 ∷ 16 ∷ 17 ∷ 18 ∷ 19 ∷ 20 ∷ 21 ∷ 22 ∷ 23 ∷ 24 ∷ 25 ∷ 26 ∷ []

record Others : Type 0 where
  names : (sixty_name 340 ≡ 40) × (stem 340 ≡ 0) × (branch 340 ≡ 4)
  seasons : (solstice_reply shoushi 1_000 ≡ refused 1) × (term_reply shoushi 5 7 ≡ answer (1_987 * day + 80_156_250))
      × (term_reply shoushi 1_000 24 ≡ refused 1)
      × (term_reply shoushi 999 24 ≡ refused 2)
      × (pentad_reply shoushi 5 7 2 ≡ answer (1_997 * day + 94_718_750))
      × (pentad_reply shoushi 5 7 3 ≡ refused 2)
      × (earth_reply shoushi 5 8 ≡ answer (1_999 * day + 97_631_250))
      × (earth_reply shoushi 0 3 ≡ refused 2)
      × (terms_reply 0 24 ≡ answer 24)
      × (terms_reply 1_000 23 ≡ refused 1)
      × (terms_reply 0 23 ≡ refused 4)
  -- earth's other three terms
  earths : (earth_reply shoushi 5 2 ≡ answer (1_908 * day + 66_568_750)) × (earth_reply shoushi 5 14 ≡ answer (2_091 * day + 28_693_750))
      × (earth_reply shoushi 5 20 ≡ answer (2_182 * day + 59_756_250))
  -- a number past the terms keeps its contents, and a refusal writes nothing
  rows : (row_after (terms_reply 0 1) (term_list shoushi 0) (7 ∷ []) ≡ 7 ∷ []) × (over {A = ℕ} (1 ∷ 2 ∷ []) (7 ∷ 8 ∷ 9 ∷ []) ≡ 1 ∷ 2 ∷ 9 ∷ [])
      × (term_list shoushi 5 ≡ terms_5)
      × (row_after (terms_reply 5 26) (term_list shoushi 5) row_of_26 ≡ terms_5 ++ (25 ∷ 26 ∷ []))
  hours : (hour_reply 0 ≡ answer (0, 0)) × (hour_reply 8_333_333 ≡ answer (0, 8)) × (hour_reply 8_333_334 ≡ answer (1, 0))
      × (hour_reply 100_000_000 ≡ refused 2)
  -- inside a double-hour, both sides of a ke's beginning: the first of the day, one in the middle, the last
  ke_steps : (hour_reply 999_999 ≡ answer (0, 0)) × (hour_reply 1_000_000 ≡ answer (0, 1)) × (hour_reply 63_333_333 ≡ answer (7, 4))
      × (hour_reply 63_333_334 ≡ answer (7, 5))
      × (hour_reply 99_666_666 ≡ answer (11, 7))
      × (hour_reply 99_666_667 ≡ answer (11, 8))
  days : (extra_reply 99_999_999 ≡ answer (days_on 1)) × (extra_reply 100_000_000 ≡ refused 2) × (vanishing_reply 0 ≡ answer (days_on 0))
      × (vanishing_reply 46_940_700 ≡ answer (days_on 30))
      × (vanishing_reply 46_940_701 ≡ answer none)
      × (vanishing_reply 100_000_000 ≡ refused 2)
  -- a wei past the extra limit; in mid-range, both sides of an extra day less and of a vanishing day more; a wei before the deficit
  day_steps : (extra_reply 78_156_251 ≡ answer (days_on 15)) × (extra_reply 89_806_250 ≡ answer (days_on 8))
      × (extra_reply 89_806_251 ≡ answer (days_on 7))
      × (vanishing_reply 23_470_349 ≡ answer (days_on 14))
      × (vanishing_reply 23_470_350 ≡ answer (days_on 15))
      × (vanishing_reply 46_940_699 ≡ answer (days_on 29))
  -- the two laws do not meet: 240,142,279 at the limit, and 240,132,544 one wei later
  solar : (solar_at_reply fast 8_890_922_500 ≡ answer (ahead_by 240_142_279))
      × (solar_at_reply fast 8_890_922_501 ≡ answer (ahead_by 240_132_544))
      × (solar_at_reply slow 9_371_202_500 ≡ answer (behind_by 240_132_544))
      × (solar_at_reply slow 18_262_125_000 ≡ refused 2)
      × (solar_reply shoushi 1 2 ≡ answer (ahead_by 109_030_665))
  -- past the limit the other law counts from the half's end
  solar_ends : (solar_at_reply slow 9_371_202_501 ≡ answer (behind_by 240_142_279))
      × (solar_at_reply slow 14_000_000_000 ≡ answer (behind_by 171_695_594))
      × (solar_at_reply fast 14_000_000_000 ≡ answer (ahead_by 165_354_380))
  -- E(82) is 542,881,000, E(84) only 542,337,600; and limits over 168 give 0
  lunar : (whole_law 82 ≡ 542_881_000) × (whole_law 84 ≡ 542_337_600)
      × (lunar_at_reply tardy 688_524_590 ≡ answer (behind_by 542_337_600))
      × (lunar_at_reply quick 1_377_729_999 ≡ answer (ahead_by 0))
      × (lunar_at_reply quick 1_377_730_000 ≡ refused 2)
      × (lunar_reply shoushi 1 2 ≡ answer (ahead_by 439_229_059))
  -- a rest of six or eight tenths in the limits is dropped, on both sides of the middle
  lunar_rests : (lunar_at_reply quick 3 ≡ answer (ahead_by 3)) × (lunar_at_reply quick 500_000_008 ≡ answer (ahead_by 499_381_078))
      × (lunar_at_reply tardy 1_000_000_009 ≡ answer (behind_by 419_966_193))
  -- the last time with an inequality, the last before 168 limits, the first past them, and one in the middle of what is past
  lunar_ends : (lunar_at_reply tardy 1_377_049_179 ≡ answer (behind_by 1)) × (lunar_at_reply tardy 1_377_049_180 ≡ answer (behind_by 0))
      × (lunar_at_reply tardy 1_377_049_181 ≡ answer (behind_by 0))
      × (lunar_at_reply quick 1_377_400_000 ≡ answer (ahead_by 0))
  motions : (motion_at_reply quick 0 ≡ answer 120_705_325) × (motion_at_reply tardy 0 ≡ answer 98_542_175)
      × (motion_at_reply quick 167 ≡ answer 98_542_175)
      × (motion_at_reply quick 168 ≡ refused 2)
      × (motion_reply shoushi 0 0 ≡ answer 109_786_425)
  -- both sides of whole limits 45, quick, and 106, tardy: just before them a rest of eight tenths is dropped
  motion_rests : (motion 368_852_459 ≡ 116_302_025) × (motion 368_852_460 ≡ 116_158_075) × (motion 2_246_582_459 ≡ 113_412_575)
      × (motion 2_246_582_460 ≡ 113_589_675)
  -- past 168 limits the motion is that of limit 167: the first and last anomalies there of each half, and moons that fall there
  motion_ends : (motion 1_377_049_181 ≡ 98_542_175) × (motion 1_377_729_999 ≡ 98_542_175) × (motion 2_754_779_181 ≡ 120_705_325)
      × (motion 2_755_459_999 ≡ 120_705_325)
      × (motion_reply shoushi 202 1 ≡ answer 98_542_175)
      × (motion_reply shoushi 2_534 2 ≡ answer 120_705_325)
      × (true_reply shoushi 202 1 ≡ answer 600_762_766_479)
      × (true_reply shoushi 2_534 2 ≡ answer 7_488_003_366_132)
  moons : (correction_reply shoushi 100 1 ≡ answer (behind_by 30_284_294))
      × (mean_reply shoushi 12_367 3 ≡ answer 36_526_186_657_575)
      × (true_reply shoushi 12_367 3 ≡ answer 36_526_150_299_043)
      × (true_reply shoushi 12_368 0 ≡ refused 2)
      × (true_reply shoushi 0 4 ≡ refused 2)

others : Others
unfolding terms_5 row_of_26 listed over solstice solstice_reply term term_reply term_list terms_reply pentad pentad_reply earth earth_reply double_hour ke hour_reply extra_day extra_reply vanishing_day vanishing_reply taken law exact fast_at slow_at solar solar_time solar_at_reply lunar_magnitude lunar anomaly lunar_at_reply whole_law motion_at motion_in_row row_of motion motion_at_reply mean mean_reply corrected correction correction_of moved true_moon solar_reply lunar_reply motion_reply correction_reply true_reply
others =
    record {
      names = (refl, refl, refl);
      seasons = (refl, refl, refl, refl, refl, refl, refl, refl, refl, refl, refl);
      earths = (refl, refl, refl);
      rows = (refl, refl, refl, refl);
      hours = (refl, refl, refl, refl);
      ke_steps = (refl, refl, refl, refl, refl, refl);
      days = (refl, refl, refl, refl, refl, refl);
      day_steps = (refl, refl, refl, refl, refl, refl);
      solar = (refl, refl, refl, refl, refl);
      solar_ends = (refl, refl, refl);
      lunar = (refl, refl, refl, refl, refl, refl);
      lunar_rests = (refl, refl, refl);
      lunar_ends = (refl, refl, refl, refl);
      motions = (refl, refl, refl, refl, refl);
      motion_rests = (refl, refl, refl, refl);
      motion_ends = (refl, refl, refl, refl, refl, refl, refl, refl);
      moons = (refl, refl, refl, refl, refl);
    }
