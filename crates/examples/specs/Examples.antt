-- The paper's examples that are proved together: one table, under one statement, computed from the definitions.
-- Assumes nothing.
use Rattle.std.specs.Prelude.{◌≡◌, refl, ◌+◌, ◌*◌}
use Rattle.rows.specs.Reply.{answer}
use Rattle.measure.specs.Units.{day}
use Rattle.measure.specs.Epoch.{shoushi}
use Rattle.measure.specs.Days.{day_of, sixty_name}
use Rattle.remainders.specs.Hours.{double_hour, ke, hour_reply}
use Rattle.remainders.specs.ExtraDays.{days_on, none, extra_day, extra_reply}
use Rattle.signed.specs.Signed.{ahead_by, behind_by}
use Rattle.inequalities.specs.Law.{taken, law, exact}
use Rattle.inequalities.specs.Limits.{quick, tardy}
use Rattle.inequalities.specs.Solar.{fast, slow, fast_at, slow_at, solar_at, solar}
use Rattle.inequalities.specs.Lunar.{lunar_magnitude, lunar_at, lunar}
use Rattle.inequalities.specs.Motion.{whole_law, motion_at, motion_in_row, row_of, motion}
use Rattle.seasons.specs.Solstice.{solstice}
use Rattle.seasons.specs.Terms.{term}
use Rattle.moons.specs.Lunation.{mean, solar_time, anomaly}
use Rattle.moons.specs.TrueMoon.{corrected, correction, correction_of, moved, true_moon}
use Rattle.month_law.specs.Steps.{seek}
use Rattle.month_law.specs.Count.{count}
use Rattle.month_law.specs.Calendar.{number_of_rank, length_of, month_of, head, months_in, held, leap_at, number_at}
use Rattle.edition.specs.Edition.{middle_day, calendar, first_day}
use Rattle.months.specs.Kind.{leap}
use Rattle.months.specs.Month.{kind_at}

pub record Examples : Type 0 where
  -- year 0: solstice day 55, remainder 6,000,000 wei, name 55 (jiwei)
  pub year_0 : (solstice shoushi 0 ≡ 55 * day + 6_000_000) × (sixty_name (day_of (solstice shoushi 0)) ≡ 55)
  -- year 1: day 420, remainder 30,250,000, name 0
  pub year_1 : (solstice shoushi 1 ≡ 420 * day + 30_250_000) × (sixty_name (day_of (solstice shoushi 1)) ≡ 0)
  -- lunation 0: mean day 34, remainder 87,500,000
  pub mean_0 : mean shoushi 0 0 ≡ 34 * day + 87_500_000
  -- solar −93,335,814
  pub solar_0 : solar (solar_time shoushi 0 0) ≡ behind_by 93_335_814
  -- lunar −542,779,589
  pub lunar_0 : lunar (anomaly shoushi 0 0) ≡ behind_by 542_779_589
  -- motion, tardy limit 82: 109,786,425
  pub motion_0 : (motion (anomaly shoushi 0 0) ≡ motion_at tardy 82) × (motion_at tardy 82 ≡ 109_786_425)
  -- correction +33,569,168; true day 35, remainder 21,069,168
  pub true_0 : (correction_of shoushi 0 0 ≡ ahead_by 33_569_168) × (true_moon shoushi 0 0 ≡ 35 * day + 21_069_168)
  -- lunation 1: true day 64, remainder 79,957,652, so month 0 has 29 days
  pub true_1 : (true_moon shoushi 1 0 ≡ 64 * day + 79_957_652) × (length_of (calendar shoushi) 0 ≡ 29)
  -- year 0 has 13 months; place 10 is leap 8
  pub list_0 : (months_in (calendar shoushi) 0 ≡ 13) × (kind_at (calendar shoushi) 0 10 ≡ leap 8)
  -- solar at time 0: 0
  pub solar_at_0 : (solar_at fast 0 ≡ ahead_by 0) × (solar_at slow 0 ≡ behind_by 0)
  -- lunar at 13.7772 days: 0
  pub lunar_at_end : (lunar_at quick 1_377_720_000 ≡ ahead_by 0) × (lunar_at tardy 1_377_720_000 ≡ behind_by 0)
  -- extra day: remainder 78,156,250 gives 16 days on; 78,156,249 none
  pub extra : (extra_reply 78_156_250 ≡ answer (days_on 16)) × (extra_reply 78_156_249 ≡ answer none)
  -- remainder 99,999,999: double-hour 11, ke 8
  pub hour : hour_reply 99_999_999 ≡ answer (11, 8)

pub examples : Examples
unfolding solstice term mean solar solar_time fast_at slow_at law taken lunar anomaly lunar_magnitude motion motion_in_row row_of motion_at whole_law exact correction_of correction corrected moved true_moon first_day middle_day seek count number_of_rank month_of head held leap_at number_at kind_at extra_day extra_reply double_hour ke hour_reply
examples =
    record {
      year_0 = (refl, refl);
      year_1 = (refl, refl);
      mean_0 = refl;
      solar_0 = refl;
      lunar_0 = refl;
      motion_0 = (refl, refl);
      true_0 = (refl, refl);
      true_1 = (refl, refl);
      list_0 = (refl, refl);
      solar_at_0 = (refl, refl);
      lunar_at_end = (refl, refl);
      extra = (refl, refl);
      hour = refl;
    }
