-- Every day of the calendar has its date in the lists of the admitted years.
-- Assumes nothing.
use mathlib.Core.Path.{◌≡◌, ap}
use Prim.Native.Nat.{ℕ, ◌≤◌}
use native.Mathlib.Omega.{arith}
use Rattle.measure.specs.Units.{last_year}
use Rattle.measure.specs.Epoch.{shoushi}
use Rattle.month_law.specs.Calendar.{Calendar}
use Rattle.month_law.specs.Demand.{Date, Dated}
use Rattle.edition.specs.Edition.{calendar}
use Rattle.month_law.proofs.Days.{date_of, dated, date_unique}
use Rattle.month_law.proofs.Demand.{dates}
use Rattle.edition.proofs.Edition.{figures, shoushi_lawful, shoushi_ends}
use Rattle.months.specs.Month.{earliest, latest}

abbrev c : Calendar
c = calendar shoushi

-- the date that the day question gives is one of the lists'
pub day_dated : (d : ℕ) → earliest ≤ d → d ≤ latest → Dated c d (date_of c d)
day_dated d h k = dated c shoushi_lawful d (omega (arith, figures))

-- in an admitted year
pub day_admitted : (d : ℕ) → earliest ≤ d → d ≤ latest → (date_of c d).year ≤ last_year
day_admitted d h k =
    let one = dates c shoushi_lawful shoushi_ends d h k in
    let same : date_of c d ≡ one.it = date_unique c shoushi_lawful d (date_of c d) one.it (day_dated d h k) one.such.1 in
    omega (arith, one.such.0, ap (λ (t : Date). t.year) same)
