-- From a day to its year, place and day of the month and back is the same day, for every day of the calendar; and from these to the day
-- and back is the same place.
-- Assumes nothing.
use mathlib.Core.Bool.{true}
use mathlib.Core.Logic.{⊎_elim}
use mathlib.Core.Path.{◌≡◌, refl, ap, sym, ◌∙◌}
use Prim.Native.Nat.{ℕ, ◌≤◌}
use native.Mathlib.Omega.{arith}
use Rattle.rows.specs.Reply.{answer, refused, outside}
use Rattle.measure.specs.Units.{last_year}
use Rattle.measure.specs.Epoch.{shoushi}
use Rattle.month_law.specs.Calendar.{Calendar}
use Rattle.month_law.specs.Demand.{Dated}
use Rattle.edition.specs.Edition.{calendar}
use Rattle.month_law.proofs.Days.{date_of}
use Rattle.months.specs.Month.{earliest, latest, placed, month_of_day, day_reply}
use Rattle.months.proofs.Dated.{day_dated, day_admitted}
use Rattle.months.specs.Date.{back_reply, has_date}
use Rattle.months.proofs.Back.{date, day_of_date, back_answered, listed_or_refused, date_given}

abbrev c : Calendar
c = calendar shoushi

pub day_there_and_back : (d : ℕ) → earliest ≤ d → d ≤ latest
    → back_reply shoushi (month_of_day c d).year (month_of_day c d).place (month_of_day c d).day ≡ answer d
unfolding month_of_day placed
day_there_and_back d h k =
    let t = date_of c d in
    let x : Dated c d t = day_dated d h k in
    let e : d ≡ day_of_date t.year t.place t.day = x.counted in
    let admitted : t.year ≤ last_year = day_admitted d h k in
    back_answered t.year t.place t.day admitted
    (record { listed = x.listed; since = x.since; until = x.until; counted = refl })
    ∙ ap answer (sym e)

pub place_there_and_back : (n p m d : ℕ) → n ≤ last_year → back_reply shoushi n p m ≡ answer d
    → has_date (day_reply shoushi d) n p m ≡ true
place_there_and_back n p m d h e = ⊎_elim listed unlisted (listed_or_refused n p m h)
  where
    listed : Dated c (day_of_date n p m) (date n p m) → has_date (day_reply shoushi d) n p m ≡ true
    listed there =
        let given = back_answered n p m h there in
        let same : day_of_date n p m ≡ d = cc in
        rw (← same) (date_given n p m (day_of_date n p m) h there)

    unlisted : back_reply shoushi n p m ≡ refused outside → has_date (day_reply shoushi d) n p m ≡ true
    unlisted refusal = let never : ◌≡◌ {A = ℕ} 0 1 = cc in absurd (omega arith)
