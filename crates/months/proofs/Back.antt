-- The way back and the day question answer to each other: a year, a place and a day of the month give a day just where the day
-- question gives them back.
-- Assumes nothing.
use mathlib.Core.Bool.{true, ◌&&◌, false≢true}
use mathlib.Core.Logic.{◌⊎◌, inl, inr, ⊎_elim}
use mathlib.Core.Path.{◌≡◌, refl, ap, subst}
use Prim.Native.Nat.{ℕ, ◌+◌, ◌-◌, ◌≤◌, ◌<◌}
use native.Mathlib.Omega.{arith}
use borrow.Author.Tests.{lt-ltb, le-ltb, lt-leb, eq-eqb, ne_eqb, leb-false, ltb-false, eqb-true, eqb-false}
use Rattle.rows.specs.Choice.{◌≤?◌, ◌<?◌, ◌=?◌}
use Rattle.rows.specs.Reply.{Reply, answer, refused, no_year, outside, no_day}
use Rattle.measure.specs.Units.{last_year}
use Rattle.measure.specs.Epoch.{shoushi}
use Rattle.rows.proofs.Choice.{both_pass, left_passes, right_passes, refuse_cases}
use Rattle.month_law.specs.Calendar.{Calendar, length_of, head, months_in}
use Rattle.month_law.specs.Demand.{Date, Dated}
use Rattle.edition.specs.Edition.{calendar}
use Rattle.month_law.proofs.Lists.{months_in_most}
use Rattle.month_law.proofs.Days.{date_of, dated, date_back}
use Rattle.month_law.proofs.Demand.{no_others}
use Rattle.edition.proofs.Edition.{figures, shoushi_lawful, shoushi_ends}
use Rattle.months.specs.Month.{MonthOfDay, earliest, latest, placed, month_of_day, day_reply}
use Rattle.months.proofs.DayReply.{day_answered, in_or_refused}
use Rattle.months.specs.Date.{day_at, back_reply, has_date}

abbrev c : Calendar
c = calendar shoushi

-- the three tests of a date
all_equal : (x : MonthOfDay) (n p m : ℕ) → has_date (answer x) n p m ≡ true → (x.year ≡ n) × (x.place ≡ p) × (x.day ≡ m)
all_equal x n p m e =
    let years = x.year =? n in
    let places = x.place =? p in
    let days = x.day =? m in
    let both : (years && places) ≡ true = left_passes (years && places) days e in (
      eqb-true x.year n (left_passes years places both),
      eqb-true x.place p (right_passes years places both),
      eqb-true x.day m (right_passes (years && places) days e),
    )

module _ (n p m : ℕ) where
  -- the date, and the day that it would be
  abbrev pub date : Date
  date = record { year = n; place = p; day = m }

  abbrev pub day_of_date : ℕ
  day_of_date = c.first (head c n + p) + (m - 1)

  -- no date has a place past 12, or a day past 30
  pub date_small : Dated c day_of_date date → (p < 13) × (1 ≤ m) × (m ≤ 30)
  date_small x =
      omega (arith, x, months_in_most c shoushi_lawful n, shoushi_lawful.month_most (head c n + p))

  pub back_no_year : last_year < n → back_reply shoushi n p m ≡ refused no_year
  unfolding back_reply
  back_no_year h = simp (lt-ltb last_year n h)

  module _ (admitted : n ≤ last_year) where
    -- a date of the year's list is answered
    pub back_answered : Dated c day_of_date date → back_reply shoushi n p m ≡ answer day_of_date
    unfolding back_reply day_at
    back_answered x =
        simp (
          le-ltb last_year n admitted,
          lt-leb (months_in c n) p x.listed,
          ne_eqb m 0 (λ (e : m ≡ 0). omega (arith, x.since)),
          le-ltb (length_of c (head c n + p)) m x.until,
        )

    -- and any other is refused
    pub listed_or_refused : Dated c day_of_date date ⊎ (back_reply shoushi n p m ≡ refused outside)
    unfolding back_reply
    listed_or_refused =
        let P : Reply ℕ → Type 0 = λ r. Dated c day_of_date date ⊎ (r ≡ refused outside) in
        rw (le-ltb last_year n admitted)
        (refuse_cases P (months_in c n ≤? p) outside _ (inr refl) λ h.
        refuse_cases P (m =? 0) outside _ (inr refl) λ k.
        refuse_cases P (length_of c (head c n + p) <? m) outside _ (inr refl) λ l.
        let some : 1 ≤ m = omega (arith, eqb-false m 0 k) in
        inl (record { listed = leb-false _ _ h; since = some; until = ltb-false _ _ l; counted = refl }))

    pub back_refused : ¬ Dated c day_of_date date → back_reply shoushi n p m ≡ refused outside
    back_refused none = ⊎_elim (λ x. absurd (none x)) (λ r. r) listed_or_refused

  module _ (d : ℕ) where
    -- a day that has the date is given it back
    pub date_given : n ≤ last_year → Dated c d date → has_date (day_reply shoushi d) n p m ≡ true
    unfolding month_of_day placed
    date_given h x =
        let in_range = no_others c shoushi_lawful shoushi_ends d date h x in
        let same : date_of c d ≡ date = date_back c shoushi_lawful d date x in
        rw (day_answered shoushi d in_range.0 in_range.1)
        (both_pass _ _
        (both_pass _ _ (eq-eqb _ _ (ap (λ (t : Date). t.year) same)) (eq-eqb _ _ (ap (λ (t : Date). t.place) same)))
        (eq-eqb _ _ (ap (λ (t : Date). t.day) same)))

    -- and what is given back is a date of the lists
    given_inside : earliest ≤ d → d ≤ latest → has_date (answer (month_of_day c d)) n p m ≡ true → Dated c d date
    unfolding month_of_day placed
    given_inside h k e =
        let same = all_equal (month_of_day c d) n p m e in
        subst (Dated c d) (λ i. record { year = same.0 i; place = same.1 i; day = same.2 i })
        (dated c shoushi_lawful d (omega (arith, figures)))

    pub given_date : has_date (day_reply shoushi d) n p m ≡ true → Dated c d date
    given_date e =
        ⊎_elim
        (λ (h : (earliest ≤ d) × (d ≤ latest)).
        given_inside h.0 h.1 (rw (day_answered shoushi d h.0 h.1) at e))
        (λ (none : day_reply shoushi d ≡ refused no_day). absurd (false≢true (rw none at e)))
        (in_or_refused shoushi d)
