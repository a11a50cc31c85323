-- The days of the calendar: a month has 29 or 30, and each day has one date, which the two searches find; so day and date are inverse
-- to each other.
-- Assumes nothing.
use mathlib.Core.Logic.{◌⊎◌, inl, inr, ⊎_elim}
use mathlib.Core.Path.{◌≡◌, ap, subst, sym}
use Prim.Native.Nat.{ℕ, ◌+◌, ◌-◌, ◌≤◌, ◌<◌}
use native.Mathlib.Omega.{arith}
use Rattle.rows.proofs.Choice.{lt_or_ge}
use Rattle.month_law.specs.Calendar.{Calendar, length_of, month_of, head, year_of}
use Rattle.month_law.specs.Lawful.{Lawful}
use Rattle.month_law.specs.Demand.{JustOne, Date, Dated}
use Rattle.month_law.proofs.Rising.{Within, rises_weakly, places_of, values_of}
use Rattle.month_law.proofs.Months.{InMonth, first_rises, day_in_month, month_unique}
use Rattle.month_law.proofs.Terms.{InList}
use Rattle.month_law.proofs.Lists.{place_listed, listed_place}
use Rattle.month_law.proofs.Runs.{year_listed, year_unique, run_months, months_run}

module _ (c : Calendar) where
  -- the month in which a date lies
  abbrev pub month_at : Date → ℕ
  month_at t = head c t.year + t.place

  -- the date of day d, by its month and that month's year
  abbrev pub date_of : ℕ → Date
  date_of d =
      let l = month_of c d in
      let n = year_of c l in
      record { year = n; place = l - head c n; day = d - c.first l + 1 }

module _ (c : Calendar) (ok : Lawful c) where
  -- a month has 29 or 30 days
  pub length_of_lem : (l : ℕ) → (length_of c l ≡ 29) ⊎ (length_of c l ≡ 30)
  length_of_lem l =
      ⊎_elim (λ (h : length_of c l < 30). inl (omega (arith, ok.month_least l)))
      (λ (h : 30 ≤ length_of c l). inr (omega (arith, ok.month_most l)))
      (lt_or_ge (length_of c l) 30)

  -- every day from the first on has the date that the searches find
  pub dated : (d : ℕ) → c.first 0 ≤ d → Dated c d (date_of c d)
  dated d h =
      let l : ℕ = month_of c d in
      let e : head c (year_of c l) + (l - head c (year_of c l)) ≡ l = listed_place c ok (year_of c l) l (year_listed c ok l) in
      record {
        listed = omega (arith, year_listed c ok l);
        since = omega arith;
        until = omega (arith, day_in_month c ok d h, ap (length_of c) e);
        counted = omega (arith, day_in_month c ok d h, ap c.first e);
      }

  dated_month : (d : ℕ) (t : Date) → Dated c d t → InMonth c (month_at c t) d
  dated_month d t x = record { since = omega (arith, x); until = omega (arith, x) }

  -- and no other
  pub date_unique : (d : ℕ) (t u : Date) → Dated c d t → Dated c d u → t ≡ u
  date_unique d t u x y = λ i. record { year = year i; place = place i; day = day i }
    where
      month : month_at c t ≡ month_at c u
      month = month_unique c ok d (month_at c t) (month_at c u) (dated_month d t x) (dated_month d u y)

      year : t.year ≡ u.year
      year =
          year_unique c ok (month_at c t) t.year u.year (place_listed c ok t.year t.place x.listed)
          (subst (InList c u.year) (sym month) (place_listed c ok u.year u.place y.listed))

      place : t.place ≡ u.place
      place = omega (arith, month, ap (head c) year)

      day : t.day ≡ u.day
      day = omega (arith, x, y, ap c.first month)

  -- so the way from a date to its day and back ends at the date
  pub date_back : (d : ℕ) (t : Date) → Dated c d t → date_of c d ≡ t
  date_back d t x =
      date_unique d (date_of c d) t
      (dated d (omega (arith, dated_month d t x, rises_weakly c.first (first_rises c ok) 0 (month_at c t) (omega arith)))) x

  -- the days of the lists of years a .. b - 1 are those from the first of head a to before the first of head b
  pub run_days : (a b d : ℕ) (t : Date) → Dated c d t → Within a b t.year
      → Within (c.first (head c a)) (c.first (head c b)) d
  run_days a b d t x h =
      values_of c.first (first_rises c ok) d (month_at c t) (head c a) (head c b) (dated_month d t x)
      (run_months c ok a b t.year (month_at c t) (place_listed c ok t.year t.place x.listed) h)

  pub days_run : (a b d : ℕ) (t : Date) → Dated c d t → Within (c.first (head c a)) (c.first (head c b)) d
      → Within a b t.year
  days_run a b d t x h =
      months_run c ok a b t.year (month_at c t) (place_listed c ok t.year t.place x.listed)
      (places_of c.first (first_rises c ok) d (month_at c t) (head c a) (head c b) (dated_month d t x) h)

  -- and each of them has just one date in these years
  pub one_date : (a b d : ℕ) → Within (c.first (head c a)) (c.first (head c b)) d
      → JustOne (λ (t : Date). Within a b t.year × Dated c d t)
  one_date a b d h =
      let x : Dated c d (date_of c d) =
      dated d (omega (arith, h, rises_weakly c.first (first_rises c ok) 0 (head c a) (omega arith))) in
      record {
        it = date_of c d;
        such = (days_run a b d (date_of c d) x h, x);
        only = λ t y. date_unique d t (date_of c d) y.1 x;
      }
