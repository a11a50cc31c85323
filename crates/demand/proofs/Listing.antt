-- The listing of a lawful calendar: the month at place p of year n is shown on place head n + p. So a day lies in one record, that of its
-- month, and this is what is found for the day.
-- Assumes nothing.
use mathlib.Core.List.{List}
use mathlib.Core.Path.{◌≡◌, ap, sym, subst, ◌∙◌}
use Prim.Native.Nat.{ℕ, suc, ◌+◌, ◌-◌, ◌*◌, ◌%◌, ◌≤◌, ◌<◌}
use native.Mathlib.Nat.{zero-add}
use native.Mathlib.Omega.{arith}
use lib.ListN.{length}
use Rattle.measure.specs.Days.{sixty_name}
use Rattle.month_law.specs.Calendar.{Calendar, length_of, month_of, head, months_in, year_of}
use Rattle.month_law.specs.Lawful.{Lawful}
use Rattle.month_law.specs.Demand.{JustOne}
use Rattle.month_law.proofs.Rising.{Within, rises_weakly, places_of, values_of}
use Rattle.month_law.proofs.Months.{InMonth, first_rises, day_in_month, month_of_lem, head_zero, head_rises}
use Rattle.month_law.proofs.Terms.{InList}
use Rattle.month_law.proofs.Lists.{place_listed}
use Rattle.month_law.proofs.Runs.{year_listed, year_of_lem, months_run}
use Rattle.month_law.proofs.Demand.{Ends}
use Rattle.months.specs.Month.{kind_at, month_of_day}
use Rattle.months.proofs.ByTerm.{month_of_day_lem}
use Rattle.lists.specs.Records.{record_width, record_at}
use Rattle.lists.proofs.RecordLaws.{record_by, by_kind}
use Rattle.lists.specs.Lists.{months_in_run}
use Rattle.lists.proofs.RunLaws.{length_run, run_ends}
use Rattle.demand.specs.Demand.{listing, shown_on, first_in, length_in, LiesIn, Standing, StandsOn, record_of_month}
use Rattle.demand.proofs.Places.{on_run}

module _ (c : Calendar) (ok : Lawful c) where
  -- from year 0 on, a year's head counts the months before it
  months_before : (n : ℕ) → months_in_run c 0 n ≡ head c n
  months_before n = omega (arith, run_ends c ok 0 n, head_zero c ok, ap (head c) (zero-add n))

module _ (c : Calendar) (ok : Lawful c) {last earliest latest beyond : ℕ} (ends : Ends c last earliest latest beyond) where
  pub records_are : months_in_run c 0 (suc last) ≡ beyond
  records_are = months_before c ok (suc last) ∙ ends.next_head

  pub numbers_are : length (listing c last) ≡ record_width * beyond
  numbers_are = length_run c 0 (suc last) ∙ ap (λ (k : ℕ). record_width * k) records_are

  -- the month at place p of year n
  module _ (n p : ℕ) (admitted : n ≤ last) (listed : p < months_in c n) where
    pub laid_before : head c n + p < beyond
    laid_before =
        omega (arith, ends.next_head, rises_weakly (head c) (head_rises c ok) (suc n) (suc last) (omega arith))

    pub laid_on : shown_on c last (head c n + p) ≡ record_at c n p
    laid_on =
        ap (λ (k : ℕ). shown_on c last (k + p)) (sym (months_before c ok n))
        ∙ on_run c ok 0 (suc last) n p (omega arith) (subst (λ (m : ℕ). p < months_in c m) (sym (zero-add n)) listed)
        ∙ ap (λ (m : ℕ). record_at c m p) (zero-add n)

  -- the month on place i
  module _ (i : ℕ) (h : i < beyond) where
    abbrev standing : Standing
    standing = record { year = year_of c i; place = i - head c (year_of c i) }

    stands_on : StandsOn c last i standing
    stands_on =
        let years : Within 0 (suc last) (year_of c i) =
        months_run c ok 0 (suc last) (year_of c i) i (year_listed c ok i)
        (record { since = omega (arith, head_zero c ok); until = omega (arith, ends.next_head) }) in
        record {
          admitted = omega (arith, years);
          listed = omega (arith, year_listed c ok i);
          counted = omega (arith, year_listed c ok i);
        }

    stands_alone : (s : Standing) → StandsOn c last i s → s ≡ standing
    stands_alone s x = λ j. record { year = year j; place = place j }
      where
        year : s.year ≡ year_of c i
        year = year_of_lem c ok i s.year (subst (InList c s.year) x.counted (place_listed c ok s.year s.place x.listed))

        place : s.place ≡ i - head c (year_of c i)
        place = omega (arith, x.counted, ap (head c) year)

    pub one_stands : JustOne (StandsOn c last i)
    one_stands = record { it = standing; such = stands_on; only = stands_alone }

    -- its record, and the first day and the length there
    shown_on_lem : shown_on c last i ≡ record_by (c.first i) (c.first (suc i)) (kind_at c standing.year standing.place)
    shown_on_lem =
        ap (shown_on c last) (sym stands_on.counted)
        ∙ laid_on standing.year standing.place stands_on.admitted stands_on.listed
        ∙ sym (by_kind c standing.year standing.place)
        ∙ ap (λ (m : ℕ). record_by (c.first m) (c.first (suc m)) (kind_at c standing.year standing.place)) stands_on.counted

    first_shown : first_in (shown_on c last i) ≡ c.first i
    first_shown = ap first_in shown_on_lem

    length_shown : length_in (shown_on c last i) ≡ length_of c i
    length_shown = ap length_in shown_on_lem

    -- so the days that lie in it are those of the month
    lies_month : (d : ℕ) → LiesIn (shown_on c last i) d → InMonth c i d
    lies_month d x = record { since = omega (arith, x, first_shown); until = omega (arith, x, first_shown, length_shown, first_rises c ok i) }

    month_lies : (d : ℕ) → InMonth c i d → LiesIn (shown_on c last i) d
    month_lies d x = record { since = omega (arith, x, first_shown); until = omega (arith, x, first_shown, length_shown) }

  -- each day between lies in the record of its month, and in no other
  module _ (d : ℕ) (h : Within (c.first 0) (c.first beyond) d) where
    month_held : InMonth c (month_of c d) d
    month_held = day_in_month c ok d h.since

    month_before : month_of c d < beyond
    month_before = (places_of c.first (first_rises c ok) d (month_of c d) 0 beyond month_held h).until

    lies_there : LiesIn (shown_on c last (month_of c d)) d
    lies_there = month_lies (month_of c d) month_before d month_held

    pub one_day : JustOne (λ (i : ℕ). (i < beyond) × LiesIn (shown_on c last i) d)
    one_day =
        record {
          it = month_of c d;
          such = (month_before, lies_there);
          only = λ i x. month_of_lem c ok d i (lies_month i x.0 d x.1);
        }

    -- which is what is found
    found_on : shown_on c last (month_of c d) ≡ record_of_month (month_of_day c d)
    found_on = shown_on_lem (month_of c d) month_before ∙ ap record_of_month (sym (month_of_day_lem c d))

    pub one_found : JustOne (λ (i : ℕ). (i < beyond) × (shown_on c last i ≡ record_of_month (month_of_day c d)))
    one_found =
        record {
          it = month_of c d;
          such = (month_before, found_on);
          only =
              λ i x.
              month_of_lem c ok d i
              (lies_month i x.0 d (subst (λ (four : List ℕ). LiesIn four d) (found_on ∙ sym x.1) lies_there));
        }

    -- and its name runs on from that of its month's first day
    pub named_within : sixty_name d ≡ (sixty_name (month_of_day c d).first + ((month_of_day c d).day - 1)) % 60
    named_within = rw (month_of_day_lem c d) (omega (arith, month_held))

  -- and no other day lies in one
  module _ (d i : ℕ) (h : i < beyond) (x : LiesIn (shown_on c last i) d) where
    pub day_between : Within (c.first 0) (c.first beyond) d
    day_between =
        values_of c.first (first_rises c ok) d i 0 beyond (lies_month i h d x) (record { since = omega arith; until = h })

    is_month : i ≡ month_of c d
    is_month = month_of_lem c ok d i (lies_month i h d x)

    pub lies_found : shown_on c last i ≡ record_of_month (month_of_day c d)
    lies_found = ap (shown_on c last) is_month ∙ found_on d day_between

    pub lies_stands : StandsOn c last i (record { year = (month_of_day c d).year; place = (month_of_day c d).place })
    lies_stands =
        rw (month_of_day_lem c d)
        (subst (λ (l : ℕ). StandsOn c last i (record { year = year_of c l; place = l - head c (year_of c l) })) is_month (stands_on i h))
