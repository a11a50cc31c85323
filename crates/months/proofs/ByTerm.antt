-- A month's year, number and leap mark by the last middle term before its end.
-- Assumes nothing.
use Rattle.std.specs.Prelude.{if◌then◌else◌}
use mathlib.Core.Bool.{Bool, true, false}
use mathlib.Core.Path.{◌≡◌, refl, ap, sym, ◌∙◌}
use Prim.Native.Nat.{ℕ, suc, ◌+◌, ◌-◌, ◌/◌, ◌<◌}
use native.Mathlib.Omega.{arith}
use Rattle.month_law.specs.Count.{one_if}
use Rattle.month_law.specs.Calendar.{Calendar, length_of, month_of, head, months_in, year_of, leap_at, number_at, leap_mark}
use Rattle.month_law.specs.Lawful.{Lawful}
use Rattle.month_law.proofs.Rising.{step_unique}
use Rattle.month_law.proofs.Months.{mid_rises}
use Rattle.month_law.proofs.Terms.{last_term, lacks_is, last_unique, InList, year_to_list}
use Rattle.month_law.proofs.Lists.{leap_lacks, listed_place}
use Rattle.month_law.proofs.Numbers.{number_by_term}
use Rattle.month_law.proofs.Runs.{year_of_lem}
use Rattle.months.specs.Kind.{Kind, ordinary, leap, number_in, mark_in}
use Rattle.months.specs.Month.{MonthOfDay, kind_at, placed, month_of_day}
use Rattle.months.specs.Span.{LastBefore, kind_by}

-- the kind at a place has the number there, and its mark tells whether it is leap
number_chosen : (t : Bool) (n : ℕ) → number_in (if t then leap n else ordinary n) ≡ n
number_chosen true n = refl
number_chosen false n = refl

mark_chosen : (t : Bool) (n : ℕ) → mark_in (if t then leap n else ordinary n) ≡ one_if t
mark_chosen true n = refl
mark_chosen false n = refl

module _ (c : Calendar) (n p : ℕ) where
  pub number_in_kind : number_in (kind_at c n p) ≡ number_at c n p
  unfolding kind_at
  number_in_kind = number_chosen (leap_at c n p) (number_at c n p)

  pub mark_in_kind : mark_in (kind_at c n p) ≡ leap_mark c n p
  unfolding kind_at
  mark_in_kind = mark_chosen (leap_at c n p) (number_at c n p)

module _ (c : Calendar) where
  -- day d of month l, which stands in the list of year n
  abbrev pub month_told : ℕ → ℕ → ℕ → Kind → MonthOfDay
  month_told d l n kind =
      record {
        kind = kind;
        year = n;
        place = l - head c n;
        day = d - c.first l + 1;
        first = c.first l;
        length = length_of c l;
      }

  -- the month of a day is the month that holds it, in the year in whose list that month stands
  pub month_of_day_lem : (d : ℕ)
      → let l = month_of c d in let n = year_of c l in month_of_day c d ≡ month_told d l n (kind_at c n (l - head c n))
  unfolding month_of_day placed
  month_of_day_lem d = refl

module _ (c : Calendar) (ok : Lawful c) where
  -- a day has one last middle term before it
  pub last_before : (next j k : ℕ) → LastBefore c next j → LastBefore c next k → j ≡ k
  last_before next j k p q =
      step_unique c.mid (mid_rises c ok) (next - 1) j k (record { since = omega arith; until = omega arith })
      (record { since = omega arith; until = omega arith })

  -- the last middle term before the next month
  pub last_is : (l j : ℕ) → LastBefore c (c.first (suc l)) j → j ≡ last_term c l
  last_is l j h = last_unique c ok l j (record { come = h.come; next = h.not_come })

  -- tells the year in whose list the month stands
  pub year_told : (l j : ℕ) → LastBefore c (c.first (suc l)) j → InList c (j / 12) l
  year_told l j h = year_to_list c ok (j / 12) l (record { since = omega (arith, last_is l j h); until = omega (arith, last_is l j h) })

  pub year_is : (l j : ℕ) → LastBefore c (c.first (suc l)) j → j / 12 ≡ year_of c l
  year_is l j h = year_of_lem c ok l (j / 12) (year_told l j h)

  -- and its kind
  pub kind_is : (n p j : ℕ) → p < months_in c n → LastBefore c (c.first (suc (head c n + p))) j
      → kind_by c (c.first (head c n + p)) j ≡ kind_at c n p
  unfolding kind_at
  kind_is n p j h last =
      let l = head c n + p in
      let e : j ≡ last_term c l = last_is l j last in
      rw (leap_lacks c ok n p h, lacks_is c l, number_by_term c ok n p h, ← e)

  pub kind_told : (l j : ℕ) → LastBefore c (c.first (suc l)) j → kind_by c (c.first l) j ≡ kind_at c (j / 12) (l - head c (j / 12))
  kind_told l j last =
      let n = j / 12 in
      let at : head c n + (l - head c n) ≡ l = listed_place c ok n l (year_told l j last) in
      ap (λ (m : ℕ). kind_by c (c.first m) j) (sym at)
      ∙ kind_is n (l - head c n) j (omega (arith, year_told l j last)) (rw at last)

  -- so the month of a day is told by its span and that term
  pub month_is : (d l j : ℕ) → l ≡ month_of c d → LastBefore c (c.first (suc l)) j
      → month_told c d l (j / 12) (kind_by c (c.first l) j) ≡ month_of_day c d
  month_is d l j e last =
      rw (month_of_day_lem c d, ← e, ← year_is l j last) (ap (month_told c d l (j / 12)) (kind_told l j last))
