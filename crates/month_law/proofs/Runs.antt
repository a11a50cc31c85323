-- The lists of the years laid end to end: every month stands in one list, which the search finds; the lists of years a .. b - 1 have
-- the months from head a to before head b, each once, and as many leap marks as these are beyond 12 a year.
-- Assumes nothing.
use mathlib.Core.List.{List, [], ◌++◌}
use mathlib.Core.Path.{◌≡◌, ap, ap₂, sym, ◌∙◌}
use Prim.Native.Nat.{ℕ, zero, suc, ◌+◌, ◌-◌, ◌*◌, ◌/◌, ◌≤◌}
use native.Mathlib.Nat.{add-zero, add-suc, add-sub_of_le}
use native.Mathlib.Omega.{arith}
use Rattle.rows.specs.Row.{listed}
use Rattle.rows.proofs.Row.{listed_none, listed_append}
use Rattle.month_law.specs.Count.{count}
use Rattle.month_law.specs.Calendar.{Calendar, head, months_in, year_of, leap_at}
use Rattle.month_law.specs.Lawful.{Lawful}
use Rattle.month_law.proofs.Rising.{Within, rises_weakly, begun_by, step_unique, places_of, values_of, seek_finds}
use Rattle.month_law.proofs.Months.{first_rises, head_holds, head_rises}
use Rattle.month_law.proofs.Terms.{InList, one_come}
use Rattle.month_law.proofs.Lists.{leaps_in}

-- the k months from l on
abbrev pub months_from : ℕ → ℕ → List ℕ
months_from l k = listed (λ (m : ℕ). m) l k

module _ (c : Calendar) where
  -- the lists of the k years from a on, laid end to end
  unfoldable pub months_of_run : ℕ → ℕ → List ℕ
  months_of_run a zero = []
  months_of_run a (suc k) = months_of_run a k ++ months_from (head c (a + k)) (months_in c (a + k))

  -- how many leap marks they have
  unfoldable pub leaps_from : ℕ → ℕ → ℕ
  leaps_from a zero = 0
  leaps_from a (suc k) = leaps_from a k + count (leap_at c (a + k)) (months_in c (a + k))

module _ (c : Calendar) (ok : Lawful c) where
  -- n years have at most 366 days each
  years_most : (n : ℕ) → c.mid (12 * n) ≤ c.mid 0 + 366 * n
  years_most zero = omega arith
  years_most (suc n) = omega (arith, years_most n, ok.year_most n)

  -- so the search for a month's year begins no later than that year
  year_begun : (l n : ℕ) → n ≡ (c.first l - c.mid 0) / 366 → head c n ≤ l
  year_begun l n e =
      begun_by c.first (first_rises c ok) (head c n) l (c.mid (12 * n)) (head_holds c ok n).since
      (omega (arith, years_most n, one_come c ok l, first_rises c ok l))

  -- every month stands in the list of the year that the search finds
  pub year_listed : (l : ℕ) → InList c (year_of c l) l
  unfolding year_of
  year_listed l =
      let start : ℕ = (c.first l - c.mid 0) / 366 in
      seek_finds (head c) (head_rises c ok) l start l (year_begun l start (omega arith)) (omega arith)

  -- and in no other
  pub year_unique : (l m n : ℕ) → InList c m l → InList c n l → m ≡ n
  year_unique = step_unique (head c) (head_rises c ok)

  pub year_of_lem : (l n : ℕ) → InList c n l → n ≡ year_of c l
  year_of_lem l n h = year_unique l n (year_of c l) h (year_listed l)

  -- the lists of years a .. b - 1 have just the months head a .. head b - 1
  pub run_months : (a b n l : ℕ) → InList c n l → Within a b n → Within (head c a) (head c b) l
  run_months a b n l p h = values_of (head c) (head_rises c ok) l n a b p h

  pub months_run : (a b n l : ℕ) → InList c n l → Within (head c a) (head c b) l → Within a b n
  months_run a b n l p h = places_of (head c) (head_rises c ok) l n a b p h

  -- one year more
  one_more : (a k : ℕ) → months_of_run c a k ≡ months_from (head c a) (head c (a + k) - head c a)
      → months_of_run c a k ++ months_from (head c (a + k)) (months_in c (a + k)) ≡ months_from (head c a) (head c (a + suc k) - head c a)
  one_more a k earlier =
      ap₂ ◌++◌ earlier (ap (λ (l : ℕ). months_from l (months_in c (a + k))) (sym here))
      ∙ listed_append (λ (m : ℕ). m) (head c a) (head c (a + k) - head c a) (months_in c (a + k))
      ∙ ap (months_from (head c a)) long
    where
      later : head c a ≤ head c (a + k)
      later = rises_weakly (head c) (head_rises c ok) a (a + k) (omega arith)

      here : head c a + (head c (a + k) - head c a) ≡ head c (a + k)
      here = add-sub_of_le later

      long : head c (a + k) - head c a + months_in c (a + k) ≡ head c (a + suc k) - head c a
      long = omega (arith, later, head_rises c ok (a + k), ap (head c) (add-suc a k))

  -- laid end to end they are these months in order, each once
  pub run_is : (a k : ℕ) → months_of_run c a k ≡ months_from (head c a) (head c (a + k) - head c a)
  unfolding months_of_run
  run_is a zero =
      let none : head c (a + 0) - head c a ≡ 0 = omega (arith, ap (head c) (add-zero a)) in
      rw (none, listed_none)
  run_is a (suc k) = one_more a k (run_is a k)

  leaps_sum : (a k : ℕ) → head c a + 12 * k + leaps_from c a k ≡ head c (a + k)
  unfolding leaps_from
  leaps_sum a zero = rw (add-zero a) (omega arith)
  leaps_sum a (suc k) = rw (add-suc a k) (omega (arith, leaps_sum a k, leaps_in c ok (a + k), head_rises c ok (a + k)))

  -- the lunations from head a to head b, less 12 for each year, are the leap marks of the years between
  pub leaps_between : (a b : ℕ) → a ≤ b → head c b - head c a - 12 * (b - a) ≡ leaps_from c a (b - a)
  leaps_between a b h = omega (arith, leaps_sum a (b - a), ap (head c) (add-sub_of_le h))
