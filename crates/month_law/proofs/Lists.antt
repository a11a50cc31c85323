-- The list of months of a year: it has 12 months or 13, as many without a middle term as it has beyond 12, and that one is never the
-- head. The leap mark stands at just that month.
-- Assumes nothing.
use Rattle.std.specs.Prelude.{if◌then◌else◌}
use mathlib.Core.Bool.{true, false, ◌&&◌}
use mathlib.Core.Logic.{◌⊎◌, inl, inr, ⊎_elim}
use mathlib.Core.Path.{◌≡◌, ap, sym, ◌∙◌}
use Prim.Native.Nat.{ℕ, zero, suc, ◌+◌, ◌-◌, ◌*◌, ◌≤◌, ◌<◌}
use native.Mathlib.Nat.{add-zero, add-suc, add-sub_of_le}
use native.Mathlib.Omega.{arith}
use borrow.Author.Tests.{eq-eqb, ne_eqb}
use Rattle.rows.specs.Choice.{◌≤?◌, ◌=?◌}
use Rattle.rows.proofs.Choice.{lt_or_ge, passes_or_fails, if_le}
use Rattle.month_law.specs.Count.{count}
use Rattle.month_law.specs.Calendar.{Calendar, head, months_in, held, leap_at}
use Rattle.month_law.specs.Lawful.{Lawful}
use Rattle.month_law.specs.Demand.{JustOne, EmptyAt}
use Rattle.month_law.proofs.Rising.{order_back}
use Rattle.month_law.proofs.Count.{Passing, count_same, count_past, none_passes, one_passes, some_passes}
use Rattle.month_law.proofs.Months.{first_rises, months_least, head_holds, head_last, head_rises}
use Rattle.month_law.proofs.Terms.{InList, lacks, terms_before, lacks_none, has_term, term_seen, none_seen, terms_next, head_before}
use Rattle.month_law.proofs.Held.{none_held, held_none}

module _ (c : Calendar) (ok : Lawful c) where
  -- of the k months from l on, as many lack a middle term as the terms fall short of k
  pub lacking_count : (l k : ℕ) → terms_before c (l + k) + count (λ (p : ℕ). lacks c (l + p)) k ≡ terms_before c l + k
  unfolding count
  lacking_count l zero = rw (add-zero l) (omega arith)
  lacking_count l (suc k) = rw (add-suc l k) (omega (arith, lacking_count l k, terms_next c ok (l + k)))

  head_on : (n : ℕ) → head c n + months_in c n ≡ head c (suc n)
  head_on n = add-sub_of_le (omega (arith, head_rises c ok n))

  -- so the list of a year has 12 months and as many more as lack a middle term
  lacking_in : (n : ℕ) → months_in c n ≡ 12 + count (λ (p : ℕ). lacks c (head c n + p)) (months_in c n)
  lacking_in n =
      omega (
        arith,
        lacking_count (head c n) (months_in c n),
        ap (terms_before c) (head_on n),
        head_before c ok n,
        head_before c ok (suc n),
      )

  pub months_in_least : (n : ℕ) → 12 ≤ months_in c n
  months_in_least n = omega (arith, lacking_in n)

  -- 14 months have 406 days at least, and from head to head are at most 366 + 29
  pub months_in_most : (n : ℕ) → months_in c n ≤ 13
  months_in_most n =
      omega (
        arith,
        months_least c ok (head c n) (months_in c n),
        ap c.first (head_on n),
        head_holds c ok n,
        head_holds c ok (suc n),
        ok.month_most (head c n),
        ok.year_most n,
      )

  pub twelve_or_thirteen : (n : ℕ) → (months_in c n ≡ 12) ⊎ (months_in c n ≡ 13)
  twelve_or_thirteen n =
      ⊎_elim (λ (h : months_in c n < 13). inl (omega (arith, months_in_least n)))
      (λ (h : 13 ≤ months_in c n). inr (omega (arith, months_in_most n)))
      (lt_or_ge (months_in c n) 13)

  -- the next head is 13 months on if the month there begins no later than the next solstice, else 12
  pub next_head : (n : ℕ) → head c (suc n) ≡ head c n + (if c.first (head c n + 13) ≤? c.mid (12 * suc n) then 13 else 12)
  next_head n =
      if_le (λ (k : ℕ). head c (suc n) ≡ head c n + k) 13 12 (c.first (head c n + 13)) (c.mid (12 * suc n))
      (λ g. omega (arith, head_last c ok (suc n) (head c n + 13) g, months_in_most n))
      (λ g.
      let short : head c (suc n) < head c n + 13 =
      order_back c.first (first_rises c ok) (head c (suc n)) (head c n + 13) (omega (arith, head_holds c ok (suc n))) in
      omega (arith, months_in_least n))

  -- the list of year n has the months at places 0 .. months_in n - 1 from its head
  pub place_listed : (n p : ℕ) → p < months_in c n → InList c n (head c n + p)
  place_listed n p h = record { since = omega arith; until = omega arith }

  -- and a month of the list stands at its distance from the head
  pub listed_place : (n l : ℕ) → InList c n l → head c n + (l - head c n) ≡ l
  listed_place n l h = add-sub_of_le h.since

  -- in a list of 12 every month holds a middle term
  pub twelve_hold : (n p : ℕ) → months_in c n ≡ 12 → p < months_in c n → lacks c (head c n + p) ≡ false
  twelve_hold n p e h =
      none_passes (λ (q : ℕ). lacks c (head c n + q)) p (months_in c n) (omega (arith, lacking_in n)) h

  -- the leap mark stands at just the months that lack a middle term
  pub leap_lacks : (n p : ℕ) → p < months_in c n → leap_at c n p ≡ lacks c (head c n + p)
  unfolding leap_at
  leap_lacks n p h = ⊎_elim short long (twelve_or_thirteen n)
    where
      listed : InList c n (head c n + p)
      listed = place_listed n p h

      short : months_in c n ≡ 12 → ((months_in c n =? 13) && (held c n (head c n + p) =? 0)) ≡ lacks c (head c n + p)
      short e = rw (ne_eqb (months_in c n) 13 (λ f. omega arith)) (sym (twelve_hold n p e h))

      long : months_in c n ≡ 13 → ((months_in c n =? 13) && (held c n (head c n + p) =? 0)) ≡ lacks c (head c n + p)
      long e =
          rw (eq-eqb (months_in c n) 13 e)
          (⊎_elim
          (λ (f : lacks c (head c n + p) ≡ true).
          eq-eqb (held c n (head c n + p)) 0 (none_held c n (head c n + p) (lacks_none c ok (head c n + p) f)) ∙ sym f)
          (λ (f : lacks c (head c n + p) ≡ false).
          ne_eqb (held c n (head c n + p)) 0
          (λ z. held_none c ok n (head c n + p) listed z _ (has_term c ok (head c n + p) f))
          ∙ sym f)
          (passes_or_fails (lacks c (head c n + p))))

  -- the first k places of a list have as many leap marks as months without a middle term
  pub leap_count : (n k : ℕ) → k ≤ months_in c n → count (leap_at c n) k ≡ count (λ (p : ℕ). lacks c (head c n + p)) k
  leap_count n k h = count_same (leap_at c n) (λ (p : ℕ). lacks c (head c n + p)) k (λ p g. leap_lacks n p (omega arith))

  -- a list has 12 months and as many more as it has leap marks
  pub leaps_in : (n : ℕ) → months_in c n ≡ 12 + count (leap_at c n) (months_in c n)
  leaps_in n = omega (arith, lacking_in n, leap_count n (months_in c n) (omega arith))

  -- a leap mark says that the month holds none of the year's middle terms, and it does so in each list
  pub leap_empty : (n p : ℕ) → p < months_in c n → leap_at c n p ≡ true → EmptyAt c n p
  leap_empty n p h e =
      record {
        listed = h;
        none = none_held c n (head c n + p) (lacks_none c ok (head c n + p) (sym (leap_lacks n p h) ∙ e));
      }

  pub empty_leap : (n p : ℕ) → EmptyAt c n p → leap_at c n p ≡ true
  empty_leap n p x =
      leap_lacks n p x.listed
      ∙ none_seen c ok (head c n + p) (held_none c ok n (head c n + p) (place_listed n p x.listed) x.none)

  -- a list of 13 has just one such month
  pub thirteen_leap : (n : ℕ) → months_in c n ≡ 13 → JustOne (EmptyAt c n)
  thirteen_leap n e = go (some_passes (leap_at c n) (months_in c n) (omega (arith, leaps_in n)))
    where
      go : Passing (leap_at c n) (months_in c n) → JustOne (EmptyAt c n)
      go x =
          record {
            it = x.place;
            such = leap_empty n x.place x.below x.passes;
            only =
                λ p y.
                one_passes (leap_at c n) p x.place (months_in c n) (omega (arith, leaps_in n)) y.listed x.below
                (empty_leap n p y) x.passes;
          }

  -- and a list with such a month has 13
  pub leap_thirteen : (n p : ℕ) → EmptyAt c n p → months_in c n ≡ 13
  leap_thirteen n p x =
      omega (
        arith,
        leaps_in n,
        months_in_most n,
        count_past (leap_at c n) p (months_in c n) x.listed (empty_leap n p x),
      )

  -- the head is never leap: it holds the solstice
  pub head_ordinary : (n : ℕ) → leap_at c n 0 ≡ false
  head_ordinary n =
      leap_lacks n 0 (omega (arith, months_in_least n))
      ∙ ap (lacks c) (add-zero (head c n))
      ∙ term_seen c ok (head c n) (12 * n) (head_holds c ok n)
