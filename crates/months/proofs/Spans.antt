-- What is known of a month's span: its days are those of its month, by its end a middle term has come, and the next head is the month that
-- is not over by the next solstice.
-- Assumes nothing.
use mathlib.Core.Path.{◌≡◌, ap, subst}
use Prim.Native.Nat.{ℕ, suc, ◌+◌, ◌-◌, ◌*◌, ◌≤◌, ◌<◌}
use native.Mathlib.Numerals.{add-one}
use native.Mathlib.Omega.{arith}
use Rattle.month_law.specs.Calendar.{Calendar, head, months_in}
use Rattle.month_law.specs.Lawful.{Lawful}
use Rattle.month_law.proofs.Rising.{begun_by}
use Rattle.month_law.proofs.Months.{first_rises, head_holds, head_last, head_rises}
use Rattle.month_law.proofs.Terms.{one_come}
use Rattle.months.specs.Span.{span_of, LastBefore}
use Rattle.months.specs.declared.Span.{Span}

module _ (c : Calendar) (span : Span) (l : ℕ) (e : span ≡ span_of c l) where
  pub lunation_is : span.lunation ≡ l
  lunation_is = ap (λ (s : Span). s.lunation) e

  pub first_is : span.first ≡ c.first l
  first_is = ap (λ (s : Span). s.first) e

  pub next_is : span.next ≡ c.first (suc l)
  next_is = ap (λ (s : Span). s.next) e

  pub last_of_month : (j : ℕ) → LastBefore c span.next j → LastBefore c (c.first (suc l)) j
  last_of_month j last = subst (λ (n : ℕ). LastBefore c n j) next_is last

  module _ (ok : Lawful c) where
    pub first_before : span.first ≤ span.next
    first_before = omega (arith, first_is, next_is, first_rises c ok l)

    pub term_come : c.mid 0 < span.next
    term_come = omega (arith, next_is, one_come c ok l)

    -- the next solstice of year n
    module _ (n solstice : ℕ) (s : solstice ≡ c.mid (12 * (n + 1))) where
      solstice_is : solstice ≡ c.mid (12 * suc n)
      solstice_is = omega (arith, ap (λ (m : ℕ). c.mid (12 * m)) (add-one n))

      -- a month that is over by then lies before the next head
      pub over_by : span.next ≤ solstice → l < head c (suc n)
      over_by h = head_last c ok (suc n) (suc l) (omega (arith, solstice_is, next_is))

      -- and one that is not lies no earlier
      pub not_over : solstice < span.next → head c (suc n) ≤ l
      not_over h =
          begun_by c.first (first_rises c ok) (head c (suc n)) l (c.mid (12 * suc n)) (head_holds c ok (suc n)).since
          (omega (arith, solstice_is, next_is))

-- from the head of year n to the next
module _ (c : Calendar) (n : ℕ) (start end : Span) (s : start ≡ span_of c (head c n)) (e : end ≡ span_of c (head c (suc n))) where
  pub months_between : end.lunation - start.lunation ≡ months_in c n
  months_between = λ i. lunation_is c end (head c (suc n)) e i - lunation_is c start (head c n) s i

  pub head_later : Lawful c → start.lunation ≤ end.lunation
  head_later ok =
      omega (arith, lunation_is c start (head c n) s, lunation_is c end (head c (suc n)) e, head_rises c ok n)
