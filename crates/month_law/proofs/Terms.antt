-- The middle terms and the months that hold them: a month holds one or none, each middle term of a year is held by a month of its
-- list, and the months of its list hold no others. The key is the last middle term that has come by the end of a month.
-- Assumes nothing.
use mathlib.Core.Bool.{Bool, true, false}
use mathlib.Core.Logic.{⊎_elim}
use mathlib.Core.Path.{◌≡◌, refl, ap, subst, sym, ◌∙◌}
use Prim.Native.Nat.{ℕ, suc, ◌+◌, ◌-◌, ◌*◌, ◌≤◌, ◌<◌}
use native.Mathlib.Nat.{lt_of_not-le}
use native.Mathlib.Omega.{arith}
use borrow.Author.Tests.{lt-ltb, le-ltb, ltb-true, ltb-false}
use Rattle.rows.specs.Choice.{◌<?◌}
use Rattle.rows.proofs.Choice.{lt_or_ge, passes_or_fails}
use Rattle.month_law.specs.Steps.{seek}
use Rattle.month_law.specs.Count.{one_if}
use Rattle.month_law.specs.Calendar.{Calendar, head}
use Rattle.month_law.specs.Lawful.{Lawful}
use Rattle.month_law.proofs.Rising.{Within, InStep, rises_weakly, begun_by, step_unique, seek_finds}
use Rattle.month_law.proofs.Months.{Holds, HoldsNone, term_month, first_rises, mid_rises, term_held, head_holds}

-- middle term j is of year n
abbrev pub OfYear : ℕ → ℕ → Type 0
OfYear n j = Within (12 * n) (12 * suc n) j

module _ (c : Calendar) where
  -- month l stands in the list of year n
  abbrev pub InList : ℕ → ℕ → Type 0
  InList n l = InStep (head c) n l

  -- the last middle term not after the last day of month l
  unfoldable pub last_term : ℕ → ℕ
  last_term l = let d = c.first (suc l) - 1 in seek c.mid d 0 d

  -- whether month l holds no middle term: then the last one lies before it
  unfoldable pub lacks : ℕ → Bool
  lacks l = c.mid (last_term l) <? c.first l

  -- how many middle terms lie before month l
  abbrev pub terms_before : ℕ → ℕ
  terms_before l = last_term l + one_if (lacks l)

  pub lacks_is : (l : ℕ) → lacks l ≡ (c.mid (last_term l) <? c.first l)
  unfolding lacks
  lacks_is l = refl

-- j is the last middle term not after the last day of month l
pub record IsLast (c : Calendar) (l j : ℕ) : Type 0 where
  pub come : c.mid j < c.first (suc l)
  pub next : c.first (suc l) ≤ c.mid (suc j)

module _ (c : Calendar) (ok : Lawful c) where
  -- the first middle term has come by the end of any month
  pub one_come : (l : ℕ) → c.mid 0 < c.first (suc l)
  one_come l = omega (arith, ok.opened, rises_weakly c.first (first_rises c ok) 1 (suc l) (omega arith))

  last_found : (l : ℕ) → InStep c.mid (last_term c l) (c.first (suc l) - 1)
  unfolding last_term
  last_found l =
      let d : ℕ = c.first (suc l) - 1 in
      seek_finds c.mid (mid_rises c ok) d 0 d (omega (arith, one_come l)) (omega arith)

  pub last_term_lem : (l : ℕ) → IsLast c l (last_term c l)
  last_term_lem l = record { come = omega (arith, one_come l, last_found l); next = omega (arith, last_found l) }

  -- a month has one last middle term
  pub last_unique : (l j : ℕ) → IsLast c l j → j ≡ last_term c l
  last_unique l j h =
      step_unique c.mid (mid_rises c ok) (c.first (suc l) - 1) j (last_term c l)
      (record { since = omega arith; until = omega (arith, one_come l) }) (last_found l)

  -- a middle term that a month holds is its last
  pub held_is_last : (l j : ℕ) → Holds c l j → j ≡ last_term c l
  held_is_last l j h =
      last_unique l j (record { come = h.until; next = omega (arith, h, ok.month_most l, ok.terms_apart j) })

  -- so a month holds one at most
  pub one_at_most : (l j k : ℕ) → Holds c l j → Holds c l k → j ≡ k
  one_at_most l j k p q = held_is_last l j p ∙ sym (held_is_last l k q)

  -- a middle term has come by the end of month l just where it is not after the last
  pub term_come : (j l : ℕ) → c.mid j < c.first (suc l) → j ≤ last_term c l
  term_come j l h = begun_by c.mid (mid_rises c ok) j (last_term c l) (c.mid j) (omega arith) (omega (arith, last_term_lem l))

  pub come_term : (j l : ℕ) → j ≤ last_term c l → c.mid j < c.first (suc l)
  come_term j l h = omega (arith, last_term_lem l, rises_weakly c.mid (mid_rises c ok) j (last_term c l) h)

  -- the head of year n is at or before month l just where its solstice has come by the end of l
  head_to_term : (n l : ℕ) → head c n ≤ l → 12 * n ≤ last_term c l
  head_to_term n l h =
      term_come (12 * n) l
      (omega (arith, head_holds c ok n, rises_weakly c.first (first_rises c ok) (suc (head c n)) (suc l) (omega arith)))

  term_to_head : (n l : ℕ) → 12 * n ≤ last_term c l → head c n ≤ l
  term_to_head n l h =
      begun_by c.first (first_rises c ok) (head c n) l (c.mid (12 * n)) (head_holds c ok n).since (come_term (12 * n) l h)

  -- so the list of year n has just the months whose last middle term is of year n
  pub list_to_year : (n l : ℕ) → InList c n l → OfYear n (last_term c l)
  list_to_year n l h =
      record {
        since = head_to_term n l h.since;
        until = lt_of_not-le λ (g : 12 * suc n ≤ last_term c l). omega (arith, h, term_to_head (suc n) l g);
      }

  pub year_to_list : (n l : ℕ) → OfYear n (last_term c l) → InList c n l
  year_to_list n l h =
      record {
        since = term_to_head n l h.since;
        until = lt_of_not-le λ (g : head c (suc n) ≤ l). omega (arith, h, head_to_term (suc n) l g);
      }

  -- the month that holds a middle term of year n stands in the list of year n
  pub term_in_list : (n j : ℕ) → OfYear n j → InList c n (term_month c j)
  term_in_list n j h =
      year_to_list n (term_month c j) (subst (OfYear n) (held_is_last (term_month c j) j (term_held c ok j)) h)

  -- and a month of that list holds none but of year n
  pub list_holds : (n l j : ℕ) → InList c n l → Holds c l j → OfYear n j
  list_holds n l j p h = subst (OfYear n) (sym (held_is_last l j h)) (list_to_year n l p)

  -- where the test for a month without a middle term passes, it holds none, and where it fails it holds its last
  pub lacks_none : (l : ℕ) → lacks c l ≡ true → HoldsNone c l
  unfolding lacks
  lacks_none l e j h = omega (arith, ltb-true (c.mid (last_term c l)) (c.first l) e, h, ap c.mid (held_is_last l j h))

  pub has_term : (l : ℕ) → lacks c l ≡ false → Holds c l (last_term c l)
  unfolding lacks
  has_term l e = record { since = ltb-false (c.mid (last_term c l)) (c.first l) e; until = (last_term_lem l).come }

  -- and back
  pub term_seen : (l j : ℕ) → Holds c l j → lacks c l ≡ false
  unfolding lacks
  term_seen l j h =
      le-ltb (c.mid (last_term c l)) (c.first l) (omega (arith, h, ap c.mid (held_is_last l j h)))

  pub none_seen : (l : ℕ) → HoldsNone c l → lacks c l ≡ true
  none_seen l h =
      ⊎_elim (λ (g : lacks c l ≡ true). g) (λ (g : lacks c l ≡ false). absurd (h (last_term c l) (has_term l g)))
      (passes_or_fails (lacks c l))

  -- the terms before the next month are those not after this one, whether or not the next month holds the one that follows
  pub terms_next : (l : ℕ) → terms_before c (suc l) ≡ suc (last_term c l)
  unfolding lacks
  terms_next l = ⊎_elim held free (lt_or_ge (c.mid (suc (last_term c l))) (c.first (suc (suc l))))
    where
      held : c.mid (suc (last_term c l)) < c.first (suc (suc l)) → terms_before c (suc l) ≡ suc (last_term c l)
      held g =
          let h : Holds c (suc l) (suc (last_term c l)) = record { since = (last_term_lem l).next; until = g } in
          rw (term_seen (suc l) (suc (last_term c l)) h) (omega (arith, held_is_last (suc l) (suc (last_term c l)) h))

      still : c.first (suc (suc l)) ≤ c.mid (suc (last_term c l)) → last_term c l ≡ last_term c (suc l)
      still g =
          last_unique (suc l) (last_term c l)
          (record { come = omega (arith, last_term_lem l, first_rises c ok (suc l)); next = g })

      free : c.first (suc (suc l)) ≤ c.mid (suc (last_term c l)) → terms_before c (suc l) ≡ suc (last_term c l)
      free g =
          rw (lt-ltb (c.mid (last_term c (suc l))) (c.first (suc l)) (omega (arith, last_term_lem l, ap c.mid (still g))))
          (omega (arith, still g))

  -- all middle terms of the years before lie before the head
  pub head_before : (n : ℕ) → terms_before c (head c n) ≡ 12 * n
  head_before n =
      omega (
        arith,
        held_is_last (head c n) (12 * n) (head_holds c ok n),
        ap one_if (term_seen (head c n) (12 * n) (head_holds c ok n)),
      )
