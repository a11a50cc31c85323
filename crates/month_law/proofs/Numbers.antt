-- The numbers of the months of a list: they are those of the middle terms, the leap month repeats the number before it, and the
-- ordinary months have 11, 12, 1 .. 10 in order.
-- Assumes nothing.
use Rattle.std.specs.Prelude.{if◌then◌else◌}
use mathlib.Core.Bool.{true, false}
use mathlib.Core.List.{List, [], ◌∷◌, ◌++◌}
use mathlib.Core.Logic.{⊎_elim}
use mathlib.Core.Path.{◌≡◌, refl, ap, sym, ◌∙◌}
use Prim.Native.Nat.{ℕ, zero, suc, ◌+◌, ◌-◌, ◌*◌, ◌%◌, ◌≤◌, ◌<◌}
use native.Mathlib.Nat.{add-suc}
use native.Mathlib.Omega.{arith}
use Rattle.rows.proofs.Choice.{passes_or_fails}
use Rattle.month_law.specs.Count.{one_if, count}
use Rattle.month_law.specs.Calendar.{Calendar, number_of_rank, head, months_in, leap_at, number_at}
use Rattle.month_law.specs.Lawful.{Lawful}
use Rattle.month_law.proofs.Count.{count_suc}
use Rattle.month_law.proofs.Terms.{last_term, terms_before, terms_next, head_before, list_to_year}
use Rattle.month_law.proofs.Lists.{lacking_count, leap_count, leaps_in, place_listed}

module _ (c : Calendar) where
  -- the rank of the month at place p: the place less the leap months up to it
  abbrev pub rank_at : ℕ → ℕ → ℕ
  rank_at n p = p - count (leap_at c n) (suc p)

  pub number_rank : (n p : ℕ) → number_at c n p ≡ number_of_rank (rank_at n p)
  unfolding number_at
  number_rank n p = refl

  -- the leap month repeats the number before it
  pub leap_repeats : (n p : ℕ) → leap_at c n (suc p) ≡ true → number_at c n (suc p) ≡ number_at c n p
  leap_repeats n p e =
      let same : rank_at n (suc p) ≡ rank_at n p = omega (arith, count_suc (leap_at c n) (suc p), ap one_if e) in
      number_rank n (suc p) ∙ ap number_of_rank same ∙ sym (number_rank n p)

  -- the numbers of the ordinary months among the first k of the list of year n, in order
  unfoldable pub ordinary_numbers : ℕ → ℕ → List ℕ
  ordinary_numbers n zero = []
  ordinary_numbers n (suc k) = if leap_at c n k then ordinary_numbers n k else ordinary_numbers n k ++ (number_at c n k ∷ [])

-- the twelve numbers come round, the first of them 11
pub rank_number : (t : ℕ) → number_of_rank t ≡ (t + 10) % 12 + 1
unfolding number_of_rank
rank_number t = refl

-- the numbers of the first k ranks
names : ℕ → List ℕ
names zero = []
names (suc k) = names k ++ (number_of_rank k ∷ [])

module _ (c : Calendar) (ok : Lawful c) (n : ℕ) where
  -- the last middle term of the month at place p is that of its rank
  pub rank_sum : (p : ℕ) → p < months_in c n → last_term c (head c n + p) + count (leap_at c n) (suc p) ≡ 12 * n + p
  rank_sum p h =
      omega (
        arith,
        leap_count c ok n (suc p) h,
        lacking_count c ok (head c n) (suc p),
        ap (terms_before c) (add-suc (head c n) p),
        terms_next c ok (head c n + p),
        head_before c ok n,
      )

  pub rank_term : (p : ℕ) → p < months_in c n → last_term c (head c n + p) ≡ 12 * n + rank_at c n p
  rank_term p h = omega (arith, rank_sum p h, list_to_year c ok n (head c n + p) (place_listed c ok n p h))

  -- so the number is that of the last middle term, with no year and no place
  pub number_by_term : (p : ℕ) → p < months_in c n → number_at c n p ≡ number_of_rank (last_term c (head c n + p))
  unfolding number_of_rank
  number_by_term p h = omega (arith, number_rank c n p, rank_term p h)

  -- the ordinary months among the first k have the first numbers in order
  abbrev InOrder : ℕ → Type 0
  InOrder k = ordinary_numbers c n k ≡ names (k - count (leap_at c n) k)

  ordinary_suc : (k : ℕ) → ordinary_numbers c n (suc k)
      ≡ (if leap_at c n k then ordinary_numbers c n k else ordinary_numbers c n k ++ (number_at c n k ∷ []))
  unfolding ordinary_numbers
  ordinary_suc k = refl

  leap_adds_none : (k : ℕ) → leap_at c n k ≡ true → InOrder k → InOrder (suc k)
  leap_adds_none k e earlier =
      ordinary_suc k ∙ rw e (earlier ∙ ap names (omega (arith, count_suc (leap_at c n) k, ap one_if e)))

  ordinary_adds_one : (k : ℕ) → k < months_in c n → leap_at c n k ≡ false → InOrder k → InOrder (suc k)
  unfolding names
  ordinary_adds_one k h e earlier = ordinary_suc k ∙ rw (e, number_rank c n k, earlier, rank, more)
    where
      rank : rank_at c n k ≡ k - count (leap_at c n) k
      rank = omega (arith, count_suc (leap_at c n) k, ap one_if e)

      more : suc k - count (leap_at c n) (suc k) ≡ suc (k - count (leap_at c n) k)
      more =
          omega (
            arith,
            rank_sum k h,
            list_to_year c ok n (head c n + k) (place_listed c ok n k h),
            count_suc (leap_at c n) k,
            ap one_if e,
          )

  in_order : (k : ℕ) → k ≤ months_in c n → InOrder k
  unfolding ordinary_numbers names count
  in_order zero h = refl
  in_order (suc k) h =
      ⊎_elim (λ (e : leap_at c n k ≡ true). leap_adds_none k e (in_order k (omega arith)))
      (λ (e : leap_at c n k ≡ false). ordinary_adds_one k h e (in_order k (omega arith)))
      (passes_or_fails (leap_at c n k))

  -- those of the whole list are 11, 12, 1 .. 10, each once
  pub ordinary_months : ordinary_numbers c n (months_in c n) ≡ 11 ∷ 12 ∷ 1 ∷ 2 ∷ 3 ∷ 4 ∷ 5 ∷ 6 ∷ 7 ∷ 8 ∷ 9 ∷ 10 ∷ []
  unfolding names number_of_rank
  ordinary_months =
      let twelve : months_in c n - count (leap_at c n) (months_in c n) ≡ 12 = omega (arith, leaps_in c ok n) in
      in_order (months_in c n) (omega arith) ∙ rw twelve
