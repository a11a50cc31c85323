-- The months of a calendar: their first days rise, each day lies in one month, which the search finds; each middle term lies in one,
-- and later ones in later months; so each year has one head, and heads rise.
-- Assumes nothing.
use mathlib.Core.Path.{◌≡◌, refl, ap, sym, ◌∙◌}
use Prim.Native.Nat.{ℕ, zero, suc, ◌+◌, ◌-◌, ◌*◌, ◌/◌, ◌≤◌, ◌<◌}
use native.Mathlib.Nat.{zero-add, add-zero, add-suc}
use native.Mathlib.Omega.{arith}
use Rattle.month_law.specs.Calendar.{Calendar, month_of, head}
use Rattle.month_law.specs.Lawful.{Lawful}
use Rattle.month_law.proofs.Rising.{InStep, rises_weakly, rises_strictly, begun_by, step_unique, seek_finds}

module _ (c : Calendar) where
  -- day d lies in month l
  abbrev pub InMonth : ℕ → ℕ → Type 0
  InMonth l d = InStep c.first l d

  -- month l holds the day of middle term j
  abbrev pub Holds : ℕ → ℕ → Type 0
  Holds l j = InMonth l (c.mid j)

  abbrev pub HoldsNone : ℕ → Type 0
  HoldsNone l = (j : ℕ) → ¬ Holds l j

  -- the month that holds middle term j
  abbrev pub term_month : ℕ → ℕ
  term_month j = month_of c (c.mid j)

  -- a year's head is the month of its solstice
  pub head_is : (n : ℕ) → head c n ≡ term_month (12 * n)
  unfolding head
  head_is n = refl

module _ (c : Calendar) (ok : Lawful c) where
  -- first days rise, and the days of the middle terms
  pub first_rises : (l : ℕ) → c.first l < c.first (suc l)
  first_rises l = omega (arith, ok.month_least l)

  pub mid_rises : (j : ℕ) → c.mid j < c.mid (suc j)
  mid_rises j = omega (arith, ok.terms_apart j)

  -- k months have 29 days each at least, and 30 at most
  pub months_least : (l k : ℕ) → c.first l + 29 * k ≤ c.first (l + k)
  months_least l zero = rw (add-zero l) (omega arith)
  months_least l (suc k) = rw (add-suc l k) (omega (arith, months_least l k, ok.month_least (l + k)))

  pub months_most : (l k : ℕ) → c.first (l + k) ≤ c.first l + 30 * k
  months_most l zero = rw (add-zero l) (omega arith)
  months_most l (suc k) = rw (add-suc l k) (omega (arith, months_most l k, ok.month_most (l + k)))

  -- every day from the first on lies in the month that the search finds
  pub day_in_month : (d : ℕ) → c.first 0 ≤ d → InMonth c (month_of c d) d
  unfolding month_of
  day_in_month d h =
      let start : ℕ = (d - c.first 0) / 30 in
      seek_finds c.first first_rises d start d
      (omega (arith, months_most 0 start, ap c.first (zero-add start))) (omega arith)

  -- and in no other
  pub month_unique : (d l m : ℕ) → InMonth c l d → InMonth c m d → l ≡ m
  month_unique = step_unique c.first first_rises

  pub month_of_lem : (d l : ℕ) → InMonth c l d → l ≡ month_of c d
  month_of_lem d l h =
      month_unique d l (month_of c d) h
      (day_in_month d (omega (arith, h, rises_weakly c.first first_rises 0 l (omega arith))))

  -- the month of a middle term holds it
  pub term_held : (j : ℕ) → Holds c (term_month c j) j
  term_held j = day_in_month (c.mid j) (omega (arith, ok.opening, rises_weakly c.mid mid_rises 0 j (omega arith)))

  -- the next middle term comes when this one's month is over
  pub term_months_rise : (j : ℕ) → term_month c j < term_month c (suc j)
  term_months_rise j =
      begun_by c.first first_rises (suc (term_month c j)) (term_month c (suc j)) (c.mid (suc j))
      (omega (arith, term_held j, ok.month_most (term_month c j), ok.terms_apart j)) (term_held (suc j)).until

  -- the head of a year holds its solstice
  pub head_holds : (n : ℕ) → Holds c (head c n) (12 * n)
  head_holds n = rw (head_is c n) (term_held (12 * n))

  -- and is the one month that does
  pub head_unique : (n l : ℕ) → Holds c l (12 * n) → l ≡ head c n
  head_unique n l h = month_of_lem (c.mid (12 * n)) l h ∙ sym (head_is c n)

  -- it is the last month whose first day is not after the solstice's day
  pub head_last : (n l : ℕ) → c.first l ≤ c.mid (12 * n) → l ≤ head c n
  head_last n l h = begun_by c.first first_rises l (head c n) (c.mid (12 * n)) h (head_holds n).until

  -- the head of year 0 is lunation 0
  pub head_zero : head c 0 ≡ 0
  head_zero = sym (head_unique 0 0 (record { since = ok.opening; until = ok.opened }))

  pub head_rises : (n : ℕ) → head c n < head c (suc n)
  head_rises n =
      omega (arith, head_is c n, head_is c (suc n), rises_strictly (term_month c) term_months_rise (12 * n) (12 * suc n) (omega arith))
