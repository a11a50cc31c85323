-- Laws of records: each is told by its month's kind, a list has one for each month, and each is found in a row that holds the list.
-- Assumes nothing.
use mathlib.Core.List.{List, [], ◌∷◌, ◌++◌, append_assoc}
use mathlib.Core.Logic.{◌⊎◌, inl, inr}
use mathlib.Core.Path.{◌≡◌, refl, ap, ap₂, sym, ◌∙◌}
use Prim.Native.Nat.{ℕ, zero, suc, ◌+◌, ◌-◌, ◌*◌, ◌/◌, ◌≤◌, ◌<◌}
use native.Mathlib.Omega.{arith}
use lib.ListN.{length, get_or, drop, length-append, get_or-append}
use lib.Seq.{get_or-append-add}
use Rattle.rows.specs.Row.{over}
use Rattle.rows.proofs.Choice.{lt_or_ge}
use Rattle.month_law.specs.Calendar.{Calendar, length_of, head, months_in, year_of, leap_mark}
use Rattle.month_law.specs.Lawful.{Lawful}
use Rattle.month_law.proofs.Lists.{place_listed, listed_place}
use Rattle.month_law.proofs.Runs.{year_of_lem}
use Rattle.months.specs.Kind.{Kind, number_in, mark_in}
use Rattle.months.specs.Month.{kind_at}
use Rattle.months.specs.Span.{span_of, LastBefore, kind_by}
use Rattle.months.specs.declared.Span.{Span}
use Rattle.lists.specs.Records.{record_width, length_place, mark_place, record_at, record_of, records_of}
use Rattle.months.proofs.ByTerm.{number_in_kind, mark_in_kind, year_told, year_is, kind_told}
use Rattle.months.proofs.Spans.{first_is, next_is, last_of_month}

-- the record of a month by its two days and its kind
abbrev pub record_by : ℕ → ℕ → Kind → List ℕ
record_by first next kind = first ∷ (next - first) ∷ number_in kind ∷ mark_in kind ∷ []

module _ (c : Calendar) where
  -- the record at a place is told by the kind there
  pub by_kind : (n p : ℕ) → record_by (c.first (head c n + p)) (c.first (suc (head c n + p))) (kind_at c n p) ≡ record_at c n p
  unfolding record_at
  by_kind n p = rw (number_in_kind c n p, mark_in_kind c n p)

  -- a list has one record more for each month
  pub records_more : (n k : ℕ) → records_of c n (suc k) ≡ records_of c n k ++ record_at c n k
  unfolding records_of
  records_more n k = refl

  pub length_records : (n k : ℕ) → length (records_of c n k) ≡ record_width * k
  unfolding records_of record_at
  length_records n zero = refl
  length_records n (suc k) = simp length-append (omega (arith, length_records n k))

-- a row that holds a year's list first
module _ (c : Calendar) (n : ℕ) where
  pub record_width_lem : (p : ℕ) → length (record_at c n p) ≡ record_width
  unfolding record_at
  record_width_lem p = refl

  -- number i of the record at place p
  number_held : (k p i : ℕ) (rest : List ℕ) → p < k → i < record_width
      → get_or (records_of c n k ++ rest) (record_width * p + i) 0 ≡ get_or (record_at c n p) i 0
  unfolding records_of
  number_held zero p i rest h small = absurd (omega arith)
  number_held (suc k) p i rest h small = by (λ l. number_held k p i (record_at c n k ++ rest) l small) (lt_or_ge p k)
    where
      together : (records_of c n k ++ record_at c n k) ++ rest ≡ records_of c n k ++ (record_at c n k ++ rest)
      together = append_assoc (records_of c n k) (record_at c n k) rest

      by : (p < k → get_or (records_of c n k ++ (record_at c n k ++ rest)) (record_width * p + i) 0 ≡ get_or (record_at c n p) i 0)
          → (p < k) ⊎ (k ≤ p)
          → get_or ((records_of c n k ++ record_at c n k) ++ rest) (record_width * p + i) 0 ≡ get_or (record_at c n p) i 0
      by before (inl l) = rw together (before l)
      by before (inr l) =
          let same : p ≡ k = omega arith in
          let place : record_width * p + i ≡ length (records_of c n k) + i = omega (arith, length_records c n k) in
          let width : i < length (record_at c n k) = omega (arith, record_width_lem k) in
          rw (together, place) (get_or-append-add (records_of c n k) (record_at c n k ++ rest) i 0)
          ∙ get_or-append (record_at c n k) rest 0 i width
          ∙ ap (λ (m : ℕ). get_or (record_at c n m) i 0) (sym same)

  module _ (row old : List ℕ) (e : row ≡ over (records_of c n (months_in c n)) old) (p : ℕ) (h : p < months_in c n) where
    held_at : (i : ℕ) → i < record_width → get_or row (record_width * p + i) 0 ≡ get_or (record_at c n p) i 0
    unfolding over
    held_at i k = rw e (number_held (months_in c n) p i (drop (length (records_of c n (months_in c n))) old) h k)

    pub first_held : get_or row (record_width * p) 0 ≡ c.first (head c n + p)
    unfolding record_at
    first_held =
        let start : record_width * p ≡ record_width * p + 0 = omega arith in
        ap (λ (j : ℕ). get_or row j 0) start ∙ held_at 0 (omega arith)

    pub length_held : get_or row (record_width * p + length_place) 0 ≡ length_of c (head c n + p)
    unfolding record_at
    length_held = held_at length_place (omega arith)

    pub mark_held : get_or row (record_width * p + mark_place) 0 ≡ leap_mark c n p
    unfolding record_at
    mark_held = held_at mark_place (omega arith)

module _ (c : Calendar) (ok : Lawful c) where
  -- the record of a month is that of its place in its year's list
  pub record_of_lem : (n p : ℕ) → p < months_in c n → record_of c (head c n + p) ≡ record_at c n p
  unfolding record_of
  record_of_lem n p h =
      let e : n ≡ year_of c (head c n + p) = year_of_lem c ok (head c n + p) n (place_listed c ok n p h) in
      let place : head c n + p - head c n ≡ p = omega arith in
      rw (← e, place)

  -- and is told by the last middle term before its end
  pub record_told : (l j : ℕ) → LastBefore c (c.first (suc l)) j
      → record_by (c.first l) (c.first (suc l)) (kind_by c (c.first l) j) ≡ record_of c l
  unfolding record_of
  record_told l j last =
      let n = j / 12 in
      let p = l - head c n in
      let at : head c n + p ≡ l = listed_place c ok n l (year_told c ok l j last) in
      ap₂ (λ (m : ℕ) (kind : Kind). record_by (c.first m) (c.first (suc m)) kind) (sym at) (kind_told c ok l j last)
      ∙ by_kind c n p
      ∙ ap (λ (m : ℕ). record_at c m (l - head c m)) (year_is c ok l j last)

  -- the four numbers that are found from a month's span
  pub span_told : (span : Span) (j number mark : ℕ) (kind : Kind) → span ≡ span_of c span.lunation → LastBefore c span.next j
      → kind ≡ kind_by c span.first j
      → number ≡ number_in kind
      → mark ≡ mark_in kind
      → span.first ∷ (span.next - span.first) ∷ number ∷ mark ∷ [] ≡ record_of c span.lunation
  span_told span j number mark kind e last k en em =
      let l = span.lunation in
      let first = first_is c span l e in
      let next = next_is c span l e in
      (λ i. first i ∷ (next i - first i) ∷ en i ∷ em i ∷ [])
      ∙ ap (record_by (c.first l) (c.first (suc l))) (k ∙ ap (λ (f : ℕ). kind_by c f j) first)
      ∙ record_told l j (last_of_month c span l e j last)
