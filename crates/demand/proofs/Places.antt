-- The record on each place of lists laid end to end: of a year's list, and of a run of years.
-- Assumes nothing.
use mathlib.Core.List.{List, ◌++◌}
use mathlib.Core.Logic.{⊎_elim}
use mathlib.Core.Path.{◌≡◌, ap, subst, ◌∙◌}
use Prim.Native.Nat.{ℕ, zero, suc, ◌+◌, ◌*◌, ◌≤◌, ◌<◌}
use native.Mathlib.Numerals.{add-one}
use native.Mathlib.Omega.{arith}
use lib.ListN.{length, drop, length-drop}
use lib.Seq.{drop-append-le, drop-append-add, take-append-le, take-length}
use Rattle.rows.proofs.Choice.{lt_or_ge}
use Rattle.month_law.specs.Calendar.{Calendar, head, months_in}
use Rattle.month_law.specs.Lawful.{Lawful}
use Rattle.month_law.proofs.Rising.{rises_weakly}
use Rattle.month_law.proofs.Months.{head_rises}
use Rattle.lists.specs.Records.{record_width, record_at, records_of}
use Rattle.lists.proofs.RecordLaws.{record_width_lem, records_more, length_records}
use Rattle.lists.specs.Lists.{run_of, months_in_run}
use Rattle.lists.proofs.RunLaws.{run_more, length_run, run_ends}
use Rattle.demand.specs.Demand.{record_on}

-- the records of two lists laid end to end are those of the first and then those of the second
module _ (before after : List ℕ) (k : ℕ) (counted : length before ≡ record_width * k) where
  on_before : (i : ℕ) → i < k → record_on (before ++ after) i ≡ record_on before i
  unfolding record_on
  on_before i h =
      let begun : record_width * i ≤ length before = omega arith in
      let room : record_width ≤ length (drop (record_width * i) before) = omega (arith, length-drop (record_width * i) before) in
      rw (drop-append-le, take-append-le)

  on_after : (i : ℕ) → record_on (before ++ after) (k + i) ≡ record_on after i
  unfolding record_on
  on_after i =
      let past : record_width * (k + i) ≡ length before + record_width * i = omega arith in
      rw (past, drop-append-add)

module _ (c : Calendar) where
  on_itself : (n p : ℕ) → record_on (record_at c n p) 0 ≡ record_at c n p
  unfolding record_on
  on_itself n p = rw (← record_width_lem c n p) (take-length (record_at c n p))

  -- the records of a year's list
  on_year : (n k p : ℕ) → p < k → record_on (records_of c n k) p ≡ record_at c n p
  on_year n zero p h = absurd (omega arith)
  on_year n (suc k) p h =
      rw (records_more c n k)
      (⊎_elim
      (λ (l : p < k). on_before (records_of c n k) (record_at c n k) k (length_records c n k) p l ∙ on_year n k p l)
      (λ (l : k ≤ p).
      let last : p ≡ k + 0 = omega arith in
      let same : k ≡ p = omega arith in
      ap (record_on (records_of c n k ++ record_at c n k)) last
      ∙ on_after (records_of c n k) (record_at c n k) k (length_records c n k) 0
      ∙ on_itself n k
      ∙ ap (record_at c n) same)
      (lt_or_ge p k))

module _ (c : Calendar) (ok : Lawful c) where
  -- the months of a year of a run come before those of a later one
  run_rises : (n j k p : ℕ) → j < k → p < months_in c (n + j) → months_in_run c n j + p < months_in_run c n k
  run_rises n j k p h l =
      omega (
        arith,
        run_ends c ok n j,
        run_ends c ok n k,
        rises_weakly (head c) (head_rises c ok) (suc (n + j)) (n + k) (omega arith),
      )

  -- the records of a run: those of its year n + j come after the months of the years before
  pub on_run : (n k j p : ℕ) → j < k → p < months_in c (n + j) → record_on (run_of c n k) (months_in_run c n j + p) ≡ record_at c (n + j) p
  on_run n zero j p h l = absurd (omega arith)
  on_run n (suc k) j p h l =
      rw (← add-one k, run_more c n k)
      (⊎_elim
      (λ (g : j < k).
      on_before (run_of c n k) (records_of c (n + k) (months_in c (n + k))) (months_in_run c n k) (length_run c n k) (months_in_run c n j + p)
      (run_rises n j k p g l)
      ∙ on_run n k j p g l)
      (λ (g : k ≤ j).
      let same : j ≡ k = omega arith in
      rw same
      (on_after (run_of c n k) (records_of c (n + k) (months_in c (n + k))) (months_in_run c n k) (length_run c n k) p
      ∙ on_year c (n + k) (months_in c (n + k)) p (subst (λ (m : ℕ). p < months_in c (n + m)) same l)))
      (lt_or_ge j k))
