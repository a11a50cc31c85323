-- Laws of runs: the lists of a run lie end to end, so that its records are those of its months in order, and these end at a head.
-- Assumes nothing.
use mathlib.Core.List.{List, [], ◌∷◌, ◌++◌, flat_map, append_assoc, append-nil}
use mathlib.Core.Path.{◌≡◌, refl, sym, ap}
use Prim.Native.Nat.{ℕ, zero, suc, ◌+◌, ◌-◌, ◌*◌, ◌≤◌}
use native.Mathlib.Nat.{add-zero, add-suc}
use native.Mathlib.Numerals.{add-one}
use native.Mathlib.Omega.{arith}
use lib.ListN.{length, length-append}
use Rattle.rows.specs.Row.{listed}
use Rattle.rows.proofs.Row.{listed_append}
use Rattle.month_law.specs.Calendar.{Calendar, head, months_in}
use Rattle.month_law.specs.Lawful.{Lawful}
use Rattle.month_law.proofs.Months.{head_rises}
use Rattle.month_law.proofs.Lists.{months_in_most}
use Rattle.month_law.proofs.Runs.{months_from, months_of_run, run_is}
use Rattle.lists.specs.Records.{record_width, year_room, record_of, records_of}
use Rattle.lists.proofs.RecordLaws.{length_records, record_of_lem}
use Rattle.lists.specs.Lists.{run_of, months_in_run}

module _ (c : Calendar) where
  -- a run has one list more for each year
  pub run_more : (n k : ℕ) → run_of c n (k + 1) ≡ run_of c n k ++ records_of c (n + k) (months_in c (n + k))
  unfolding run_of
  run_more n k = ap (run_of c n) (add-one k)

  pub months_more : (n k : ℕ) → months_in_run c n (k + 1) ≡ months_in_run c n k + months_in c (n + k)
  unfolding months_in_run
  months_more n k = ap (months_in_run c n) (add-one k)

  pub length_run : (n k : ℕ) → length (run_of c n k) ≡ record_width * months_in_run c n k
  unfolding run_of months_in_run
  length_run n zero = refl
  length_run n (suc k) =
      simp length-append (omega (arith, length_run n k, length_records c (n + k) (months_in c (n + k))))

module _ (c : Calendar) (ok : Lawful c) where
  -- the months of a run end at the head of the year after it
  pub run_ends : (n k : ℕ) → head c n + months_in_run c n k ≡ head c (n + k)
  unfolding months_in_run
  run_ends n zero = rw (add-zero (head c n), add-zero n)
  run_ends n (suc k) = rw add-suc (omega (arith, run_ends n k, head_rises c ok (n + k)))

  -- no run has more records than a row has room for
  pub months_run_most : (n k : ℕ) → months_in_run c n k ≤ year_room * k
  unfolding months_in_run
  months_run_most n zero = omega arith
  months_run_most n (suc k) = omega (arith, months_run_most n k, months_in_most c ok (n + k))

-- the months from l on, with one more
pub one_month_more : (l k : ℕ) → months_from l (k + 1) ≡ months_from l k ++ ((l + k) ∷ [])
unfolding listed
one_month_more l k = sym (listed_append (λ (m : ℕ). m) l k 1)

-- the records of some months, one after the other
abbrev pub records_for : Calendar → List ℕ → List ℕ
records_for c months = flat_map (record_of c) months

records_append : (c : Calendar) (x y : List ℕ) → records_for c (x ++ y) ≡ records_for c x ++ records_for c y
unfolding flat_map
records_append c [] y = refl
records_append c (m ∷ x) y = rw (records_append c x y) (sym (append_assoc (record_of c m) (records_for c x) (records_for c y)))

module _ (c : Calendar) (ok : Lawful c) where
  records_laid : (n k : ℕ) → k ≤ months_in c n → records_of c n k ≡ records_for c (months_from (head c n) k)
  unfolding records_of flat_map
  records_laid n zero h = unfold listed in refl
  records_laid n (suc k) h =
      rw (
        ← add-one k,
        one_month_more,
        records_append c (months_from (head c n) k),
        ← records_laid n k (omega arith),
        append-nil,
        record_of_lem c ok n k h,
      )

  of_months : (n k : ℕ) → run_of c n k ≡ records_for c (months_of_run c n k)
  unfolding run_of months_of_run flat_map
  of_months n zero = refl
  of_months n (suc k) =
      rw (records_append c (months_of_run c n k), ← of_months n k, ← records_laid (n + k) (months_in c (n + k)) (omega arith))

  -- the lists of a run are the records of the months from its head on
  pub run_laid : (n k : ℕ) → run_of c n k ≡ records_for c (months_from (head c n) (months_in_run c n k))
  run_laid n k =
      let months : head c (n + k) - head c n ≡ months_in_run c n k = omega (arith, run_ends c ok n k) in
      rw (of_months n k, run_is c ok n k, months)
