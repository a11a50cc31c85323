-- The lists of the months, read four numbers a record: a run's records are those of its months from the first head on.
-- Assumes nothing.
use mathlib.Core.List.{List, [], ◌∷◌, flat_map, map, map-append}
use mathlib.Core.Path.{◌≡◌, refl, ap, ◌∙◌}
use Prim.Native.Nat.{ℕ, ◌+◌, ◌<◌}
use lib.ListN.{length, set, length-map}
use Rattle.rows.specs.Row.{over}
use Rattle.rows.proofs.Row.{put, length_listed}
use Rattle.month_law.specs.Calendar.{Calendar, head}
use Rattle.month_law.specs.Lawful.{Lawful}
use Rattle.month_law.proofs.Runs.{months_from}
use Rattle.lists.specs.Records.{record_at, record_of}
use Rattle.lists.specs.Lists.{run_of, months_in_run}
use Rattle.lists.proofs.RunLaws.{records_for, one_month_more, run_laid}
use Rattle.records.specs.MonthRecords.{in_records, record_in}
use Rattle.records.specs.declared.MonthRecord.{MonthRecord}

-- the record of month m
abbrev pub month_record : Calendar → ℕ → MonthRecord
month_record c m = record_in (record_of c m)

module _ (c : Calendar) where
  -- the records of k months from month l on
  unfoldable pub structs_from : ℕ → ℕ → List MonthRecord
  structs_from l k = map (month_record c) (months_from l k)

  pub length_structs : (l k : ℕ) → length (structs_from l k) ≡ k
  unfolding structs_from
  length_structs l k = length-map (months_from l k) (month_record c) ∙ length_listed (λ (m : ℕ). m) l k

  -- so a row grows by its next month
  pub put_month_lem : (row : List MonthRecord) (l k : ℕ) → k < length row
      → set (over (structs_from l k) row) k (month_record c (l + k)) ≡ over (structs_from l (k + 1)) row
  unfolding structs_from
  put_month_lem row l k h =
      rw (one_month_more, map-append)
      (put (structs_from l k) row (over (structs_from l k) row) (month_record c (l + k)) k refl (length_structs l k) h)

  in_records_lem : (months : List ℕ) → in_records (records_for c months) ≡ map (month_record c) months
  unfolding flat_map in_records record_in record_of record_at
  in_records_lem [] = refl
  in_records_lem (m ∷ months) = ap (λ (l : List MonthRecord). month_record c m ∷ l) (in_records_lem months)

  -- the records of a run are those of its months
  pub records_of_run : Lawful c → (n k : ℕ) → in_records (run_of c n k) ≡ structs_from (head c n) (months_in_run c n k)
  unfolding structs_from
  records_of_run ok n k = ap in_records (run_laid c ok n k) ∙ in_records_lem (months_from (head c n) (months_in_run c n k))
