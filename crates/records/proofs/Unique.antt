-- Each question's contract determines its reply and every record of the row.
-- Assumes nothing.
use mathlib.Core.List.{List}
use mathlib.Core.Path.{◌≡◌, ◌∙◌, sym}
use Prim.Native.Nat.{ℕ}
use lib.ListN.{length}
use Rattle.rows.specs.Reply.{Reply}
use Rattle.measure.specs.Epoch.{shoushi}
use Rattle.std.specs.Prelude.{Result}
use Rattle.rows.specs.declared.Refusal.{Refusal}
use Rattle.rows.proofs.Determined.{OneOutcome, one_answer}
use Rattle.month_law.specs.Calendar.{months_in}
use Rattle.edition.specs.Edition.{calendar}
use Rattle.lists.specs.Records.{records_of}
use Rattle.lists.specs.Lists.{run_of, list_reply, run_reply}
use Rattle.records.specs.declared.MonthRecord.{MonthRecord}
use Rattle.records.proofs.Runs.{Says, YearSays, RunSays}
use Rattle.records.proofs as own

pub year_records_unique : OneOutcome own.year_records.Kinds.ps own.year_records.Kinds.r own.year_records.Reads.Post (λ κs s. s.1.0.now)
year_records_unique κs a x y s t p q = (one_answer x y _ p.0 q.0, p.1 ∙ sym q.1)

pub run_records_unique : OneOutcome own.run_records.Kinds.ps own.run_records.Kinds.r own.run_records.Reads.Post (λ κs s. s.1.1.0.now)
run_records_unique κs a x y s t p q = (one_answer x y _ p.0 q.0, p.1 ∙ sym q.1)

-- the same of what the two say, by plain lists
one_outcome : (reply : Reply ℕ) (numbers : List ℕ) (row : List MonthRecord) (x y : Result ℕ Refusal) (s t : List MonthRecord)
    → Says reply numbers row x s
    → Says reply numbers row y t
    → (x ≡ y) × (s ≡ t)
one_outcome reply numbers row x y s t p q = (one_answer x y reply p.0 q.0, p.1 ∙ sym q.1)

pub year_says_one : (n : ℕ) (row : List MonthRecord) (x y : Result ℕ Refusal) (s t : List MonthRecord)
    → YearSays n row x s
    → YearSays n row y t
    → (x ≡ y) × (s ≡ t)
year_says_one n row = one_outcome (list_reply shoushi n (length row)) (records_of (calendar shoushi) n (months_in (calendar shoushi) n)) row

pub run_says_one : (n count : ℕ) (row : List MonthRecord) (x y : Result ℕ Refusal) (s t : List MonthRecord)
    → RunSays n count row x s
    → RunSays n count row y t
    → (x ≡ y) × (s ≡ t)
run_says_one n count row = one_outcome (run_reply shoushi n count (length row)) (run_of (calendar shoushi) n count) row
