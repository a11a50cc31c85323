-- What a run's reply says of its row of structs.
-- Assumes nothing.
use mathlib.Core.List.{List}
use mathlib.Core.Path.{◌≡◌, ◌∙◌, sym, ap}
use Prim.Native.Nat.{ℕ, ◌+◌, ◌-◌, ◌≤◌, ◌<◌}
use native.Mathlib.Omega.{arith}
use lib.ListN.{length}
use Rattle.rows.specs.Reply.{Reply, answer, answer_said}
use Rattle.rows.specs.Row.{row_after}
use Rattle.measure.specs.Epoch.{shoushi}
use Rattle.std.specs.Prelude.{Result}
use Rattle.rows.specs.declared.Refusal.{Refusal}
use Rattle.moons.specs.Lunation.{last_lunation}
use Rattle.month_law.specs.Calendar.{Calendar, head, months_in}
use Rattle.edition.specs.Edition.{calendar}
use Rattle.edition.proofs.Edition.{shoushi_lawful}
use Rattle.lists.specs.Records.{records_of}
use Rattle.lists.specs.Lists.{run_of, months_in_run, list_reply, run_reply}
use Rattle.months.proofs.Reach.{head_most}
use Rattle.lists.proofs.RunLaws.{run_ends, months_run_most}
use Rattle.lists.proofs.Asked.{Admitted, run_answered}
use Rattle.records.specs.MonthRecords.{in_records}
use Rattle.records.specs.declared.MonthRecord.{MonthRecord}
use Rattle.records.proofs.Structs.{structs_from, records_of_run}

abbrev cal : Calendar
cal = calendar shoushi

-- what the two questions say of their reply and of a row at entry and at exit
abbrev pub Says : Reply ℕ → List ℕ → List MonthRecord → Result ℕ Refusal → List MonthRecord → Type 0
Says reply numbers row r end = (answer_said r ≡ reply) × (end ≡ row_after reply (in_records numbers) row)

abbrev pub YearSays : ℕ → List MonthRecord → Result ℕ Refusal → List MonthRecord → Type 0
YearSays n row = Says (list_reply shoushi n (length row)) (records_of cal n (months_in cal n)) row

abbrev pub RunSays : ℕ → ℕ → List MonthRecord → Result ℕ Refusal → List MonthRecord → Type 0
RunSays n k row = Says (run_reply shoushi n k (length row)) (run_of cal n k) row

-- so many months from `start` on are the run's: they have room in the row, and are counted ones
pub record Planned (n k room start months : ℕ) : Type 0 where
  pub within : months ≤ room
  pub counted : (i : ℕ) → i < months → start + i ≤ last_lunation
  pub told : run_reply shoushi n k room ≡ answer months
  pub laid : structs_from cal start months ≡ in_records (run_of cal n k)

pub planned : (n k room start end : ℕ) → Admitted n k room → start ≡ head cal n → end ≡ head cal (n + k)
    → Planned n k room start (end - start)
planned n k room start end ok s e =
    let all : end - start ≡ months_in_run cal n k = omega (arith, s, e, run_ends cal shoushi_lawful n k) in
    record {
      within = omega (arith, all, ok.fits, months_run_most cal shoushi_lawful n k);
      counted = λ i l. omega (arith, e, head_most (n + k) ok.within);
      told = run_answered shoushi n k room ok ∙ ap answer (sym all);
      laid = (λ i. structs_from cal (s i) (all i)) ∙ sym (records_of_run cal shoushi_lawful n k);
    }
