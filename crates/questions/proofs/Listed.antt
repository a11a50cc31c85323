-- How long the lists are that can be asked for: the terms of a year, its months, those of a run of years, and the years of a sheet.
-- Assumes nothing.
use mathlib.Core.List.{List}
use mathlib.Core.Path.{◌≡◌}
use Prim.Native.Nat.{ℕ, suc}
use native.Mathlib.Omega.{arith}
use Rattle.rows.specs.Reply.{Reply, refused}
use Rattle.measure.specs.Units.{last_year}
use Rattle.measure.specs.Epoch.{shoushi}
use Rattle.seasons.specs.Terms.{terms, term_list, terms_reply}
use Rattle.seasons.proofs.TermLaws.{terms_cases, terms_length}
use Rattle.month_law.specs.Calendar.{Calendar, months_in}
use Rattle.month_law.proofs.Lists.{months_in_most}
use Rattle.edition.specs.Edition.{calendar}
use Rattle.edition.proofs.Edition.{shoushi_lawful}
use Rattle.lists.specs.Records.{record_width, year_room, records_of}
use Rattle.lists.specs.Lists.{run_of, months_in_run, list_reply, run_reply}
use Rattle.lists.proofs.RecordLaws.{length_records}
use Rattle.lists.proofs.RunLaws.{length_run, months_run_most}
use Rattle.lists.proofs.Asked.{run_cases, list_cases}
use Rattle.sheets.specs.Sheet.{fitting, fitting_reply}
use Rattle.sheets.specs.declared.Sheet.{Sheet}
use Rattle.sheets.proofs.OnSheet.{years_counted, years_most}
use Rattle.questions.specs.DeskReply.{most_records}
use Rattle.questions.proofs.Answered.{Long}

abbrev c : Calendar
c = calendar shoushi

-- of a refusal there is no list
none : (w most j : ℕ) (list : List ℕ) → Long w most (refused j) list
none w most j list k e = let no : ◌≡◌ {A = ℕ} 0 1 = cc in absurd (omega arith)

pub terms_long : (n room : ℕ) → Long 1 terms (terms_reply n room) (term_list shoushi n)
terms_long n room =
    terms_cases (λ (r : Reply ℕ). Long 1 terms r (term_list shoushi n)) n room (none 1 terms _ (term_list shoushi n)) (none 1 terms _ (term_list shoushi n))
    λ k e. let told : terms ≡ k = cc in (omega (arith, terms_length shoushi n), omega arith)

pub year_long : (n room : ℕ) → Long record_width year_room (list_reply shoushi n room) (records_of c n (months_in c n))
year_long n room =
    list_cases (λ (r : Reply ℕ). Long record_width year_room r (records_of c n (months_in c n))) shoushi n room (none record_width year_room _ (records_of c n (months_in c n))) (none record_width year_room _ (records_of c n (months_in c n)))
    λ _ _ k e.
    let told : months_in c n ≡ k = cc in
    (omega (arith, length_records c n (months_in c n)), omega (arith, months_in_most c shoushi_lawful n))

pub run_long : (n y room : ℕ) → Long record_width most_records (run_reply shoushi n y room) (run_of c n y)
run_long n y room =
    run_cases (λ (r : Reply ℕ). Long record_width most_records r (run_of c n y)) shoushi n room (none record_width most_records _ (run_of c n y)) (none record_width most_records _ (run_of c n y)) y
    λ within _ k e.
    let told : months_in_run c n y ≡ k = cc in
    (omega (arith, length_run c n y), omega (arith, months_run_most c shoushi_lawful n y))

pub sheet_long : (s : Sheet) (room : ℕ) → Long 1 (suc last_year) (fitting_reply shoushi s room) (fitting shoushi s)
sheet_long s room k e = (omega (arith, years_counted s room k e), years_most s room k e)
