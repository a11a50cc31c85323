-- `questions::marks::on_marks` meets its contract. Assumes nothing.
use lib.ListN.{length}
use Rattle.questions.proofs.Answered.{answers_as, sheet_answers}
use Rattle.questions.proofs.Listed.{sheet_long}
use Rattle.questions.proofs.SheetLaws.{whole_sheet}
use Rattle.questions.proofs.marks.on_marks.Goals as goal

pub returns-in-Some : goal.returns-in-Some
returns-in-Some c =
    answers_as (whole_sheet c.args.text.now (length c.args.row.now) c.in-Some.sheet (c.in-Some.ensures))
    (sheet_answers _ _ _ _ _ c.years_for.ensures.0 c.years_for.ensures.1 (sheet_long c.in-Some.sheet (length c.args.row.now)))
