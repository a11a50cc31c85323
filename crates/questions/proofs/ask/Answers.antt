-- `questions::ask` meets its contract. Assumes nothing.
use mathlib.Core.Bool.{true}
use mathlib.Core.Path.{◌≡◌, ◌∙◌, sym}
use native.Mathlib.Omega.{arith}
use lib.ListN.{length}
use borrow.Author.Tests.{le-ltb}
use Rattle.measure.specs.Epoch.{shoushi}
use Rattle.words.specs.Ascii.{bytes_of}
use Rattle.words.specs.Line.{word_of}
use Rattle.words.specs.Text.{◌is◌}
use Rattle.words.proofs.Same.{alike}
use Rattle.questions.specs.MarkWords.{marks_in}
use Rattle.questions.specs.Question.{on_marks, longest, reply_to}
use Rattle.questions.proofs.Answered.{answers_as}
use Rattle.questions.proofs.ask.Goals as goal

pub returns-in-Ok-sheet : goal.returns-in-Ok-sheet
unfolding reply_to
returns-in-Ok-sheet c =
    let sheet : (word_of c.args.line.now is "sheet") ≡ true =
    alike (word_of c.args.line.now) (bytes_of "sheet") (sym c.word_in.ensures ∙ sym c.in-Ok-sheet.ensures.cases.0 ∙ c.in-Ok-sheet.is-sheet) in
    let told : on_marks shoushi (length c.args.row.now) (marks_in c.after_word-rest.result.now)
    ≡ reply_to shoushi (length c.args.row.now) c.args.line.now =
    simp (le-ltb longest (length c.args.line.now) (omega arith), sheet, c.after_word-rest.ensures) in
    answers_as told c.on_marks.ensures
