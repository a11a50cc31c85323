-- `marks::sheet_in` meets its contract. Assumes nothing.
use Rattle.std.proofs.Common.{rules}
use mathlib.Core.Path.{◌∙◌, sym}
use Rattle.questions.proofs.MarkLaws.{all_read, not_read}
use Rattle.questions.proofs.marks.sheet_in.Goals as goal

pub returns-in_err-mark_in : goal.returns-in_err-mark_in
returns-in_err-mark_in c =
    c.from_residual.ensures ∙ not_read _ _ _ c.loop-left.invariant (search rules) (sym c.mark_in.ensures ∙ c.in_err-mark_in.was)

pub returns : goal.returns
returns c = all_read _ _ _ c.loop-left.invariant (search rules)
