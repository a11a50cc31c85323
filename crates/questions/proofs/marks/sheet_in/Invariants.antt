-- The sheet has the marks of what was read, and all marks of the text are these and then those of what is left. The measure is what is
-- left. Assumes nothing.
use lib.ListN.{length}
use Rattle.questions.proofs.MarkLaws.{ReadTo}
use Rattle.questions.proofs.marks.sheet_in.Given as goal

abbrev pub invariant-loop-left : goal.invariant-loop-left
invariant-loop-left l = ReadTo l.text l.left l.sheet

abbrev pub decreases-loop-left : goal.decreases-loop-left
decreases-loop-left l = length l.left
