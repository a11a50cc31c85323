-- What `crate::marked` keeps: the first marks are on the sheet. Assumes nothing.
use Rattle.std.proofs.Common.{◌≡◌, take}
use Rattle.sheets.specs.Sheet.{with_marks}
use Rattle.sheets.proofs.marked.Given as goal

abbrev pub invariant-loop-mark : goal.invariant-loop-mark
invariant-loop-mark l = l.sheet ≡ with_marks l.fn.sheet (take l.mark-index l.marks)
