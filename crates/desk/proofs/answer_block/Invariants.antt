-- Byte by byte, what is kept of a line is what its definition says. Assumes nothing.
use Rattle.std.proofs.Common.{◌≡◌, length, take}
use Rattle.desk.specs.Input.{line_room, kept_after}
use Rattle.desk.proofs.answer_block.Given as goal

abbrev pub invariant-loop-b : goal.invariant-loop-b
invariant-loop-b g l = (length l.buf ≡ length l.fn.buf) × (l.line ≡ kept_after line_room l.fn.line (take l.b-index l.block))
