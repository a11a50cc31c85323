-- `lines::blocks::answer_whole_lines` meets its contract. Assumes nothing.
use mathlib.Core.Path.{◌≡◌}
use mathlib.Core.List.{◌++◌}
use Prim.Native.Nat.{◌+◌, ◌*◌, ◌≤◌}
use lib.ListN.{length, take}
use Rattle.rows.specs.Row.{over}
use Rattle.measure.specs.Epoch.{shoushi}
use Rattle.lines.specs.Line.{output, reply_room}
use Rattle.lines.proofs.blocks.answer_whole_lines.Given as goal

abbrev pub invariant-loop-left : goal.invariant-loop-left
invariant-loop-left l =
    (l.used + reply_room * length l.left ≤ length l.initial.out) × (length l.out ≡ length l.initial.out)
    × (output shoushi l.input ≡ take l.used l.out ++ output shoushi l.left)
    × (l.out ≡ over (take l.used l.out) l.initial.out)

abbrev pub decreases-loop-left : goal.decreases-loop-left
decreases-loop-left l = length l.left
