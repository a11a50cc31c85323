-- The row holds what of the text is written, and the rest is that of the template and the numbers left. Assumes nothing.
use Rattle.std.proofs.Common.{◌≡◌, ◌+◌, ◌-◌, ◌*◌, ◌≤◌, ◌++◌, length, take, drop}
use Rattle.std.specs.Slice.Iter.{iter_rest}
use Rattle.rows.specs.Row.{over}
use Rattle.texts.specs.Text.{filled, most_digits}
use Rattle.texts.proofs.fill.Given as goal

abbrev pub invariant-loop-b : goal.invariant-loop-b
invariant-loop-b l =
    (l.used + most_digits * (length l.template - l.b-index) ≤ length l.fn.row)
    × (filled l.template l.numbers ≡ take l.used l.row ++ filled (drop l.b-index l.template) (iter_rest l.left))
    × (l.row ≡ over (take l.used l.row) l.fn.row)
