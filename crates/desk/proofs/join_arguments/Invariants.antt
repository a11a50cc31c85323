-- Each argument before the loop's own is joined. Assumes nothing.
use Rattle.std.proofs.Common.{◌≡◌, suc}
use Rattle.desk.proofs.join_arguments.Given as goal

abbrev pub invariant-loop-i : goal.invariant-loop-i
invariant-loop-i g l = suc l.asked.arguments ≡ l.i
