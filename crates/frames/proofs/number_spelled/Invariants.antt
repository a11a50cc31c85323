-- `frames::number_spelled` meets its contract. Assumes nothing.
use mathlib.Core.Path.{◌≡◌}
use Prim.Native.Nat.{◌^◌, ◌<◌}
use lib.ListN.{drop}
use Rattle.rows.specs.Reply.{answer}
use Rattle.frames.specs.Digits.{spelled}
use Rattle.frames.proofs.number_spelled.Given as goal

abbrev pub invariant-loop-b : goal.invariant-loop-b
invariant-loop-b l = (spelled (answer 0) l.digits ≡ spelled (answer l.n) (drop l.b-index l.digits)) × (l.n < 16 ^ l.b-index)
