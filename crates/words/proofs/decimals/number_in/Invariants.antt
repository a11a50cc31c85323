-- The bytes passed are digits, and `v` is what they write. Assumes nothing.
use Rattle.std.proofs.Common.{◌≡◌, true, ◌^◌, ◌<◌}
use Rattle.words.specs.Number.{digits, value}
use Rattle.words.proofs.decimals.number_in.Given as goal

abbrev pub invariant-loop-b : goal.invariant-loop-b
invariant-loop-b l = (digits l.s l.b-index ≡ true) × (value l.s l.b-index ≡ l.v) × (l.v < 2 ^ 64)
