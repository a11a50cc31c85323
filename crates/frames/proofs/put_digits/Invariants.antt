-- `frames::put_digits` meets its contract. Assumes nothing.
use mathlib.Core.Path.{◌≡◌}
use lib.ListN.{length}
use Rattle.rows.specs.Row.{over}
use Rattle.frames.specs.Digits.{digits_of}
use Rattle.frames.proofs.put_digits.Given as goal

-- the digits still to be written, over the row as it is, make the whole
abbrev pub invariant-loop-i : goal.invariant-loop-i
invariant-loop-i l = (length l.out ≡ length l.initial.out) × (over (digits_of l.i l.high) l.out ≡ digits_of (length l.initial.out) l.n)
