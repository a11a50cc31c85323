-- `record_bytes::put_numbers`: after i turns the row holds the bytes of the first i numbers, and past them what it held.
-- Assumes nothing.
use Rattle.std.proofs.Common.{◌≡◌, take}
use Rattle.rows.specs.Row.{over}
use Rattle.viewer.specs.Bytes.{low_first_bytes}
use Rattle.viewer.proofs.record_bytes.put_numbers.Given as goal

abbrev pub invariant-loop-i : goal.invariant-loop-i
invariant-loop-i l = l.row ≡ over (low_first_bytes (take l.i l.numbers)) l.initial.row
