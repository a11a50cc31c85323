-- After i turns the row's front holds the run's first i records, and past them what it held. Assumes nothing.
use Rattle.std.proofs.Common.{◌≡◌, take}
use Rattle.rows.specs.Row.{over}
use Rattle.measure.specs.Epoch.{shoushi}
use Rattle.edition.specs.Edition.{calendar}
use Rattle.records.proofs.Structs.{structs_from}
use Rattle.records.proofs.run_records.Given as goal

abbrev pub invariant-loop-i : goal.invariant-loop-i
invariant-loop-i l = l.slot-items ≡ over (structs_from (calendar shoushi) l.start l.i) (take l.months l.fn.row)
