-- `seasons::write_terms`: after i turns the row's front holds the first i terms, and past them what it held; and what is carried is term i.
-- Assumes nothing.
use Rattle.std.proofs.Common.{◌≡◌, take}
use Rattle.measure.specs.Epoch.{shoushi}
use Rattle.rows.specs.Row.{listed, over}
use Rattle.seasons.specs.Terms.{terms, term}
use Rattle.seasons.proofs.write_terms.Given as goal

abbrev pub invariant-loop-slot : goal.invariant-loop-slot
invariant-loop-slot l =
    (l.slot-items ≡ over (listed (term shoushi l.n) 0 l.slot-index) (take terms l.fn.row))
    × (l.carried ≡ term shoushi l.n l.slot-index)
