-- `timing::timing_terms_anew`: after i turns the row's front holds the first i terms, and past them what it held.
-- Assumes nothing.
use Rattle.std.proofs.Common.{◌≡◌, take}
use Rattle.measure.specs.Epoch.{shoushi}
use Rattle.rows.specs.Row.{listed, over}
use Rattle.seasons.specs.Terms.{terms, term}
use Rattle.timing.proofs.timing_terms_anew.Given as goal

abbrev pub invariant-loop-i : goal.invariant-loop-i
invariant-loop-i l = l.slot-items ≡ over (listed (term shoushi l.n) 0 l.i) (take terms l.fn.row)
