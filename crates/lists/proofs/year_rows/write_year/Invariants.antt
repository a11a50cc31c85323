-- `lists::write_year` meets its contract: after each turn the months before the span's are listed.
-- Assumes nothing.
use Prim.Native.Nat.{suc, ◌-◌}
use Rattle.measure.specs.Epoch.{shoushi}
use Rattle.month_law.specs.Calendar.{Calendar, head}
use Rattle.edition.specs.Edition.{calendar}
use Rattle.lists.proofs.YearList.{Listing}
use Rattle.lists.proofs.year_rows.write_year.Given as goal

abbrev cal : Calendar
cal = calendar shoushi

abbrev pub invariant-loop-span : goal.invariant-loop-span
invariant-loop-span l = Listing cal l.n l.initial.row l.row l.span l.used

abbrev pub decreases-loop-span : goal.decreases-loop-span
decreases-loop-span l = head cal (suc l.n) - l.span.lunation
