-- `lists::write_years` meets its contract: before each year the lists of those before it are written. Assumes nothing.
use Rattle.measure.specs.Epoch.{shoushi}
use Rattle.edition.specs.Edition.{calendar}
use Rattle.lists.proofs.RunList.{Running}
use Rattle.lists.proofs.write_years.Given as goal

abbrev pub invariant-loop-year : goal.invariant-loop-year
invariant-loop-year l = Running (calendar shoushi) l.n l.year l.initial.row l.row l.start l.months
