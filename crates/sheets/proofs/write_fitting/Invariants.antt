-- What `crate::write_fitting` keeps: before year n the row holds the years below it that fit, and its head is known. Assumes nothing.
use Rattle.std.proofs.Common.{◌≡◌}
use Rattle.measure.specs.Epoch.{shoushi}
use Rattle.month_law.specs.Calendar.{head}
use Rattle.edition.specs.Edition.{calendar}
use Rattle.months.specs.Span.{span_of}
use Rattle.sheets.specs.Sheet.{fits_year}
use Rattle.sheets.proofs.Passing.{Found}
use Rattle.sheets.proofs.write_fitting.Given as goal

abbrev pub invariant-loop-n : goal.invariant-loop-n
invariant-loop-n l =
    (l.start ≡ span_of (calendar shoushi) (head (calendar shoushi) l.n))
    × Found (fits_year (calendar shoushi) l.wanted) l.fn.row l.row l.found l.n
