-- `crate::write_fitting` meets its contract: before year n the row holds the years below it that fit, and what is read of a year's list is
-- what the year has. Assumes nothing.
use Rattle.std.proofs.Common.{arith, ◌≡◌, ◌∙◌, ap, sym, ℕ, ◌-◌, ◌*◌, ◌≤◌, length, add-one}
use lib.Seq.{length-take-le}
use Rattle.measure.specs.Epoch.{shoushi}
use Rattle.month_law.specs.Calendar.{Calendar, head, months_in}
use Rattle.month_law.proofs.Lists.{months_in_most}
use Rattle.edition.specs.Edition.{calendar}
use Rattle.edition.proofs.Edition.{shoushi_lawful}
use Rattle.months.specs.Span.{span_of}
use Rattle.months.proofs.Spans.{months_between, head_later}
use Rattle.lists.specs.Records.{record_width}
use Rattle.sheets.specs.Sheet.{fits_year}
use Rattle.sheets.proofs.Passing.{found_none, found_yes, found_no}
use Rattle.sheets.proofs.Read.{fits_taken}
use Rattle.sheets.proofs.write_fitting.Goals as goal
use Rattle.sheets.proofs.write_fitting.Goals.{After-write_year-end, then-fits_list, else-fits_list}

abbrev cal : Calendar
cal = calendar shoushi

-- a year has as many months as lie between its head and the next
counted : (c : After-write_year-end) → c.write_year-end.result.lunation - c.loop-n.start.lunation ≡ months_in cal c.loop-n.n
counted c = months_between cal _ _ _ c.loop-n.invariant.0 c.write_year-end.ensures.value

pub loop-n-init : goal.loop-n-init
loop-n-init c = (c.head_span-start.ensures, found_none (fits_year cal c.args.wanted.now) c.args.row.now)

pub overflow_sub-months : goal.overflow_sub-months
overflow_sub-months c = head_later cal _ _ _ c.loop-n.invariant.0 c.write_year-end.ensures.value shoushi_lawful

-- so its list has room
room : (c : After-write_year-end) → record_width * (c.write_year-end.result.lunation - c.loop-n.start.lunation) ≤ length c.write_year-end.new.row
room c =
    omega (arith, counted c, months_in_most cal shoushi_lawful c.loop-n.n, c.write_year-end.auto.row, c.loop-n-test.array_long)

pub overflow_mul-list : goal.overflow_mul-list
overflow_mul-list c =
    omega (arith, counted (goal.at.overflow_mul-list c).After-write_year-end, months_in_most cal shoushi_lawful c.loop-n.n)

pub slice_bounds-list-end : goal.slice_bounds-list-end
slice_bounds-list-end c = room (goal.at.slice_bounds-list-end c).After-write_year-end

pub slice_bounds-fits_list-end : goal.slice_bounds-fits_list-end
slice_bounds-fits_list-end c =
    sym (length-take-le _ c.write_year-end.new.row (room (goal.at.slice_bounds-fits_list-end c).After-write_year-end))

pub loop-n-preserved : goal.loop-n-preserved
loop-n-preserved c =
    let test = fits_year cal c.args.wanted.now in
    let n = c.loop-n.n in
    let inv = c.loop-n.invariant.1 in
    let fits : c.fits_list.result ≡ test n =
    c.fits_list.ensures
    ∙ fits_taken cal n _ _ c.write_year-end.ensures.writes _ (counted (goal.at.loop-n-preserved c).After-write_year-end) _ in (
      c.write_year-end.ensures.value ∙ ap (λ (m : ℕ). span_of cal (head cal m)) (sym (add-one n)),
      elim c.if-fits_list.branch [
        | then-fits_list w ↦ rw (w.row-is, w.found-is, add-one n) (found_yes test _ _ _ n inv (sym fits ∙ w.if-fits_list.true) (omega arith))
        | else-fits_list w ↦ rw (w.row-is, w.found-is, add-one n) (found_no test _ _ _ n inv (sym fits ∙ w.if-fits_list.false))
      ],
    )
