-- `lists::write_years` meets its contract: before each year the lists of those before it are written. Assumes nothing.
use Prim.Native.Nat.{ℕ, ◌-◌, ◌*◌}
use native.Mathlib.Omega.{arith}
use borrow.Rule.Slice.PartMut.{same_len_mid}
use lib.ListN.{length, length-take, length-drop}
use Rattle.measure.specs.Epoch.{shoushi}
use Rattle.month_law.specs.Calendar.{Calendar}
use Rattle.edition.specs.Edition.{calendar}
use Rattle.edition.proofs.Edition.{shoushi_lawful}
use Rattle.month_law.proofs.Lists.{months_in_most}
use Rattle.lists.specs.Records.{record_width}
use Rattle.months.proofs.Spans.{months_between, head_later}
use Rattle.lists.proofs.RunList.{run_begins, run_room, run_goes_on}
use Rattle.lists.proofs.write_years.Goals as goal

abbrev cal : Calendar
cal = calendar shoushi

pub loop-year-init : goal.loop-year-init
loop-year-init c =
    run_begins cal c.args.n c.args.row.now c.head_span-start.result c.head_span-start.ensures

pub write_year-end-requires : goal.write_year-end-requires
write_year-end-requires c = (
  omega arith,
  c.loop-year.invariant.right,
  simp (length-take, length-drop)
      (omega (arith, run_room cal shoushi_lawful c.loop-year.invariant c.args.count c.loop-year-test.true c.requires.1)),
)

pub overflow_sub-months : goal.overflow_sub-months
overflow_sub-months c =
    head_later cal c.loop-year.year c.loop-year.start c.write_year-end.result c.loop-year.invariant.right c.write_year-end.ensures.value shoushi_lawful

pub overflow_add-months : goal.overflow_add-months
overflow_add-months c =
    omega (
      arith,
      run_room cal shoushi_lawful c.loop-year.invariant c.args.count c.loop-year-test.true c.requires.1,
      months_between cal c.loop-year.year c.loop-year.start c.write_year-end.result c.loop-year.invariant.right c.write_year-end.ensures.value,
      months_in_most cal shoushi_lawful c.loop-year.year,
    )

pub loop-year-preserved : goal.loop-year-preserved
loop-year-preserved c =
    let used = c.loop-year.months * record_width in
    run_goes_on cal shoushi_lawful c.loop-year.invariant c.write_year-end.result c.write_year-end.ensures.value
    (run_room cal shoushi_lawful c.loop-year.invariant c.args.count c.loop-year-test.true c.requires.1)
    c.write_year-end.new.row
    (same_len_mid {X = ℕ} used (length c.loop-year.row - used) c.loop-year.row c.write_year-end.new.row c.write_year-end.auto.row)
    c.write_year-end.ensures.writes
