-- `lists::record_of` meets its contract: the last middle term before the month's end tells its kind. Assumes nothing.
use native.Mathlib.Omega.{arith}
use Rattle.measure.specs.Epoch.{shoushi}
use Rattle.month_law.specs.Calendar.{Calendar}
use Rattle.edition.specs.Edition.{calendar}
use Rattle.edition.proofs.Edition.{shoushi_lawful}
use Rattle.months.specs.Kind.{kind_said}
use Rattle.months.proofs.Reach.{end_small, term_small}
use Rattle.months.proofs.Spans.{term_come}
use Rattle.lists.proofs.RecordLaws.{span_told}
use Rattle.lists.proofs.year_rows.record_of.Goals as goal

abbrev cal : Calendar
cal = calendar shoushi

pub last_term-requires : goal.last_term-requires
last_term-requires c =
    omega (arith, term_come cal c.args.span c.args.span.lunation c.requires.0 shoushi_lawful, end_small c.args.span c.args.span.lunation c.requires.0 c.requires.1)

pub kind_by-kind-requires : goal.kind_by-kind-requires
kind_by-kind-requires c =
    omega (
      arith,
      term_small c.args.span.next c.last_term.result (end_small c.args.span c.args.span.lunation c.requires.0 c.requires.1) c.last_term.ensures,
    )

pub returns : goal.returns
returns c =
    span_told cal shoushi_lawful c.args.span c.last_term.result c.month_number.result c.leap_mark.result (kind_said c.kind_by-kind.result) c.requires.0
    c.last_term.ensures c.kind_by-kind.ensures c.month_number.ensures c.leap_mark.ensures
