-- `lists::write_year` meets its contract: after each turn the months before the span's are listed.
-- Assumes nothing.
use mathlib.Core.List.{List}
use mathlib.Core.Path.{◌≡◌}
use Prim.Native.Nat.{ℕ, suc, ◌+◌, ◌-◌, ◌*◌, ◌/◌, ◌≤◌, ◌<◌}
use native.Mathlib.Omega.{arith}
use borrow.Rule.Slice.PartMut.{same_len_mid}
use lib.ListN.{length, length-take, length-drop}
use Rattle.measure.specs.Units.{last_year}
use Rattle.measure.specs.Epoch.{shoushi}
use Rattle.moons.specs.Lunation.{last_lunation}
use Rattle.month_law.specs.Calendar.{Calendar, head}
use Rattle.edition.specs.Edition.{calendar}
use Rattle.edition.proofs.Edition.{shoushi_lawful}
use Rattle.lists.specs.Records.{record_width, year_room}
use Rattle.months.specs.declared.Span.{Span}
use Rattle.months.proofs.Spans.{lunation_is, over_by, not_over}
use Rattle.months.proofs.Reach.{head_most}
use Rattle.lists.proofs.YearList.{Listing, begins, has_room, goes_on, ends}
use Rattle.lists.proofs.year_rows.write_year.Goals as goal

abbrev cal : Calendar
cal = calendar shoushi

-- what each turn needs: the month is of the list, and the row has room for it
module _ {n : ℕ} {row₀ row : List ℕ} {span : Span} {used solstice : ℕ} (at : Listing cal n row₀ row span used)
    (s : solstice ≡ cal.mid (12 * (n + 1))) (test : span.next ≤ solstice) where
  in_list : span.lunation < head cal (suc n)
  in_list = over_by cal span span.lunation at.right shoushi_lawful n solstice s test

  counted : n ≤ last_year → span.lunation ≤ last_lunation
  counted h = omega (arith, in_list, head_most (suc n) (omega arith))

  fits : year_room ≤ length row₀ / record_width → used + record_width ≤ length row
  fits room = has_room cal shoushi_lawful n row₀ row span used at in_list room

pub loop-span-init : goal.loop-span-init
loop-span-init c =
    begins cal shoushi_lawful c.args.n c.args.row.now c.args.start c.requires.1

pub put_span-requires : goal.put_span-requires
put_span-requires c =
    let test : c.loop-span.span.next ≤ c.middle_day-solstice.result = omega arith in (
      c.loop-span.invariant.right,
      counted c.loop-span.invariant c.middle_day-solstice.ensures test c.requires.0,
      simp (length-take, length-drop) (omega (arith, fits c.loop-span.invariant c.middle_day-solstice.ensures test c.requires.2)),
    )

pub span_after-span-requires : goal.span_after-span-requires
span_after-span-requires c =
    (c.loop-span.invariant.right, counted c.loop-span.invariant c.middle_day-solstice.ensures (omega arith) c.requires.0)

pub loop-span-smaller : goal.loop-span-smaller
loop-span-smaller c =
    omega (
      arith,
      in_list c.loop-span.invariant c.middle_day-solstice.ensures (omega arith),
      lunation_is cal c.span_after-span.result (suc c.loop-span.span.lunation) c.span_after-span.ensures,
    )

pub loop-span-preserved : goal.loop-span-preserved
loop-span-preserved c =
    let test : c.loop-span.span.next ≤ c.middle_day-solstice.result = omega arith in
    goes_on cal shoushi_lawful c.args.n c.args.row.now c.loop-span.row c.loop-span.span c.loop-span.used c.loop-span.invariant
    (in_list c.loop-span.invariant c.middle_day-solstice.ensures test) (fits c.loop-span.invariant c.middle_day-solstice.ensures test c.requires.2) c.put_span.new.row
    (same_len_mid {X = ℕ} c.loop-span.used (length c.loop-span.row - c.loop-span.used) c.loop-span.row c.put_span.new.row c.put_span.auto.row) c.put_span.ensures
    c.span_after-span.result c.span_after-span.ensures

pub returns : goal.returns
returns c =
    let told = ends cal shoushi_lawful c.args.n c.args.row.now c.loop-span.row c.loop-span.span c.loop-span.used c.loop-span.invariant
    (not_over cal c.loop-span.span c.loop-span.span.lunation c.loop-span.invariant.right shoushi_lawful c.args.n c.middle_day-solstice.result c.middle_day-solstice.ensures
    (omega arith)) in record { value = told.0; writes = told.1 }
