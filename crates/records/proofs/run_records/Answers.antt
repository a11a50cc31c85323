-- `records::run_records` meets its contract: what is refused is told as it stands, and the months between the two heads have room in the row
-- and are the run's.
-- Assumes nothing.
use mathlib.Core.Path.{◌≡◌, ◌∙◌, refl, sym, ap}
use Prim.Native.Nat.{ℕ, ◌-◌}
use native.Mathlib.Omega.{arith}
use lib.ListN.{length, take}
use lib.Seq.{length-take-le}
use Rattle.rows.specs.Reply.{answer_said}
use Rattle.rows.specs.Row.{listed, over, row_after}
use Rattle.rows.proofs.Refused.{handed_on}
use Rattle.rows.proofs.Row.{front_over}
use Rattle.measure.specs.Epoch.{shoushi}
use Rattle.month_law.specs.Calendar.{Calendar}
use Rattle.edition.specs.Edition.{calendar}
use Rattle.edition.proofs.Edition.{shoushi_lawful}
use Rattle.lists.proofs.RunLaws.{run_ends}
use Rattle.lists.proofs.Asked.{Admitted, said_as, run_refused, run_admitted}
use Rattle.records.proofs.Structs.{structs_from, length_structs, put_month_lem}
use Rattle.records.proofs.Runs.{Planned, planned}
use Rattle.records.proofs.run_records.Goals as goal
use Rattle.records.proofs.run_records.Goals.{In_ok-run_asked, After-head_of}

abbrev cal : Calendar
cal = calendar shoushi

-- the run has its years and its room
admitted : (c : In_ok-run_asked) → Admitted c.args.n c.args.count (length c.args.row.now)
admitted c =
    run_admitted c.args.n c.args.count (length c.args.row.now) c.args.count _
    (said_as c.run_asked.result _ c.run_asked.ensures c.in_ok-run_asked.was)

-- its months lie between its head and the one after them
plan : (c : After-head_of) → Admitted c.args.n c.args.count (length c.args.row.now)
    → Planned c.args.n c.args.count (length c.args.row.now) c.head_of-start.result (c.head_of.result - c.head_of-start.result)
plan c ok =
    planned c.args.n c.args.count (length c.args.row.now) c.head_of-start.result c.head_of.result ok c.head_of-start.ensures c.head_of.ensures

-- and fill the row's front
front : (c : After-head_of) → Admitted c.args.n c.args.count (length c.args.row.now)
    → length (take (c.head_of.result - c.head_of-start.result) c.args.row.now) ≡ c.head_of.result - c.head_of-start.result
front c ok = length-take-le (c.head_of.result - c.head_of-start.result) c.args.row.now (plan c ok).within

pub returns-in_err-run_asked : goal.returns-in_err-run_asked
returns-in_err-run_asked c =
    let asked = said_as c.run_asked.result _ c.run_asked.ensures c.in_err-run_asked.was in
    let refusal = run_refused c.args.n c.args.count (length c.args.row.now) shoushi _ c.args.count asked in
    (ap answer_said (handed_on _ c.from_residual.result c.from_residual.ensures.1) ∙ refusal, rw (← refusal))

pub head_of-start-requires : goal.head_of-start-requires
head_of-start-requires c = omega (arith, (admitted (goal.at.head_of-start-requires c).In_ok-run_asked).within)

pub overflow_add-n : goal.overflow_add-n
overflow_add-n c = omega (arith, (admitted (goal.at.overflow_add-n c).In_ok-run_asked).within)

pub head_of-requires : goal.head_of-requires
head_of-requires c = (admitted (goal.at.head_of-requires c).In_ok-run_asked).within

pub overflow_sub-months : goal.overflow_sub-months
overflow_sub-months c =
    omega (arith, c.head_of-start.ensures, c.head_of.ensures, run_ends cal shoushi_lawful c.args.n c.args.count)

pub slice_bounds-slot-items-end : goal.slice_bounds-slot-items-end
slice_bounds-slot-items-end c =
    let at = goal.at.slice_bounds-slot-items-end c in
    (plan at.After-head_of (admitted at.In_ok-run_asked)).within

pub slice_bounds-slot-items-end-2 : goal.slice_bounds-slot-items-end-2
slice_bounds-slot-items-end-2 c =
    let at = goal.at.slice_bounds-slot-items-end-2 c in
    sym (front at.After-head_of (admitted at.In_ok-run_asked))

pub loop-i-init : goal.loop-i-init
unfolding structs_from listed over
loop-i-init c = refl

pub record_of-requires : goal.record_of-requires
record_of-requires c =
    let at = goal.at.record_of-requires c in
    let ok = admitted at.In_ok-run_asked in
    omega (arith, (plan at.After-head_of ok).counted c.loop-i.i (omega (arith, front at.After-head_of ok)))

pub loop-i-preserved : goal.loop-i-preserved
loop-i-preserved c =
    rw (c.loop-i.invariant, c.record_of.ensures)
    (put_month_lem cal (take (c.head_of.result - c.head_of-start.result) c.args.row.now) c.head_of-start.result c.loop-i.i c.loop-i-test.true)

pub returns : goal.returns
returns c =
    let at = goal.at.returns c in
    let ok = admitted at.In_ok-run_asked in
    let p = plan at.After-head_of ok in
    let start = c.head_of-start.result in
    let months = c.head_of.result - start in
    let row = c.args.row.now in
    let all : c.loop-i.i ≡ months = omega (arith, front at.After-head_of ok) in
    let filled = c.loop-i.invariant ∙ ap (λ (i : ℕ). over (structs_from cal start i) (take months row)) all in (
      sym p.told,
      front_over (structs_from cal start months) row c.loop-i.slot-items months filled (length_structs cal start months) p.within
          ∙ (λ i. row_after (sym p.told i) (p.laid i) row),
    )
