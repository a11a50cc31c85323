-- `lists::run` meets its contract: what is refused is told as it stands, and what is admitted has its room. Assumes nothing.
use mathlib.Core.Path.{◌≡◌, ◌∙◌, sym, ap}
use Prim.Native.Nat.{◌/◌}
use lib.ListN.{length}
use Rattle.rows.specs.Reply.{answer, answer_said}
use Rattle.rows.proofs.Refused.{handed_on}
use Rattle.measure.specs.Epoch.{shoushi}
use Rattle.edition.specs.Edition.{calendar}
use Rattle.lists.specs.Records.{record_width}
use Rattle.lists.specs.Lists.{months_in_run, run_reply}
use Rattle.lists.proofs.Asked.{Admitted, said_as, run_refused, run_admitted}
use Rattle.lists.proofs.run.Goals as goal
use Rattle.lists.proofs.run.Goals.{In_ok-run_asked}

-- the run has its years and its room
admitted : (c : In_ok-run_asked) →
    Admitted c.args.n c.args.count c.room.result
admitted c =
    run_admitted c.args.n c.args.count c.room.result c.args.count _
    (said_as c.run_asked.result _ c.run_asked.ensures c.in_ok-run_asked.was)

pub write_years-requires : goal.write_years-requires
write_years-requires c =
    let ok = admitted (goal.at.write_years-requires c).In_ok-run_asked in
    (ok.within, rw c.room.ensures at ok.fits)

pub returns-in_err-run_asked : goal.returns-in_err-run_asked
returns-in_err-run_asked c =
    let asked = said_as c.run_asked.result _ c.run_asked.ensures c.in_err-run_asked.was in
    let refusal = rw c.room.ensures at (run_refused c.args.n c.args.count c.room.result shoushi _ c.args.count asked) in
    let told = ap answer_said (handed_on _ c.from_residual.result c.from_residual.ensures.1) in
    record { value = told ∙ refusal; writes = rw (← refusal) }

pub returns : goal.returns
unfolding run_reply
returns c =
    let ok = admitted (goal.at.returns c).In_ok-run_asked in
    let told : run_reply shoushi c.args.n c.args.count (length c.args.row.now / record_width) ≡ answer (months_in_run (calendar shoushi) c.args.n c.args.count) =
    rw c.room.ensures at (ok.answered (answer (months_in_run (calendar shoushi) c.args.n c.args.count))) in
    record { value = ap answer c.write_years.ensures.value ∙ sym told; writes = rw told c.write_years.ensures.writes }
