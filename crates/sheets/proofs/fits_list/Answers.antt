-- `crate::fits_list` meets its contract: all slots passed have what is wanted. Assumes nothing.
use Rattle.std.proofs.Common.{arith, ◌≡◌, ◌∙◌, refl, sym, get_or, true, length, ◌/◌, add-one}
use Rattle.rows.proofs.Choice.{both_pass}
use Rattle.lists.specs.Records.{record_width}
use Rattle.sheets.specs.declared.Wanted.TheVariants.{Nothing}
use Rattle.sheets.specs.Sheet.{slots, has, all_below, value_in}
use Rattle.sheets.proofs.Slots.{all_more, all_fails, had_none, had, had_not, had_clash}
use Rattle.sheets.proofs.fits_list.Goals as goal
use Rattle.sheets.proofs.fits_list.Goals.{in-Nothing, in-Value+else-value_in-value}

pub loop-slot-init : goal.loop-slot-init
unfolding all_below
loop-slot-init c = refl

pub returns-then-value_in-value : goal.returns-then-value_in-value
returns-then-value_in-value c =
    sym
    (all_fails _ c.loop-slot.slot slots (omega arith)
    (had_not _ _ _ c.in-Value.is (λ e. c.if-value_in-value.true (c.value_in.ensures ∙ e))))

pub returns-in-Clash : goal.returns-in-Clash
returns-in-Clash c = sym (all_fails _ c.loop-slot.slot slots (omega arith) (had_clash _ _ c.in-Clash.is))

pub loop-slot-preserved : goal.loop-slot-preserved
loop-slot-preserved c =
    let a = c.args in
    let s = c.loop-slot.slot in
    let here : has (get_or a.wanted.now s Nothing) (value_in a.list.now (length a.list.now / record_width) s) ≡ true =
    elim c.match-want.branch [
      | in-Nothing w ↦ had_none _ _ w.in-Nothing.is
      | in-Value+else-value_in-value w ↦ had _ _ _ w.in-Value.is (sym w.value_in.ensures ∙ w.if-value_in-value.false)
    ] in
    rw (add-one, all_more) (both_pass _ _ c.loop-slot.invariant here)
