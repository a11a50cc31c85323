-- `Begun::turn` meets its contract: what is kept is what the block leaves. Assumes nothing.
use Rattle.std.proofs.Common.{◌∙◌, refl}
use Rattle.month_lines.proofs.ReadLaws.{turn_left, turn_most, turn_unfinished}
use Rattle.month_lines.proofs.Begun.turn.Goals as goal

pub invariant_of-self-2 : goal.invariant_of-self-2
invariant_of-self-2 g c =
    let read = c.answer_read-read in
    let begun = c.read_more.ensures.buf_unchanged ∙ c.self.view_is in
    let left = turn_left _ _ _ _ _ _ _ _ _ c.turn_after-after.ensures refl begun read.ensures.value read.ensures.buf_after in
    rw c.unwrap_or-self-inside.ensures
    (turn_most _ _ _ _ _ c.turn_after-after.ensures read.ensures.value, turn_unfinished _ _ _ left)

pub returns : goal.returns
returns g c =
    let read = c.answer_read-read in
    let begun = c.read_more.ensures.buf_unchanged ∙ c.self.view_is in
    rw (c.unwrap_or-self-inside.ensures, c.is_some.ensures)
    (turn_left _ _ _ _ _ _ _ _ _ c.turn_after-after.ensures refl begun read.ensures.value read.ensures.buf_after)
