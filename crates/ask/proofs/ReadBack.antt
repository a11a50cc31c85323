-- What is told says the whole reply: no refusal has the number 0, so none can be taken for an answer. And a row with room for the records of
-- all years is never refused.
-- Assumes nothing.
use Rattle.std.specs.Prelude.{if◌then◌else◌}
use mathlib.Core.Bool.{Bool, true, false}
use mathlib.Core.List.{List}
use mathlib.Core.Path.{◌≡◌, refl, ap}
use Prim.Native.Nat.{ℕ, ◌≤◌}
use lib.ListN.{length}
use Rattle.rows.specs.Choice.{◌<?◌, ◌=?◌}
use Rattle.rows.specs.Reply.{Reply, answer, refused, short_row, refuse_if}
use Rattle.measure.specs.Epoch.{shoushi}
use Rattle.questions.specs.Question.{reply_to}
use Rattle.replies.specs.ListText.{years_room}
use Rattle.replies.specs.ReplyText.{reply_text, room_of}
use Rattle.ask.specs.AnswerText.{most_numbers, reply_reply, answer_text, answer_reply}
use Rattle.ask.specs.Written.{written_told}
use Rattle.ask.specs.declared.Written.{Written}
use Rattle.ask.proofs.AnswerLaws.{answered_whole}

-- what a struct says
unfoldable pub written_read : Written → Reply ℕ
written_read t = if t.refused =? 0 then answer t.bytes else refused t.refused

by_room : (short : Bool) (n : ℕ) → written_read (written_told (refuse_if short short_row (answer n))) ≡ refuse_if short short_row (answer n)
unfolding written_read
by_room true n = refl
by_room false n = refl

pub ask_back : (line : List ℕ) (room : ℕ) → written_read (written_told (answer_reply shoushi line room)) ≡ answer_reply shoushi line room
unfolding answer_reply reply_reply
ask_back line room =
    let told = reply_to shoushi most_numbers line in
    by_room (room <? room_of told) (length (reply_text told))

pub ask_whole : (line : List ℕ) (room : ℕ) → years_room ≤ room
    → written_told (answer_reply shoushi line room) ≡ written_told (answer (length (answer_text shoushi line)))
ask_whole line room h = ap written_told (answered_whole line room h)
