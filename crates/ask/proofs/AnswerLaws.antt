-- When a row has room for the text that answers a line.
-- Assumes nothing.
use mathlib.Core.List.{List}
use mathlib.Core.Path.{◌≡◌}
use Prim.Native.Nat.{ℕ, ◌≤◌}
use native.Mathlib.Omega.{arith}
use borrow.Author.Tests.{le-ltb}
use lib.ListN.{length}
use Rattle.rows.specs.Reply.{answer}
use Rattle.measure.specs.Epoch.{shoushi}
use Rattle.questions.specs.Question.{reply_to}
use Rattle.replies.specs.ListText.{years_room}
use Rattle.replies.specs.ReplyText.{room_of}
use Rattle.replies.proofs.ReplyLaws.{room_between}
use Rattle.ask.specs.AnswerText.{most_numbers, reply_reply, answer_text, answer_reply}

-- where there is room for the records of all years, every line is answered
pub answered_whole : (line : List ℕ) (room : ℕ) → years_room ≤ room → answer_reply shoushi line room ≡ answer (length (answer_text shoushi line))
unfolding answer_reply reply_reply answer_text
answered_whole line room h =
    simp (le-ltb room (room_of (reply_to shoushi most_numbers line)) (omega (arith, (room_between (reply_to shoushi most_numbers line)).1)))
