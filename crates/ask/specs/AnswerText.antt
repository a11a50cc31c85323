-- The line of text that is written for a line that asks.
-- Assumes nothing.
use Rattle.std.specs.Prelude.{List, ℕ, ◌*◌, length}
use Rattle.rows.specs.Choice.{◌<?◌}
use Rattle.rows.specs.Reply.{Reply, answer, short_row, refuse_if}
use Rattle.measure.specs.Epoch.{Epoch}
use Rattle.lists.specs.Records.{record_width}
use Rattle.questions.specs.DeskReply.{DeskReply, most_records}
use Rattle.questions.specs.Question.{reply_to}
use Rattle.replies.specs.ReplyText.{reply_text, room_of}

-- how many bytes are written of a reply, where the row has room for so many
unfoldable pub reply_reply : DeskReply → ℕ → Reply ℕ
reply_reply r room = refuse_if (room <? room_of r) short_row (answer (length (reply_text r)))

-- so many numbers are enough for every list
abbrev pub most_numbers : ℕ
most_numbers = record_width * most_records

-- the text that answers a line, and how many bytes of it are written
unfoldable pub answer_text : Epoch → List ℕ → List ℕ
answer_text e line = reply_text (reply_to e most_numbers line)

unfoldable pub answer_reply : Epoch → List ℕ → ℕ → Reply ℕ
answer_reply e line room = reply_reply (reply_to e most_numbers line) room
