-- "The line program": one frame a line, one day in and one month out. How a line asks for a day, and the line of a reply, are in `frames`.
-- Assumes nothing.
use Rattle.std.specs.Prelude.{List, [], ◌∷◌, ◌++◌, ℕ, ◌*◌, length, if◌then◌else◌}
use Rattle.rows.specs.Choice.{◌<?◌, ◌=?◌}
use Rattle.rows.specs.Reply.{Reply, answer, refused, short_row, refuse_if}
use Rattle.measure.specs.Epoch.{Epoch}
use Rattle.months.specs.Month.{MonthOfDay, day_reply}
use Rattle.frames.specs.LineEnds.{line_end}
use Rattle.frames.specs.DayLine.{day_digits, day_asked}
use Rattle.frames.specs.MonthLine.{line_of}

-- a malformed line is refused before a day outside the calendar
unfoldable pub line_reply : Epoch → List ℕ → Reply MonthOfDay
line_reply e line = asked (day_asked day_digits line)
  where
    asked : Reply ℕ → Reply MonthOfDay
    asked (answer d) = day_reply e d
    asked (refused k) = refused k

-- what is written for a line
unfoldable pub reply_line : Epoch → List ℕ → List ℕ
reply_line e line = line_of day_digits (line_reply e line)

-- what is written for the last line, where the input ends without a line end: nothing where nothing follows the line end before it
unfoldable pub last_line : Epoch → List ℕ → List ℕ
last_line e [] = []
last_line e (b ∷ bs) = reply_line e (b ∷ bs)

-- what is written for an input whose first line began with `begun`
unfoldable pub output_from : Epoch → List ℕ → List ℕ → List ℕ
output_from e begun [] = last_line e begun
output_from e begun (b ∷ bs) =
    if b =? line_end then reply_line e begun ++ output_from e [] bs else output_from e (begun ++ (b ∷ [])) bs

unfoldable pub output : Epoch → List ℕ → List ℕ
output e input = output_from e [] input

-- a lent row must have three bytes for each byte of the input: line ends alone fill it
abbrev pub reply_room : ℕ
reply_room = 3

-- how many bytes are written, where the row has room for so many
unfoldable pub output_reply : Epoch → List ℕ → ℕ → Reply ℕ
output_reply e input room = refuse_if (room <? reply_room * length input) short_row (answer (length (output e input)))
