-- "The line program": the day that a line asks for.
-- Assumes nothing.
use Rattle.std.specs.Prelude.{List, ℕ, length, if◌then◌else◌}
use Rattle.rows.specs.Choice.{◌=?◌}
use Rattle.rows.specs.Reply.{Reply, refused, bad_line}
use Rattle.frames.specs.Digits.{number_spelled}

-- how many digits a day has in a line
abbrev pub day_digits : ℕ
day_digits = 5

-- the day that a line asks for: exactly w digits
unfoldable pub day_asked : ℕ → List ℕ → Reply ℕ
day_asked w line = if length line =? w then number_spelled line else refused bad_line
