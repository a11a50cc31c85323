-- The room in the viewer's row, whose records are numbers as bytes.
-- Assumes nothing.
use Rattle.std.specs.Prelude.{List, ℕ, ◌*◌, ◌/◌, length}
use Rattle.lists.specs.Records.{record_width}
use Rattle.viewer.specs.Bytes.{number_bytes}

-- how many whole records a row of bytes has room for
unfoldable pub room_in : List ℕ → ℕ
room_in row = length row / (record_width * number_bytes)
