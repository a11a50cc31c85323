-- "The line program": the lines of an input.
-- Assumes nothing.
use Rattle.std.specs.Prelude.{List, [], ◌∷◌, ℕ, suc, ◌+◌, drop, if◌then◌else◌}
use Rattle.rows.specs.Choice.{◌=?◌}

-- a line ends at this byte, or at the end of the input
abbrev pub line_end : ℕ
line_end = 0x0A

-- how many bytes the first line of an input has
unfoldable pub line_length : List ℕ → ℕ
line_length [] = 0
line_length (b ∷ bs) = if b =? line_end then 0 else suc (line_length bs)

-- what is handed on, as it stands, after a line of n bytes and its line end
unfoldable pub rest_after : ℕ → List ℕ → List ℕ
rest_after n input = drop (n + 1) input
