-- An input that comes in blocks: what of a block is answered at once, and what is kept of the line that it leaves unfinished.
-- Assumes nothing.
use Rattle.std.specs.Prelude.{◌≡◌, ◌≢◌, ◌<◌, List, [], ◌∷◌, ℕ, suc, length, take, drop, slice_index, EachIndex, if◌then◌else◌}
use Rattle.rows.specs.Choice.{◌<?◌, ◌=?◌}
use Rattle.measure.specs.Epoch.{shoushi}
use Rattle.frames.specs.LineEnds.{line_end, line_length}
use Rattle.lines.specs.Line.{output}
use Rattle.lines.specs.declared.blocks.Block.{Block}

-- no line ends in these bytes
abbrev pub Unfinished : List ℕ → Type 0
Unfinished begun = line_length begun ≡ length begun

-- how many bytes of a block are whole lines: all up to its last line end
unfoldable pub whole_length : List ℕ → ℕ
whole_length [] = 0
whole_length (b ∷ bs) =
    if 0 <? whole_length bs then suc (whole_length bs) else
    if b =? line_end then 1 else 0

-- no line ends in a block, or the last that ends in it ends at this place
abbrev pub NoEnd : List ℕ → Type 0
NoEnd block = EachIndex block (λ k. slice_index block k ≢ line_end)

abbrev pub LastEnd : List ℕ → ℕ → Type 0
LastEnd block at =
    (at < length block) × (slice_index block at ≡ line_end) × ((k : ℕ) → at < k → k < length block → slice_index block k ≢ line_end)

abbrev pub whole_lines : List ℕ → List ℕ
whole_lines block = take (whole_length block) block

-- a line of six bytes is refused, whatever follows: no more of it need be kept
abbrev pub enough : ℕ
enough = 6

abbrev pub kept_of : List ℕ → List ℕ
kept_of block = take enough (drop (whole_length block) block)

-- what is written for a block, and how much of each there is
abbrev pub written : List ℕ → List ℕ
written block = output shoushi (whole_lines block)

abbrev pub block_of : List ℕ → Block
block_of block = record { written = length (written block); kept = length (kept_of block) }
