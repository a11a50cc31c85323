-- What was read, and what is done with it. What is read and written cannot be said, so each turn is held to what it has in hand.
-- Assumes nothing.
use Rattle.std.specs.Prelude.{Bool, true, false, Option, Some, None, ◌≡◌, List, [], ◌++◌, ℕ, length, if◌then◌else◌}
use Rattle.rows.specs.Choice.{◌=?◌}
use Rattle.measure.specs.Epoch.{shoushi}
use Rattle.lines.specs.Line.{output}
use Rattle.lines.specs.Block.{kept_of, written, block_of}
use Rattle.month_lines.specs.declared.Read.{Read}
use Rattle.month_lines.specs.declared.Read.TheVariants.{Last, Part}

-- of the bytes in hand so many were kept: where there are no more, they are the last line; else a block
unfoldable pub read_of : ℕ → List ℕ → Read
read_of kept input = if length input =? kept then Last (length (output shoushi input)) else Part (block_of input)

-- what is written for them, and what is kept of them
unfoldable pub written_for : ℕ → List ℕ → List ℕ
written_for kept input = if length input =? kept then output shoushi input else written input

unfoldable pub kept_for : ℕ → List ℕ → List ℕ
kept_for kept input = if length input =? kept then [] else kept_of input

-- how many bytes are written for what was read
abbrev pub replies_in : Read → ℕ
replies_in (Last n) = n
replies_in (Part b) = b.written

-- how a turn ends, by what was read and whether the replies went out: a block that was answered leaves a line to go on with
abbrev pub turn_after : Read → Bool → Option ℕ
turn_after (Last n) went = None
turn_after (Part b) went = if went then Some b.kept else None

-- what a turn left: what is kept of the bytes that were there and of more that were read
pub record LeftOf (begun after : List ℕ) : Type 0 where
  pub more : List ℕ
  pub left : after ≡ kept_of (begun ++ more)

abbrev pub Left : Bool → List ℕ → List ℕ → Type 0
Left true begun after = LeftOf begun after
Left false begun after = Unit {0}
