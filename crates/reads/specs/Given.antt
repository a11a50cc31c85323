-- What a read gave, by the number that it answered.
-- Assumes nothing.
use Rattle.std.specs.Prelude.{ℕ, ◌≤◌, min, ℤ, pos, negsuc, Result, Ok, Err}
use Rattle.reads.specs.declared.ReadFailed.{ReadFailed}

-- so many bytes at the row's start, none where the input has ended; or nothing, since the read failed
pub data Given : Type 0 where
  bytes : ℕ → Given
  failed : Given

-- room for a block of the input
abbrev pub block_room : ℕ
block_room = 65_536

-- a negative number tells of a failure, and a row gets no more bytes than it has
unfoldable pub given : ℤ → ℕ → Given
given (pos n) room = bytes (min n room)
given (negsuc n) room = failed

-- what each case stands for
abbrev pub got_said : Result ℕ ReadFailed → Given
got_said (Ok n) = bytes n
got_said (Err e) = failed

-- the bytes lie in a row of so many
abbrev pub Within : Result ℕ ReadFailed → ℕ → Type 0
Within (Ok n) room = n ≤ room
Within (Err e) room = Unit {0}
