-- The word with which a line starts, and what follows it.
-- Assumes nothing.
use Rattle.std.specs.Prelude.{ℕ, List, take, drop}
use Rattle.words.specs.Search.{index_of}

-- what stands before the first blank
unfoldable pub word_of : List ℕ → List ℕ
word_of line = take (index_of 32 line) line

-- and the rest of the line, from that blank on
unfoldable pub after_word : List ℕ → List ℕ
after_word line = drop (index_of 32 line) line
