-- The place of a word in a text that is a list of words.
-- Assumes nothing.
use Rattle.std.specs.Prelude.{ℕ, zero, suc, List, length, if◌then◌else◌}
use Rattle.words.specs.Numbers.{is_empty, part_of, rest_of}
use Rattle.words.specs.Text.{same}

-- how many of the first n parts of s stand before the word
unfoldable pub place_within : ℕ → List ℕ → List ℕ → ℕ
place_within zero word s = 0
place_within (suc n) word s =
    if is_empty s then 0 else
    if same word (part_of s) then 0 else
    suc (place_within n word (rest_of s))

-- counted from 0; how many parts there are, where none is the word
unfoldable pub place_of : List ℕ → List ℕ → ℕ
place_of word s = place_within (length s) word s
