-- Texts with holes: each % of a template stands for the next number, in decimal.
-- Assumes nothing.
use Rattle.std.specs.Prelude.{List, [], ◌∷◌, ◌++◌, ℕ, zero, suc, ◌+◌, ◌*◌, ◌/◌, ◌%◌, length, get_or, drop, if◌then◌else◌}
use Rattle.rows.specs.Choice.{◌<?◌, ◌=?◌}
use Rattle.rows.specs.Reply.{Reply, answer, short_row, refuse_if}

-- the byte of a digit
abbrev pub digit : ℕ → ℕ
digit d = 48 + d

-- a number of 64 bits has at most so many digits
abbrev pub most_digits : ℕ
most_digits = 20

-- the decimal digits of n, the highest first, where it has at most k
unfoldable pub decimal_in : ℕ → ℕ → List ℕ
decimal_in zero n = []
decimal_in (suc k) n = if n <? 10 then digit n ∷ [] else decimal_in k (n / 10) ++ (digit (n % 10) ∷ [])

-- all digits of a number of 64 bits; of a larger one, which no program holds, the last 20
unfoldable pub decimal : ℕ → List ℕ
decimal n = decimal_in most_digits n

-- %
abbrev pub hole : ℕ
hole = 37

-- what a byte of a template stands for, where n is the next number, and how many numbers it takes
unfoldable pub piece : ℕ → ℕ → List ℕ
piece b n = if b =? hole then decimal n else b ∷ []

unfoldable pub numbers_taken : ℕ → ℕ
numbers_taken b = if b =? hole then 1 else 0

-- how many numbers a template takes
unfoldable pub holes : List ℕ → ℕ
holes [] = 0
holes (b ∷ t) = numbers_taken b + holes t

-- a template with its numbers. A hole for which no number is left takes 0, and numbers for which no hole is left are not written
unfoldable pub filled : List ℕ → List ℕ → List ℕ
filled [] ns = []
filled (b ∷ t) ns = piece b (get_or ns 0 0) ++ filled t (drop (numbers_taken b) ns)

-- the room that a template asks for
abbrev pub text_room : List ℕ → ℕ
text_room t = most_digits * length t

-- how many bytes are written, where the row has room for so many
unfoldable pub text_reply : List ℕ → List ℕ → ℕ → Reply ℕ
text_reply t ns room = refuse_if (room <? text_room t) short_row (answer (length (filled t ns)))
