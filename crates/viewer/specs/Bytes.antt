-- A row of numbers as bytes: each has 32 bits, with its low byte first.
-- Assumes nothing.
use Rattle.std.specs.Prelude.{List, [], ◌∷◌, ◌++◌, ℕ, ◌/◌, ◌%◌}

abbrev pub number_bytes : ℕ
number_bytes = 4

unfoldable pub low_first : ℕ → List ℕ
low_first n = n % 256 ∷ n / 256 % 256 ∷ n / 65536 % 256 ∷ n / 16777216 % 256 ∷ []

-- the bytes of a row of numbers
unfoldable pub low_first_bytes : List ℕ → List ℕ
low_first_bytes [] = []
low_first_bytes (n ∷ ns) = low_first n ++ low_first_bytes ns
