-- A row of numbers is read back from its bytes as it was: no place of a number is lost.
-- Assumes nothing.
use mathlib.Core.List.{List, [], ◌∷◌, ◌++◌}
use mathlib.Core.Path.{◌≡◌, refl, ap₂}
use Prim.Native.Nat.{ℕ, ◌+◌, ◌*◌, ◌/◌, ◌%◌, ◌<◌}
use native.Mathlib.Omega.{arith}
use Rattle.std.proofs.lemmas.Nat.{from_le_bytes-to_le_bytes_4}
use Rattle.viewer.specs.Bytes.{low_first, low_first_bytes}

-- the number that four bytes say, low byte first
abbrev joined : ℕ → ℕ → ℕ → ℕ → ℕ
joined a b c d = a + 256 * b + 65_536 * c + 16_777_216 * d

joined_back : (n : ℕ) → n < 4_294_967_296 → joined (n % 256) (n / 256 % 256) (n / 65_536 % 256) (n / 16_777_216 % 256) ≡ n
joined_back n h = omega (arith, from_le_bytes-to_le_bytes_4 n h)

-- the numbers that a row of bytes says, four bytes each
unfoldable pub numbers_read : List ℕ → List ℕ
numbers_read (a ∷ b ∷ c ∷ d ∷ rest) = joined a b c d ∷ numbers_read rest
numbers_read (a ∷ b ∷ c ∷ []) = []
numbers_read (a ∷ b ∷ []) = []
numbers_read (a ∷ []) = []
numbers_read [] = []

-- a row of numbers of 32 bits
unfoldable pub Small : List ℕ → Type 0
Small [] = Unit {0}
Small (n ∷ ns) = (n < 4_294_967_296) × Small ns

pub small_append : (xs ys : List ℕ) → Small xs → Small ys → Small (xs ++ ys)
unfolding Small
small_append [] ys h g = g
small_append (x ∷ xs) ys h g = (h.0, small_append xs ys h.1 g)

pub bytes_back : (ns : List ℕ) → Small ns → numbers_read (low_first_bytes ns) ≡ ns
unfolding numbers_read low_first_bytes low_first Small
bytes_back [] h = refl
bytes_back (n ∷ ns) h = ap₂ ◌∷◌ (joined_back n h.0) (bytes_back ns h.1)
