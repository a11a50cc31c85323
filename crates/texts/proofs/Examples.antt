-- Templates filled, as they are written, one with a number too few; and the largest number.
-- Assumes nothing.
use mathlib.Core.List.{[], ◌∷◌}
use mathlib.Core.Path.{◌≡◌, refl}
use Rattle.words.specs.Ascii.{bytes_of}
use Rattle.texts.specs.Text.{decimal_in, decimal, piece, numbers_taken, filled}

examples : (filled (bytes_of "fen=% miao=%") (10_007 ∷ 0 ∷ []) ≡ bytes_of "fen=10007 miao=0")
    × (filled (bytes_of "% %:%") (7 ∷ 10 ∷ []) ≡ bytes_of "7 10:0")
    × (decimal 18_446_744_073_709_551_615 ≡ bytes_of "18446744073709551615")
unfolding filled piece numbers_taken decimal decimal_in
examples = (refl, refl, refl)
