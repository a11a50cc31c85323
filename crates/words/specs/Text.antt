-- The test of a word.
-- Assumes nothing.
use Rattle.std.specs.Prelude.{ℕ, List, [], ◌∷◌, Bool, true, false, ◌&&◌, eqb}
use Prim.Native.String.{String}
use Rattle.words.specs.Ascii.{bytes_of}

unfoldable pub same : List ℕ → List ℕ → Bool
same [] [] = true
same [] (y ∷ ys) = false
same (x ∷ xs) [] = false
same (x ∷ xs) (y ∷ ys) = eqb x y && same xs ys

infix 40 ◌is◌
abbrev pub ◌is◌ : List ℕ → String → Bool
word is text = same word (bytes_of text)
