-- Where a byte first stands in a text. Assumes nothing.
use Rattle.std.specs.Prelude.{ℕ, suc, List, [], ◌∷◌, cond, eqb}

-- its place, counted from 0; where it does not stand there, the text's length
unfoldable pub index_of : ℕ → List ℕ → ℕ
index_of b [] = 0
index_of b (x ∷ xs) = cond (eqb x b) 0 (suc (index_of b xs))
