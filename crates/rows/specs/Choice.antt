-- How the definitions choose: by a test of two numbers.
-- Assumes nothing.
use Rattle.std.specs.Prelude.{Bool, ℕ, leb, ltb, eqb}

infix 40 ◌≤?◌
infix 40 ◌<?◌
infix 40 ◌=?◌
abbrev pub ◌≤?◌ : ℕ → ℕ → Bool
m ≤? n = leb m n

abbrev pub ◌<?◌ : ℕ → ℕ → Bool
m <? n = ltb m n

abbrev pub ◌=?◌ : ℕ → ℕ → Bool
m =? n = eqb m n
