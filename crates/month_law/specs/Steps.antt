-- The step of a rising sequence in which a number falls.
-- Assumes nothing.
use Rattle.std.specs.Prelude.{ℕ, zero, suc, if◌then◌else◌}
use Rattle.rows.specs.Choice.{◌<?◌}

-- the last place of f that is not above d, sought upward from place i over at most `most` places
unfoldable pub seek : (ℕ → ℕ) → ℕ → ℕ → ℕ → ℕ
seek f d i zero = i
seek f d i (suc most) = if d <? f (suc i) then i else seek f d (suc i) most
