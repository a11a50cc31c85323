-- How many of the places 0 .. k − 1 pass a test.
-- Assumes nothing.
use Rattle.std.specs.Prelude.{Bool, ℕ, zero, suc, ◌+◌, if◌then◌else◌}

abbrev pub one_if : Bool → ℕ
one_if b = if b then 1 else 0

unfoldable pub count : (ℕ → Bool) → ℕ → ℕ
count test zero = 0
count test (suc k) = count test k + one_if (test k)
