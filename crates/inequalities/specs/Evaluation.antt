-- How a program evaluates the laws: the coefficients as it holds them, and how far.
-- Assumes nothing.
use Rattle.std.specs.Prelude.{ℕ, ◌+◌, ◌*◌, ◌≤◌}
use Rattle.measure.specs.Units.{day}
use Rattle.inequalities.specs.Law.{Law, fine}
use Rattle.inequalities.specs.declared.laws.Coefficients.{Coefficients}

-- the law that coefficients stand for
abbrev pub law_said : Coefficients → Law
law_said c = record { first = c.first; second = c.second; third = c.third }

-- how many whole days or limits a law reaches: 93 days and 84 limits occur
abbrev pub reach : ℕ
reach = 94

-- within its reach no more is taken from a law's first coefficient than it is, and each product over a day fits 64 bits
abbrev pub Evaluated : Law → ℕ → Type 0
Evaluated c t = (c.first * fine ≤ 1_800 * day) × ((c.second + c.third * reach) * reach ≤ c.first) × (t ≤ reach * day)
