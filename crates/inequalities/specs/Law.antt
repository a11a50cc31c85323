-- The three laws with their coefficients, and how a law is evaluated, a rest dropped at each quotient.
-- Assumes nothing.
use Rattle.std.specs.Prelude.{ℕ, ◌+◌, ◌*◌, ◌-◌, ◌/◌}
use Rattle.measure.specs.Units.{day}

pub record Law : Type 0 where
  pub first : ℕ
  pub second : ℕ
  pub third : ℕ

-- of the sun, 000:505-511 and 511-519; the second coefficients are misread there, and 004's tables bear these out
abbrev pub law_a : Law
law_a = record { first = 5_133_200; second = 24_600; third = 31 }

abbrev pub law_b : Law
law_b = record { first = 4_870_600; second = 22_100; third = 27 }

-- of the moon, 000:947
abbrev pub law_moon : Law
law_moon = record { first = 11_110_000; second = 28_100; third = 325 }

-- what the coefficients are multiplied by, and the result divided by
abbrev pub fine : ℕ
fine = 10_000

-- what is taken from the first coefficient: third × t / day, second added, × t / day
unfoldable pub taken : Law → ℕ → ℕ
taken c t = (c.second * fine + c.third * fine * t / day) * t / day

-- the law at a time t, or at limits counted in as many parts
unfoldable pub law : Law → ℕ → ℕ
law c t = (c.first * fine - taken c t) * t / day / fine

-- the exact law at k whole days or limits
unfoldable pub exact : Law → ℕ → ℕ
exact c k = c.first * k - c.second * k * k - c.third * k * k * k
