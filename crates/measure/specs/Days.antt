-- "The running day count": days are whole quotients, never reduced, and day 0 is a jiazi day.
-- Assumes nothing.
use Rattle.std.specs.Prelude.{ℕ, ◌/◌, ◌%◌}
use Rattle.measure.specs.Units.{day}
use Rattle.measure.specs.declared.Name.{Name}

-- the day of a running time, and the remainder
abbrev pub day_of : ℕ → ℕ
day_of t = t / day

abbrev pub remainder_of : ℕ → ℕ
remainder_of t = t % day

-- 000:201-211. The sixty-name of a running day, its stem and its branch, counted from 0
abbrev pub sixty_name : ℕ → ℕ
sixty_name d = d % 60

abbrev pub stem : ℕ → ℕ
stem d = d % 10

abbrev pub branch : ℕ → ℕ
branch d = d % 12

-- the three together
abbrev pub name_of : ℕ → Name
name_of d = record { name = sixty_name d; stem = stem d; branch = branch d }
