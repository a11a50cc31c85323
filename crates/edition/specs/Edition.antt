-- The calendar of an epoch: the days of its true new moons and of its middle terms.
-- Assumes nothing.
use Rattle.std.specs.Prelude.{ℕ, ◌*◌, ◌/◌, ◌%◌}
use Rattle.measure.specs.Epoch.{Epoch}
use Rattle.measure.specs.Days.{day_of}
use Rattle.seasons.specs.Terms.{term}
use Rattle.moons.specs.TrueMoon.{true_moon}
use Rattle.month_law.specs.Calendar.{Calendar}

-- the day of true new moon l, on which month l begins
unfoldable pub first_day : Epoch → ℕ → ℕ
first_day e l = day_of (true_moon e l 0)

-- middle term j, counted on over the years: of the terms of its year those of even i are the middle terms
unfoldable pub middle_day : Epoch → ℕ → ℕ
middle_day e j = day_of (term e (j / 12) (2 * (j % 12)))

abbrev pub calendar : Epoch → Calendar
calendar e = record { first = first_day e; mid = middle_day e }
