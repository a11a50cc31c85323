-- Lunations and their quarters (000:222-234): which are admitted, the mean moons, and their times in the solar year and in the
-- anomalistic month (000:896-947).
-- Assumes nothing.
use Rattle.std.specs.Prelude.{ℕ, ◌+◌, ◌*◌, ◌%◌, ◌≤◌}
use Rattle.rows.specs.Choice.{◌<?◌}
use Rattle.rows.specs.Reply.{Reply, answer, outside, refuse_if}
use Rattle.measure.specs.Units.{year, month, quarter_step, anomalistic_month, anomaly_advance}
use Rattle.measure.specs.Epoch.{Epoch, mean_start, solar_start, anomaly_start}

abbrev pub last_lunation : ℕ
last_lunation = 12_367

abbrev pub last_quarter : ℕ
last_quarter = 3

-- a question about quarter q of lunation l, with its answer
abbrev pub of_quarter : {A : Type 0} → ℕ → ℕ → A → Reply A
of_quarter l q it = refuse_if (last_lunation <? l) outside (refuse_if (last_quarter <? q) outside (answer it))

-- a caller that counts lunations itself goes three further: the last month's end, and a month on either side of the one it seeks
abbrev pub Counted : ℕ → ℕ → Type 0
Counted l q = (l ≤ last_lunation + 3) × (q ≤ last_quarter)

-- quarter 0 is the new moon, and 2 the full moon
unfoldable pub mean : Epoch → ℕ → ℕ → ℕ
mean e l q = mean_start e + l * month + q * quarter_step

unfoldable pub mean_reply : Epoch → ℕ → ℕ → Reply ℕ
mean_reply e l q = of_quarter l q (mean e l q)

-- its time in the solar year, which begins with the slow half, and its time in the anomalistic month
unfoldable pub solar_time : Epoch → ℕ → ℕ → ℕ
solar_time e l q = (solar_start e + l * month + q * quarter_step) % year

unfoldable pub anomaly : Epoch → ℕ → ℕ → ℕ
anomaly e l q = (anomaly_start e + l * anomaly_advance + q * quarter_step) % anomalistic_month
