-- "Hours": the double-hour and the ke of a remainder, reckoned from zi-zheng (000:451-460).
-- Assumes nothing.
use Rattle.std.specs.Prelude.{ℕ, ◌*◌, ◌/◌, ◌%◌, Result}
use Rattle.rows.specs.Choice.{◌≤?◌}
use Rattle.rows.specs.Reply.{Reply, answer, outside, refuse_if, number_of, reply_of}
use Rattle.measure.specs.Units.{day, fen}
use Rattle.rows.specs.declared.Refusal.{Refusal}
use Rattle.remainders.specs.declared.Hour.{Hour}

-- twelve double-hours in a day of 10,000 fen
unfoldable pub double_hour : ℕ → ℕ
double_hour r = r * 12 / day

-- 1,200 fen to a ke
unfoldable pub ke : ℕ → ℕ
ke r = r * 12 % day / (1_200 * fen)

unfoldable pub hour_reply : ℕ → Reply (ℕ × ℕ)
hour_reply r = refuse_if (day ≤? r) outside (answer (double_hour r, ke r))

-- the paper's hour and reply that each stands for
abbrev pub hour_found : Hour → ℕ × ℕ
hour_found h = (h.double_hour, h.ke)

abbrev pub hour_said : Result Hour Refusal → Reply (ℕ × ℕ)
hour_said a = reply_of hour_found number_of a
