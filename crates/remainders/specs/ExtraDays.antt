-- "Extra and vanishing days": each is judged on a remainder alone, and found by the days to add to its day.
-- Assumes nothing.
use Rattle.std.specs.Prelude.{◌≡◌, refl, ℕ, ◌+◌, ◌*◌, ◌-◌, ◌/◌, if◌then◌else◌, Option, Some, None, Result}
use Rattle.rows.specs.Choice.{◌≤?◌}
use Rattle.rows.specs.Reply.{Reply, answer, outside, refuse_if, number_of, reply_of}
use Rattle.measure.specs.Units.{day, term_step, month_deficit}
use Rattle.rows.specs.declared.Refusal.{Refusal}

-- "none" is an answer like any other
pub data Found : Type 0 where
  none : Found
  days_on : ℕ → Found

-- 000:198 and 199: a term is so much over 15 days
abbrev pub extra_limit : ℕ
extra_limit = 78_156_250

abbrev pub term_excess : ℕ
term_excess = 21_843_750

identities : (term_step ≡ 15 * day + term_excess) × (day ≡ extra_limit + term_excess)
identities = (refl, refl)

-- 000:236-239, of a term's remainder
unfoldable pub extra_day : ℕ → Found
extra_day r = if extra_limit ≤? r then days_on ((term_step - 15 * r) / term_excess) else none

-- 000:241-244, of a mean new moon's remainder
unfoldable pub vanishing_day : ℕ → Found
vanishing_day r = if r ≤? month_deficit then days_on (30 * r / month_deficit) else none

unfoldable pub extra_reply : ℕ → Reply Found
extra_reply r = refuse_if (day ≤? r) outside (answer (extra_day r))

unfoldable pub vanishing_reply : ℕ → Reply Found
vanishing_reply r = refuse_if (day ≤? r) outside (answer (vanishing_day r))

-- the paper's days and reply that each stands for
abbrev pub days_found : Option ℕ → Found
days_found (Some n) = days_on n
days_found None = none

abbrev pub days_said : Result (Option ℕ) Refusal → Reply Found
days_said a = reply_of days_found number_of a
