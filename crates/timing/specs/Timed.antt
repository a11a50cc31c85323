-- What a benchmark is told: a reply as a struct of two numbers.
-- Assumes nothing.
use Rattle.std.specs.Prelude.{ℕ}
use Rattle.rows.specs.Reply.{Reply, answer, refused}
use Rattle.timing.specs.declared.Timed.{Timed}

-- an answer has refused 0; a refusal has its number there, and no other
abbrev pub number_told : Reply ℕ → Timed
number_told (answer n) = record { refused = 0; number = n }
number_told (refused k) = record { refused = k; number = 0 }
