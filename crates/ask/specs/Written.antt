-- What is told of a text that was written: a reply as a struct of two numbers.
-- Assumes nothing.
use Rattle.std.specs.Prelude.{ℕ}
use Rattle.rows.specs.Reply.{Reply, answer, refused}
use Rattle.ask.specs.declared.Written.{Written}

-- how many bytes, or why none
abbrev pub written_told : Reply ℕ → Written
written_told (answer n) = record { refused = 0; bytes = n }
written_told (refused k) = record { refused = k; bytes = 0 }
