-- A signed number as what is ahead less what is behind, two naturals: no rule below needs a case for the sign.
-- Assumes nothing.
use Rattle.std.specs.Prelude.{ℕ, ◌+◌, ℤ}
use Rattle.std.proofs.Math.IntN.{sub_ℕ}
use Rattle.rows.specs.Reply.{Reply, answer, refused}

pub record Signed : Type 0 where
  pub ahead : ℕ
  pub behind : ℕ

-- a positive number, and a negative one
abbrev pub ahead_by : ℕ → Signed
ahead_by n = record { ahead = n; behind = 0 }

abbrev pub behind_by : ℕ → Signed
behind_by n = record { ahead = 0; behind = n }

abbrev pub minus : Signed → Signed → Signed
minus x y = record { ahead = x.ahead + y.behind; behind = x.behind + y.ahead }

-- the integer that it is, for what a program holds
unfoldable pub integer : Signed → ℤ
integer x = sub_ℕ x.ahead x.behind

-- a reply with its integer
abbrev pub as_integer : Reply Signed → Reply ℤ
as_integer (answer x) = answer (integer x)
as_integer (refused k) = refused k
