-- Hexadecimal digits, both ways: as they are written, by their number, and as they are read.
-- Assumes nothing.
use Rattle.std.specs.Prelude.{◌&&◌, Option, Some, None, List, [], ◌∷◌, ◌++◌, ℕ, zero, suc, ◌+◌, ◌-◌, ◌*◌, ◌/◌, ◌%◌, if◌then◌else◌}
use Rattle.rows.specs.Choice.{◌≤?◌, ◌<?◌}
use Rattle.rows.specs.Reply.{Reply, answer, refused, bad_line}

-- the byte of a digit: 0-9, then A-F
unfoldable pub digit_byte : ℕ → ℕ
digit_byte v = if v <? 10 then v + 48 else v + 55

-- n in w digits, high first: all of it where n has room in them, else only its last digits
unfoldable pub digits_of : ℕ → ℕ → List ℕ
digits_of zero n = []
digits_of (suc w) n = digits_of w (n / 16) ++ (digit_byte (n % 16) ∷ [])

pub data Digit : Type 0 where
  worth : ℕ → Digit
  no_digit : Digit

-- what a byte is worth
unfoldable pub digit_of : ℕ → Digit
digit_of b =
    if (48 ≤? b) && (b <? 58) then worth (b - 48) else if (65 ≤? b) && (b <? 71) then worth (b - 55) else no_digit

-- the paper's digit that each case stands for
abbrev pub digit_said : Option ℕ → Digit
digit_said (Some v) = worth v
digit_said None = no_digit

-- one digit more of a number
abbrev pub with_digit : Reply ℕ → Digit → Reply ℕ
with_digit (answer n) (worth v) = answer (n * 16 + v)
with_digit (answer n) no_digit = refused bad_line
with_digit (refused k) d = refused k

-- the number that digits spell, after what was read before them
unfoldable pub spelled : Reply ℕ → List ℕ → Reply ℕ
spelled before [] = before
spelled before (b ∷ bs) = spelled (with_digit before (digit_of b)) bs

-- the number of digits, high first; refused where a byte is none
abbrev pub number_spelled : List ℕ → Reply ℕ
number_spelled digits = spelled (answer 0) digits
