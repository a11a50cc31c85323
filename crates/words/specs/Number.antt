-- A number in decimal digits. Assumes nothing.
use Rattle.std.specs.Prelude.{ℕ, zero, suc, ◌+◌, ◌-◌, ◌*◌, ◌^◌, List, Bool, true, ◌&&◌, cond, length, get_or, leb, ltb, Option, Some, None}

-- `0` to `9`
abbrev pub is_digit : ℕ → Bool
is_digit b = leb 48 b && leb b 57

-- the digit that a byte writes
abbrev pub digit_of : ℕ → Option ℕ
digit_of b = cond (is_digit b) (Some (b - 48)) None

-- the first n bytes of s are digits
unfoldable pub digits : List ℕ → ℕ → Bool
digits s zero = true
digits s (suc n) = digits s n && is_digit (get_or s n 0)

-- what the first n digits of s write
unfoldable pub value : List ℕ → ℕ → ℕ
value s zero = 0
value s (suc n) = value s n * 10 + (get_or s n 0 - 48)

-- 1 to 20 digits, and below 2 ^ 64
unfoldable pub is_number : List ℕ → Bool
is_number s = leb 1 (length s) && (leb (length s) 20 && (digits s (length s) && ltb (value s (length s)) (2 ^ 64)))

unfoldable pub number_of : List ℕ → Option ℕ
number_of s = cond (is_number s) (Some (value s (length s))) None
