-- Laws of lines: the first line of an input and what is handed on.
-- Assumes nothing.
use Rattle.std.specs.Prelude.{if◌then◌else◌, Some, None, ltb, cond, position, unwrap_or}
use Rattle.std.specs.List.{position_or_len}
use mathlib.Core.Bool.{Bool, true, false}
use mathlib.Core.Path.{◌≡◌, refl, sym}
use mathlib.Core.List.{List, [], ◌∷◌}
use Prim.Native.Nat.{ℕ, suc, ◌+◌, ◌-◌, ◌≤◌, ◌<◌}
use native.Mathlib.Numerals.{add-one}
use native.Mathlib.Omega.{arith}
use borrow.Author.Tests.{ltb-false}
use lib.ListN.{length, get_or, drop, length-drop}
use lib.Seq.{drop-cons}
use Rattle.std.proofs.lemmas.List.Recursion.{is_position_or_len}
use Rattle.rows.specs.Choice.{◌=?◌}
use Rattle.frames.specs.LineEnds.{line_end, line_length, rest_after}

-- one byte more of a line
pub length_step : (input : List ℕ) (n : ℕ) → n < length input
    → line_length (drop n input) ≡ (if get_or input n 0 =? line_end then 0 else suc (line_length (drop (n + 1) input)))
unfolding line_length
length_step input n h = rw (add-one, drop-cons input n 0)

pub length_most : (input : List ℕ) → line_length input ≤ length input
unfolding line_length
length_most [] = omega arith
length_most (b ∷ bs) = most (b =? line_end) (line_length bs) (length bs) (length_most bs)
  where
    most : (t : Bool) (m n : ℕ) → m ≤ n → (if t then 0 else suc m) ≤ suc n
    most true m n h = omega arith
    most false m n h = omega arith

-- what is handed on is shorter
pub rest_length : (n : ℕ) (input : List ℕ) → length (rest_after n input) ≡ length input - (n + 1)
unfolding rest_after
rest_length n input = length-drop (n + 1) input

-- the library's search for a line end finds the same place, or none where the line is all that there is
found : (input : List ℕ) → line_length input ≡ position_or_len (λ b. b =? line_end) input
unfolding line_length
found = is_position_or_len line_length (λ b. b =? line_end) refl (λ b bs. by (b =? line_end) (line_length bs))
  where
    by : (t : Bool) (n : ℕ) → (if t then 0 else suc n) ≡ cond t 0 (1 + n)
    by true n = refl
    by false n = omega arith

pub length_found : (input : List ℕ) → unwrap_or (position (λ b. b =? line_end) input) (length input) ≡ line_length input
length_found input = by (ltb n (length input)) refl
  where
    n : ℕ
    n = position_or_len (λ b. b =? line_end) input

    by : (t : Bool) → ltb n (length input) ≡ t → unwrap_or (cond t (Some n) None) (length input) ≡ line_length input
    by true h = sym (found input)
    by false h = omega (arith, found input, length_most input, ltb-false n (length input) h)
