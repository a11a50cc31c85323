-- Laws of the line that asks for a day, by its digits: the line of a day asks for that day, and what is refused.
-- Assumes nothing.
use Rattle.std.specs.Prelude.{if◌then◌else◌}
use mathlib.Core.Bool.{Bool, true, false}
use mathlib.Core.Path.{◌≡◌}
use mathlib.Core.List.{List}
use Prim.Native.Nat.{ℕ, ◌^◌, ◌<◌}
use borrow.Author.Tests.{eq-eqb, ne_eqb}
use lib.ListN.{length}
use Rattle.rows.specs.Choice.{◌=?◌}
use Rattle.rows.specs.Reply.{answer, refused, bad_line}
use Rattle.frames.specs.Digits.{digits_of, number_spelled}
use Rattle.frames.specs.DayLine.{day_asked}
use Rattle.frames.proofs.DigitLaws.{length_digits, number_back, spelled_only}

-- a day in w digits is asked for by them
pub asked_back : (w d : ℕ) → d < 16 ^ w → day_asked w (digits_of w d) ≡ answer d
unfolding day_asked
asked_back w d h = simp (eq-eqb _ _ (length_digits w d)) (number_back w d h)

-- a line of another length is refused
pub other_length : (w : ℕ) (line : List ℕ) → ¬ (length line ≡ w) → day_asked w line ≡ refused bad_line
unfolding day_asked
other_length w line h = simp (ne_eqb (length line) w h)

-- and there is but one refusal
pub only_bad : (w : ℕ) (line : List ℕ) (k : ℕ) → day_asked w line ≡ refused k → k ≡ bad_line
unfolding day_asked
only_bad w line k h = only (length line =? w) h
  where
    only : (t : Bool) → (if t then number_spelled line else refused bad_line) ≡ refused k → k ≡ bad_line
    only true f = spelled_only 0 k line f
    only false f = cc
