-- Laws of the terms: each lies one step after the one before it, none before the epoch's solstice, those of the admitted years are no larger
-- than 10¹⁴ wei; and the cases of the reply to their list.
-- Assumes nothing.
use mathlib.Core.Bool.{true, false}
use mathlib.Core.Logic.{◌⊎◌, inl, inr}
use mathlib.Core.Path.{◌≡◌, refl, ap}
use Prim.Native.Nat.{ℕ, ◌+◌, ◌*◌, ◌≤◌, ◌<◌}
use native.Mathlib.Omega.{arith}
use borrow.Author.Tests.{ne_eqb, lt-ltb, le-ltb}
use mathlib.Core.List.{List, ◌++◌}
use lib.ListN.{length, take, drop}
use lib.Seq.{length-take-le}
use Rattle.rows.specs.Choice.{◌<?◌}
use Rattle.rows.specs.Row.{listed, over}
use Rattle.rows.specs.Reply.{Reply, answer, refused, no_year, short_row}
use Rattle.rows.proofs.Choice.{refuse_cases}
use Rattle.rows.proofs.Row.{length_listed, front_over}
use Rattle.measure.specs.Units.{term_step, last_year}
use Rattle.measure.specs.Epoch.{Epoch, shoushi}
use Rattle.seasons.specs.Solstice.{solstice}
use Rattle.seasons.specs.Terms.{terms, term, term_list, terms_reply, earth_term}

-- a term lies as many steps after the epoch's solstice as terms come before it, 24 a year
pub term_is : (e : Epoch) (n i : ℕ) → term e n i ≡ e.solstice + (terms * n + i) * term_step
unfolding term solstice
term_is e n i = omega arith

-- and one step after the one before it, so that a list may be added up
pub term_next : (e : Epoch) (n i : ℕ) → term e n (i + 1) ≡ term e n i + term_step
unfolding term
term_next e n i = omega arith

pub term_rises : (e : Epoch) (n i : ℕ) → term e n i < term e n (i + 1)
term_rises e n i = omega (arith, term_next e n i)

pub term_zero : (e : Epoch) (n : ℕ) → term e n 0 ≡ solstice e n
unfolding term
term_zero e n = omega arith

pub term_least : (e : Epoch) (n i : ℕ) → e.solstice ≤ term e n i
term_least e n i = omega (arith, term_is e n i)

pub term_most : (n i : ℕ) → n ≤ last_year + 1 → i < terms → term shoushi n i ≤ 100_000_000_000_000
term_most n i h k = omega (arith, term_is shoushi n i)

-- a year's list: what holds of both refusals and of the answer holds of the reply
pub terms_cases : (P : Reply ℕ → Type 0) (n room : ℕ) → P (refused no_year) → P (refused short_row) → P (answer terms) → P (terms_reply n room)
unfolding terms_reply
terms_cases P n room late short all =
    refuse_cases P (last_year <? n) no_year _ late λ _. refuse_cases P (room <? terms) short_row _ short λ _. all

-- which of them it is
pub terms_late : (n : ℕ) → last_year < n → (room : ℕ) → terms_reply n room ≡ refused no_year
unfolding terms_reply
terms_late n h room = simp (lt-ltb last_year n h)

pub terms_short : (n room : ℕ) → n ≤ last_year → room < terms → terms_reply n room ≡ refused short_row
unfolding terms_reply
terms_short n room h k = simp (le-ltb last_year n h, lt-ltb room terms k)

pub terms_answered : (n room : ℕ) → n ≤ last_year → terms ≤ room → terms_reply n room ≡ answer terms
unfolding terms_reply
terms_answered n room h k = simp (le-ltb last_year n h, le-ltb room terms k)

-- and is the same in every row that has room
pub terms_in_room : (n a b : ℕ) → terms ≤ a → terms ≤ b → terms_reply n a ≡ terms_reply n b
unfolding terms_reply
terms_in_room n a b h g = rw (le-ltb a terms h, le-ltb b terms g)

pub terms_are : (e : Epoch) (n : ℕ) → term_list e n ≡ listed (term e n) 0 terms
unfolding term_list
terms_are e n = refl

pub terms_length : (e : Epoch) (n : ℕ) → length (term_list e n) ≡ terms
terms_length e n = rw terms_are (length_listed (term e n) 0 terms)

-- a row's front of just their number has it
pub front_length : (row : List ℕ) → terms ≤ length row → length (take terms row) ≡ terms
front_length row room = length-take-le terms row room

-- where the first of them are written over a row's front of just their number, all are over the row
pub terms_written : (n i : ℕ) (row front : List ℕ) → front ≡ over (listed (term shoushi n) 0 i) (take terms row) → i ≡ terms → terms ≤ length row
    → front ++ drop terms row ≡ over (term_list shoushi n) row
unfolding term_list
terms_written n i row front e all room =
    front_over (term_list shoushi n) row front terms (rw all at e) (terms_length shoushi n) room

-- the four terms before which earth rules, as a program's cases tell them
abbrev pub OneOfFour : ℕ → Type 0
OneOfFour i = (i ≡ 2) ⊎ (i ≡ 8) ⊎ (i ≡ 14) ⊎ (i ≡ 20)

pub earth_term_lem : (i : ℕ) → OneOfFour i → earth_term i ≡ true
earth_term_lem i (inl e) = ap earth_term e
earth_term_lem i (inr (inl e)) = ap earth_term e
earth_term_lem i (inr (inr (inl e))) = ap earth_term e
earth_term_lem i (inr (inr (inr e))) = ap earth_term e

pub no_earth_term : (i : ℕ) → ¬ OneOfFour i → earth_term i ≡ false
no_earth_term i h =
    simp (
      ne_eqb i 2 (λ e. h (inl e)),
      ne_eqb i 8 (λ e. h (inr (inl e))),
      ne_eqb i 14 (λ e. h (inr (inr (inl e)))),
      ne_eqb i 20 (λ e. h (inr (inr (inr e)))),
    )

pub earth_below : (i : ℕ) → OneOfFour i → i < terms
earth_below i (inl e) = omega arith
earth_below i (inr (inl e)) = omega arith
earth_below i (inr (inr (inl e))) = omega arith
earth_below i (inr (inr (inr e))) = omega arith
