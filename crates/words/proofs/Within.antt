-- Laws of a word's place in a list that is a text. Assumes nothing.
use Prim.Native.Nat.{ℕ, zero, suc, ◌≤◌, ◌<◌}
use mathlib.Core.Path.{◌≡◌, refl}
use mathlib.Core.List.{List}
use mathlib.Core.Bool.{true, false}
use native.Mathlib.Omega.{arith}
use borrow.Author.Tests.{eq-eqb, ne_eqb}
use lib.ListN.{length, length-drop}
use Rattle.words.specs.Numbers.{end_of, part_of, rest_of}
use Rattle.words.specs.Text.{same}
use Rattle.words.specs.Place.{place_within}

-- each part takes its blank with it
pub rest_shorter : (s : List ℕ) → 0 < length s → length (rest_of s) < length s
unfolding rest_of end_of
rest_shorter s h = simp length-drop (omega arith)

pub rest_no_longer : (s : List ℕ) → length (rest_of s) ≤ length s
unfolding rest_of end_of
rest_no_longer s = simp length-drop (omega arith)

module _ (word s : List ℕ) where
  pub at_end : (n : ℕ) → length s ≡ 0 → place_within n word s ≡ 0
  unfolding place_within
  at_end zero e = refl
  at_end (suc n) e = simp (eq-eqb _ _ e)

  pub is_here : (n : ℕ) → 0 < length s → same word (part_of s) ≡ true → place_within n word s ≡ 0
  unfolding place_within
  is_here zero h e = refl
  is_here (suc n) h e = simp (ne_eqb (length s) 0 (λ z. omega arith), e)

  pub is_later : (m n : ℕ) → m ≡ suc n → 0 < length s → same word (part_of s) ≡ false
      → place_within m word s ≡ suc (place_within n word (rest_of s))
  unfolding place_within
  is_later m n p h e = rw p (simp (ne_eqb (length s) 0 (λ z. omega arith), e))
