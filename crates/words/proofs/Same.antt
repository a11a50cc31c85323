-- The test of a word, tied to what a test of two slices ensures. Assumes nothing.
use Prim.Native.Nat.{ℕ}
use mathlib.Core.Path.{◌≡◌, ◌∙◌, refl, sym, ap}
use mathlib.Core.List.{List, [], ◌∷◌}
use mathlib.Core.Bool.{Bool, true, false, false≢true, ◌&&◌}
use borrow.Author.Tests.{eqb-true, eq-eqb}
use lib.Dec.{eqb}
use Rattle.rows.proofs.Choice.{left_passes, right_passes}
use Rattle.std.specs.Str.{bytes_eq}
use Rattle.words.specs.Text.{same}

pub same_equal : (a b : List ℕ) → same a b ≡ true → a ≡ b
unfolding same
same_equal [] [] e = refl
same_equal [] (y ∷ ys) e = absurd (false≢true e)
same_equal (x ∷ xs) [] e = absurd (false≢true e)
same_equal (x ∷ xs) (y ∷ ys) e =
    let head : x ≡ y = eqb-true x y (left_passes (eqb x y) (same xs ys) e) in
    let tail : xs ≡ ys = same_equal xs ys (right_passes (eqb x y) (same xs ys) e) in
    rw (head, tail)

pub same_itself : (a : List ℕ) → same a a ≡ true
unfolding same
same_itself [] = refl
same_itself (x ∷ xs) = simp (eq-eqb x x refl, same_itself xs)

not_true : (p : Bool) → (p ≡ true → false ≡ true) → p ≡ false
not_true true f = absurd (false≢true (f refl))
not_true false f = refl

-- what a match on a text tells of it
pub alike : (a b : List ℕ) → a ≡ b → same a b ≡ true
alike a b e = rw e (same_itself b)

pub unlike : (a b : List ℕ) → (a ≡ b → ⊥) → same a b ≡ false
unlike a b h = not_true (same a b) (λ e. absurd (h (same_equal a b e)))

-- a test of two slices goes byte by byte, as `same` does
pub same_bytes : (a b : List ℕ) → same a b ≡ bytes_eq a b
unfolding same
same_bytes [] [] = refl
same_bytes [] (y ∷ ys) = refl
same_bytes (x ∷ xs) [] = refl
same_bytes (x ∷ xs) (y ∷ ys) = ap (λ (t : Bool). eqb x y && t) (same_bytes xs ys)

-- the same, once a branch has told its answer
pub told_bytes : (a b : List ℕ) {r s : Bool} → r ≡ bytes_eq a b → r ≡ s → same a b ≡ s
told_bytes a b h e = same_bytes a b ∙ sym h ∙ e
