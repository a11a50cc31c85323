-- Laws of numbers as bytes: how many there are, and one number more.
-- Assumes nothing.
use mathlib.Core.List.{List, [], ◌∷◌, ◌++◌, append_assoc}
use mathlib.Core.Path.{◌≡◌, ◌∙◌, refl, sym, ap}
use Prim.Native.Nat.{ℕ, ◌+◌, ◌*◌, ◌≤◌, ◌<◌}
use native.Mathlib.Numerals.{add-one}
use native.Mathlib.Omega.{arith}
use lib.ListN.{length, take, get_or, length-append}
use lib.Seq.{take-suc, length-take-le}
use Rattle.rows.specs.Row.{over}
use Rattle.rows.proofs.Row.{rest_from, with_rest, grow}
use Rattle.viewer.specs.Bytes.{number_bytes, low_first, low_first_bytes}

length_low_first : (n : ℕ) → length (low_first n) ≡ number_bytes
unfolding low_first
length_low_first n = refl

bytes_append : (xs ys : List ℕ) → low_first_bytes (xs ++ ys) ≡ low_first_bytes xs ++ low_first_bytes ys
unfolding low_first_bytes
bytes_append [] ys = refl
bytes_append (x ∷ xs) ys =
    ap (λ (l : List ℕ). low_first x ++ l) (bytes_append xs ys) ∙ sym (append_assoc (low_first x) (low_first_bytes xs) (low_first_bytes ys))

length_bytes : (xs : List ℕ) → length (low_first_bytes xs) ≡ number_bytes * length xs
unfolding low_first_bytes
length_bytes [] = refl
length_bytes (x ∷ xs) = simp length-append (omega (arith, length_low_first x, length_bytes xs))

-- the bytes of the first i numbers of a row
module _ (xs : List ℕ) (i : ℕ) where
  length_bytes_taken : i ≤ length xs → length (low_first_bytes (take i xs)) ≡ i * number_bytes
  length_bytes_taken h = omega (arith, length_bytes (take i xs), length-take-le i xs h)

  -- and of one more
  bytes_more : i < length xs → low_first_bytes (take (i + 1) xs) ≡ low_first_bytes (take i xs) ++ low_first (get_or xs i 0)
  unfolding low_first_bytes low_first
  bytes_more h =
      ap (λ (k : ℕ). low_first_bytes (take k xs)) (add-one i) ∙ ap low_first_bytes (take-suc xs i 0 h)
      ∙ bytes_append (take i xs) (get_or xs i 0 ∷ [])

-- in a row, no numbers leave all, and the bytes of one number more go into the rest
pub bytes_none : (row : List ℕ) → row ≡ over (low_first_bytes []) row
unfolding over low_first_bytes
bytes_none row = refl

pub bytes_grow : (xs row now rest : List ℕ) (i : ℕ) → now ≡ over (low_first_bytes (take i xs)) row → i < length xs
    → rest ≡ over (low_first (get_or xs i 0)) (rest_from (i * number_bytes) now)
    → with_rest (i * number_bytes) now rest ≡ over (low_first_bytes (take (i + 1) xs)) row
bytes_grow xs row now rest i e h put =
    grow (low_first_bytes (take i xs)) (low_first (get_or xs i 0)) row now rest (i * number_bytes) e (length_bytes_taken xs i (omega arith)) put
    ∙ ap (λ (l : List ℕ). over l row) (sym (bytes_more xs i h))
