-- A search by the library finds the place that `index_of` says. Assumes nothing.
use Rattle.std.specs.Prelude.{Option, Some, None, unwrap_or}
use Rattle.std.specs.List.{position_or_len}
use Rattle.std.proofs.lemmas.List.Recursion.{is_position_or_len}
use Rattle.std.proofs.lemmas.List.Sums.{prefix_len-le-length}
use mathlib.Core.Bool.{Bool, cond, not}
use mathlib.Core.List.{List, ◌∷◌}
use mathlib.Core.Logic.{◌⊎◌, inl, inr}
use mathlib.Core.Path.{◌≡◌, ◌∙◌, refl, sym, ap}
use Prim.Native.Nat.{ℕ, suc, ◌+◌, ◌≤◌, ◌<◌}
use native.Mathlib.Omega.{arith}
use borrow.Author.Tests.{lt-ltb, le-ltb}
use lib.Dec.{eqb, ltb}
use lib.ListN.{length}
use Rattle.rows.proofs.Choice.{lt_or_ge}
use Rattle.words.specs.Search.{index_of}

or_end : (n m : ℕ) → n ≤ m → unwrap_or (cond (ltb n m) (Some n) None) m ≡ n
or_end n m h = by (lt_or_ge n m)
  where
    by : (n < m) ⊎ (m ≤ n) → unwrap_or (cond (ltb n m) (Some n) None) m ≡ n
    by (inl l) = simp (lt-ltb n m l)
    by (inr g) = simp (le-ltb n m g) (omega arith)

module _ (b : ℕ) (s : List ℕ) where
  abbrev pub is_b : ℕ → Bool
  is_b x = eqb x b

  next : (x : ℕ) (xs : List ℕ) → index_of b (x ∷ xs) ≡ cond (is_b x) 0 (1 + index_of b xs)
  unfolding index_of
  next x xs = let n : suc (index_of b xs) ≡ 1 + index_of b xs = omega arith in ap (λ (k : ℕ). cond (is_b x) 0 k) n

  pub found : (r : Option ℕ) → r ≡ cond (ltb (position_or_len is_b s) (length s)) (Some (position_or_len is_b s)) None → unwrap_or r (length s) ≡ index_of b s
  unfolding index_of
  found r e =
      let same : index_of b s ≡ position_or_len is_b s = is_position_or_len (index_of b) is_b refl next s in
      rw e (or_end (position_or_len is_b s) (length s) (prefix_len-le-length (λ x. not (is_b x)) s)) ∙ sym same
