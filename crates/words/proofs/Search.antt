-- Laws of a search byte by byte: what it knows where it stops, and where it goes on. Assumes nothing.
use Rattle.std.proofs.Common.{◌≡◌, ℕ, suc, ◌+◌, ◌<◌, List, length, drop, get_or, add-one, drop-cons}
use borrow.Author.Tests.{eq-eqb, ne_eqb}
use lib.Seq.{drop-length}
use Rattle.words.specs.Search.{index_of}

module _ (s : List ℕ) (b : ℕ) where
  pub here : (i : ℕ) → i < length s → get_or s i 0 ≡ b → index_of b (drop i s) ≡ 0
  unfolding index_of
  here i h e = rw (drop-cons s i 0 h) (simp (eq-eqb _ _ e))

  pub later : (i : ℕ) → i < length s → (get_or s i 0 ≡ b → ⊥) → index_of b (drop i s) ≡ suc (index_of b (drop (i + 1) s))
  unfolding index_of
  later i h e = rw (add-one, drop-cons s i 0 h) (simp (ne_eqb _ _ e))

  pub past : index_of b (drop (length s) s) ≡ 0
  unfolding index_of
  past = rw drop-length
