-- Laws of a text's first part, and of what follows it, as those of a line's word after the text's first byte. Assumes nothing.
use Rattle.std.proofs.Common.{drop-drop}
use mathlib.Core.Path.{◌≡◌, ◌∙◌, refl, ap}
use mathlib.Core.List.{List, [], ◌∷◌}
use Prim.Native.Nat.{ℕ, ◌+◌, ◌-◌, ◌<◌}
use lib.ListN.{length, take, drop, get_or, length-drop}
use lib.Seq.{take-length}
use native.Mathlib.Omega.{arith}
use borrow.Author.Tests.{eq-eqb, ne_eqb}
use Rattle.words.specs.Search.{index_of}
use Rattle.words.specs.Line.{word_of, after_word}
use Rattle.words.specs.Numbers.{end_of, part_of, rest_of}

-- where the word ends, as a search from the line's start answers it
pub word_end_is : (line : List ℕ) → 0 + index_of 32 (drop 0 line) ≡ index_of 32 line
word_end_is line = omega arith

-- and the part, as a search from the place after its blank does
pub end_is : (s : List ℕ) → 1 + index_of 32 (drop 1 s) ≡ end_of s
unfolding end_of
end_is s = refl

module _ (s : List ℕ) where
  -- a text without its first byte, as a pattern gives it
  past_first : take (length s - 1) (drop 1 s) ≡ drop 1 s
  past_first = rw (← length-drop 1 s) (take-length (drop 1 s))

  pub part_blank : get_or s 0 0 ≡ 32 → word_of (take (length s - 1) (drop 1 s)) ≡ part_of s
  unfolding part_of end_of word_of
  part_blank e =
      let n : index_of 32 (drop 1 s) ≡ 1 + index_of 32 (drop 1 s) - 1 = omega arith in
      ap word_of past_first ∙ simp (eq-eqb _ _ e) (ap (λ (k : ℕ). take k (drop 1 s)) n)

  pub part_other : (get_or s 0 0 ≡ 32 → ⊥) → [] ≡ part_of s
  unfolding part_of
  part_other h = simp (ne_eqb _ _ h)

  pub rest_after : after_word (take (length s - 1) (drop 1 s)) ≡ rest_of s
  unfolding rest_of end_of after_word
  rest_after = ap after_word past_first ∙ drop-drop (index_of 32 (drop 1 s)) 1 s

-- an empty text has no part, and nothing follows
pub part_none : (s : List ℕ) → length s < 1 → [] ≡ part_of s
unfolding part_of
part_none [] h = refl
part_none (x ∷ xs) h = absurd (omega arith)

pub rest_none : (s : List ℕ) → length s < 1 → s ≡ rest_of s
unfolding rest_of end_of index_of
rest_none [] h = refl
rest_none (x ∷ xs) h = absurd (omega arith)
