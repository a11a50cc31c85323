-- Laws of what a word chooses: what stands for none, where the word is no text. Assumes nothing.
use Rattle.std.specs.Str.{IsUtf8, IsAscii}
use Rattle.std.proofs.lemmas.Str.{IsUtf8-from_ascii}
use Rattle.std.proofs.lemmas.Str.Ascii.{IsAscii-nil, IsAscii-cons}
use mathlib.Core.Bool.{Bool, true, false, ◌&&◌}
use mathlib.Core.List.{List, [], ◌∷◌}
use mathlib.Core.Path.{◌≡◌, refl}
use Prim.Native.Nat.{ℕ}
use borrow.Author.Tests.{ltb-true}
use lib.Dec.{ltb}
use Rattle.rows.proofs.Choice.{left_passes, right_passes}
use Rattle.words.specs.Ascii.{bytes_of}
use Rattle.words.specs.Text.{same}
use Rattle.words.specs.Choice.{Choices, chosen}
use Rattle.words.proofs.Same.{unlike}

-- the bytes of ASCII, and a list of choices whose words are of these
abbrev pub ascii : List ℕ → Bool
ascii [] = true
ascii (x ∷ s) = ltb x 128 && ascii s

abbrev pub in_ascii : {A : Type 0} → Choices A → Bool
in_ascii [] = true
in_ascii (q ∷ more) = ascii (bytes_of q.0) && in_ascii more

all_ascii : (s : List ℕ) → ascii s ≡ true → IsAscii s
all_ascii [] e = IsAscii-nil
all_ascii (x ∷ s) e = IsAscii-cons x s (ltb-true x 128 (left_passes (ltb x 128) (ascii s) e)) (all_ascii s (right_passes (ltb x 128) (ascii s) e))

module _ (word : List ℕ) (no_text : IsUtf8 word → ⊥) where
  pub not_ascii : (s : List ℕ) → ascii s ≡ true → same word s ≡ false
  not_ascii s e = unlike word s (λ same. no_text (rw same (IsUtf8-from_ascii s (all_ascii s e))))

  pub none_chosen : {A : Type 0} (other : A) (qs : Choices A) → in_ascii qs ≡ true → other ≡ chosen other word qs
  unfolding chosen
  none_chosen other [] e = refl
  none_chosen other (q ∷ more) e =
      simp (not_ascii (bytes_of q.0) (left_passes (ascii (bytes_of q.0)) (in_ascii more) e)) (none_chosen other more (right_passes (ascii (bytes_of q.0)) (in_ascii more) e))
