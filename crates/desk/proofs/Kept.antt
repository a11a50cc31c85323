-- What is kept of a line, byte by byte. Assumes nothing.
use mathlib.Core.Path.{◌≡◌, ◌∙◌, refl, sym, ap}
use mathlib.Core.List.{List, [], ◌∷◌, ◌++◌}
use Prim.Native.Nat.{ℕ, ◌+◌, ◌≤◌, ◌<◌}
use native.Mathlib.Numerals.{add-one}
use native.Mathlib.Omega.{arith}
use borrow.Author.Tests.{eq-eqb, ne_eqb}
use lib.ListN.{length, take, drop, get_or, set, length-append, take-append-drop}
use lib.Seq.{take-suc, take_all, take_at, length-take-le}
use Rattle.frames.specs.LineEnds.{line_end}
use Rattle.rows.specs.Row.{over}
use Rattle.rows.proofs.Row.{put, written}
use Rattle.measure.specs.Epoch.{shoushi}
use Rattle.ask.specs.AnswerText.{answer_text}
use Rattle.desk.specs.Input.{with_more, with_byte, kept_after, last_text}

-- the first bytes of a row, written over it, leave it as it was
pub over_itself : (k : ℕ) (row : List ℕ) → k ≤ length row → row ≡ over (take k row) row
unfolding over
over_itself k row fits = sym (ap (λ (j : ℕ). take k row ++ drop j row) (length-take-le k row fits) ∙ take-append-drop k row)

-- one byte more, as far as there is room
module _ (line : List ℕ) (k b : ℕ) (fits : k ≤ length line) where
  begun : length (take k line) ≡ k
  begun = length-take-le k line fits

  long : length (take k line ++ (b ∷ [])) ≡ k + 1
  long = omega (arith, begun, length-append (take k line) (b ∷ []))

  pub with_room : k < length line → set line k b ≡ over (with_more (length line) (take k line) b) line
  with_room h =
      let all : take k line ++ (b ∷ []) ≡ with_more (length line) (take k line) b =
      sym (take_all (length line) (take k line ++ (b ∷ [])) (omega (arith, long))) in
      put (take k line) line line b k (over_itself k line fits) begun h ∙ ap (λ (l : List ℕ). over l line) all

  pub full : length line ≤ k → line ≡ over (with_more (length line) (take k line) b) line
  full g =
      let all : take k line ≡ with_more (length line) (take k line) b =
      sym (take_at (take k line) (b ∷ []) (length line) (omega (arith, begun))) in
      over_itself k line fits ∙ ap (λ (l : List ℕ). over l line) all

-- what is kept of a line whose row was written over
pub line_of_row : (more : ℕ → List ℕ → List ℕ) (row line now : List ℕ) (k n room : ℕ) → length row ≡ room → take k row ≡ line
    → n ≡ length (more (length row) (take k row)) → now ≡ over (more (length row) (take k row)) row → take n now ≡ more room line
line_of_row more row line now k n room long is count over_row =
    written (more (length row) (take k row)) row now n (sym count) over_row ∙ ap (λ (r : ℕ). more r (take k row)) long ∙ ap (more room) is

kept_snoc : (room : ℕ) (line bs : List ℕ) (b : ℕ) → kept_after room line (bs ++ (b ∷ [])) ≡ with_byte room (kept_after room line bs) b
unfolding kept_after
kept_snoc room line [] b = refl
kept_snoc room line (x ∷ bs) b = kept_snoc room (with_byte room line x) bs b

module _ (room : ℕ) (line block : List ℕ) (i : ℕ) (h : i < length block) where
  next : kept_after room line (take (i + 1) block) ≡ with_byte room (kept_after room line (take i block)) (get_or block i 0)
  next =
      ap (λ (k : ℕ). kept_after room line (take k block)) (add-one i)
      ∙ ap (kept_after room line) (take-suc block i 0 h)
      ∙ kept_snoc room line (take i block) (get_or block i 0)

  -- a line ends, and nothing is kept of it
  pub ended : get_or block i 0 ≡ line_end → kept_after room line (take (i + 1) block) ≡ []
  unfolding with_byte
  ended e = next ∙ simp (eq-eqb _ _ e)

  -- a line goes on
  pub goes_on : (get_or block i 0 ≡ line_end → ⊥)
      → kept_after room line (take (i + 1) block) ≡ take room (kept_after room line (take i block) ++ (get_or block i 0 ∷ []))
  unfolding with_byte
  goes_on e = next ∙ simp (ne_eqb _ _ e)

-- before the first byte
pub at_start : (room : ℕ) (line block : List ℕ) → line ≡ kept_after room line (take 0 block)
unfolding kept_after
at_start room line block = refl

-- no line was begun
pub no_line : (line : List ℕ) → length line ≡ 0 → last_text line ≡ []
unfolding last_text
no_line [] h = refl
no_line (b ∷ bs) h = absurd (omega arith)

pub a_line : (line : List ℕ) → (length line ≡ 0 → ⊥) → last_text line ≡ answer_text shoushi line
unfolding last_text
a_line [] h = absurd (h refl)
a_line (b ∷ bs) h = refl
