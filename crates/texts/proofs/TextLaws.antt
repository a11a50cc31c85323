-- Laws of texts with holes: one byte of the template more, how long a text can be, one template after another, and
-- more numbers than it takes.
-- Assumes nothing.
use Rattle.std.specs.Prelude.{if◌then◌else◌}
use mathlib.Core.Bool.{Bool, true, false}
use mathlib.Core.Path.{◌≡◌, ◌∙◌, refl, sym, ap}
use mathlib.Core.List.{List, [], ◌∷◌, ◌++◌, append_assoc, append-nil}
use Prim.Native.Nat.{ℕ, ◌+◌, ◌≤◌, ◌<◌}
use native.Mathlib.Numerals.{add-one}
use native.Mathlib.Omega.{arith}
use lib.ListN.{length, get_or, drop, drop_of_length-le, length-append, length-drop, get_or-append}
use lib.Seq.{drop-cons, drop-drop, drop-append-le}
use borrow.Author.Tests.{ne_eqb}
use denote.Bor.{Bor}
use Rattle.std.specs.Prelude.{Option, Some, None, unwrap_or, option_copied}
use Rattle.std.specs.declared.slice.Iter.{Iter}
use Rattle.std.proofs.lemmas.Grind.{common_steps}
use Rattle.std.specs.Slice.Iter.{iter_rest, iter_steps}
use Rattle.rows.specs.Choice.{◌=?◌}
use Rattle.rows.proofs.Choice.{if_cases}
use Rattle.texts.specs.Text.{decimal, hole, piece, numbers_taken, holes, filled, most_digits, text_room}
use Rattle.texts.proofs.DecimalLaws.{decimal_most}

-- all is written where the template has no byte left
pub filled_none : (t ns l : List ℕ) (i : ℕ) → length t ≤ i → l ++ filled (drop i t) ns ≡ l
unfolding filled
filled_none t ns l i h = rw (drop_of_length-le t h, append-nil l)

-- one byte more of a template: a hole takes the next of the numbers that are left, and any other byte none
pub filled_hole : (t ns : List ℕ) (i : ℕ) → i < length t → get_or t i 0 ≡ hole
    → filled (drop i t) ns ≡ decimal (get_or ns 0 0) ++ filled (drop (i + 1) t) (drop 1 ns)
unfolding filled piece numbers_taken
filled_hole t ns i h e = rw (add-one, drop-cons t i 0 h, e)

pub filled_byte : (t ns : List ℕ) (i : ℕ) → i < length t → (get_or t i 0 ≡ hole → ⊥)
    → filled (drop i t) ns ≡ (get_or t i 0 ∷ []) ++ filled (drop (i + 1) t) ns
unfolding filled piece numbers_taken
filled_byte t ns i h e = rw (add-one, drop-cons t i 0 h, ne_eqb (get_or t i 0) hole e)

-- the next of the numbers that are left, and those left after it
pub next_number : (r : Option (Bor ℕ)) (s t : Iter ℕ) → iter_steps s r t
    → (unwrap_or (option_copied r) 0 ≡ get_or (iter_rest s) 0 0) × (iter_rest t ≡ drop 1 (iter_rest s))
next_number None s t h = grind (arith, common_steps)
next_number (Some x) s t h = grind (arith, common_steps)

pub piece_most : (b n : ℕ) → length (piece b n) ≤ most_digits
unfolding piece
piece_most b n =
    if_cases (λ (l : List ℕ). length l ≤ most_digits) (decimal n) (b ∷ []) (b =? hole) (λ _. decimal_most n) (λ _. omega arith)

-- so a text has room in what its template asks for
pub filled_most : (t ns : List ℕ) → length (filled t ns) ≤ text_room t
unfolding filled
filled_most [] ns = omega arith
filled_most (b ∷ t) ns =
    omega (
      arith,
      length-append (piece b (get_or ns 0 0)) (filled t (drop (numbers_taken b) ns)),
      piece_most b (get_or ns 0 0),
      filled_most t (drop (numbers_taken b) ns),
    )

-- two templates in a row: the second takes the numbers that the first leaves
pub filled_append : (s t ns : List ℕ) → filled (s ++ t) ns ≡ filled s ns ++ filled t (drop (holes s) ns)
unfolding filled holes
filled_append [] t ns = refl
filled_append (b ∷ s) t ns =
    let first = piece b (get_or ns 0 0) in
    let rest = filled s (drop (numbers_taken b) ns) in
    ap (λ (l : List ℕ). first ++ l) (filled_append s t (drop (numbers_taken b) ns))
    ∙ sym (append_assoc first rest (filled t (drop (holes s) (drop (numbers_taken b) ns))))
    ∙ ap (λ (l : List ℕ). (first ++ rest) ++ filled t l) (drop-drop (holes s) (numbers_taken b) ns)

pub holes_append : (s t : List ℕ) → holes (s ++ t) ≡ holes s + holes t
unfolding holes
holes_append [] t = omega arith
holes_append (b ∷ s) t = omega (arith, holes_append s t)

-- numbers past those that a template takes do not show
next_piece : (b : ℕ) (ns more : List ℕ) → numbers_taken b ≤ length ns → piece b (get_or (ns ++ more) 0 0) ≡ piece b (get_or ns 0 0)
unfolding piece numbers_taken
next_piece b ns more h = next (b =? hole) h
  where
    next : (t : Bool) → (if t then 1 else 0) ≤ length ns
        → (if t then decimal (get_or (ns ++ more) 0 0) else b ∷ []) ≡ (if t then decimal (get_or ns 0 0) else b ∷ [])
    next true g = ap decimal (get_or-append ns more 0 0 g)
    next false g = refl

pub filled_enough : (t ns more : List ℕ) → holes t ≤ length ns → filled t (ns ++ more) ≡ filled t ns
unfolding filled holes
filled_enough [] ns more h = refl
filled_enough (b ∷ t) ns more h =
    let some : numbers_taken b ≤ length ns = omega arith in
    let left : holes t ≤ length (drop (numbers_taken b) ns) = simp length-drop (omega arith) in
    rw (next_piece b ns more some, drop-append-le (numbers_taken b) ns more some, filled_enough t (drop (numbers_taken b) ns) more left)
