-- Laws of bytes that are no text: as a line's word, as a half or as a mark's word they ask nothing.
-- Assumes nothing.
use Rattle.std.specs.Prelude.{Option, Some, None, if◌then◌else◌}
use Rattle.std.specs.Str.{IsUtf8}
use mathlib.Core.Bool.{Bool, true, false}
use mathlib.Core.List.{List}
use mathlib.Core.Path.{◌≡◌, refl, sym}
use Prim.Native.Nat.{ℕ}
use lib.ListN.{length}
use Rattle.rows.specs.Choice.{◌<?◌}
use Rattle.measure.specs.Epoch.{Epoch}
use Rattle.words.specs.Number.{number_of}
use Rattle.words.specs.Line.{word_of, after_word}
use Rattle.words.specs.Numbers.{part_of, rest_of, numbers_of}
use Rattle.words.specs.Ascii.{bytes_of}
use Rattle.words.specs.Choice.{chosen}
use Rattle.words.specs.declared.Numbers.{Numbers}
use Rattle.words.specs.declared.Numbers.TheVariants.{Nothing, One, Two, Three}
use Rattle.words.proofs.Chosen.{not_ascii, none_chosen}
use Rattle.questions.specs.DeskReply.{malformed}
use Rattle.questions.specs.MarkWords.{showing, number_marked, mark_of}
use Rattle.questions.specs.Question.{◌among◌, alone, with_one, with_two, with_three, solar_in, lunar_in, motion_in, with_half, on_half, on_numbers, longest, reply_to}

if_same : (t : Bool) → (if t then malformed else malformed) ≡ malformed
if_same true = refl
if_same false = refl

pub no_half : (word half : List ℕ) (t : ℕ) → (IsUtf8 half → ⊥) → malformed ≡ word among with_half half t
unfolding chosen with_half solar_in lunar_in motion_in
no_half word half t h =
    sym (simp (
      ← none_chosen half h malformed (solar_in t) refl,
      ← none_chosen half h malformed (lunar_in t) refl,
      ← none_chosen half h malformed (motion_in t) refl,
      if_same,
    ))

module _ (word : List ℕ) (h : IsUtf8 word → ⊥) where
  on_half_lem : (half : List ℕ) (n : Option Numbers) → malformed ≡ on_half word half n
  unfolding with_half
  on_half_lem half (Some Nothing) = refl
  on_half_lem half (Some (One t)) = none_chosen word h malformed (with_half half t) refl
  on_half_lem half (Some (Two a b)) = refl
  on_half_lem half (Some (Three a b c)) = refl
  on_half_lem half None = refl

  on_numbers_lem : (e : Epoch) (room : ℕ) (rest : List ℕ) (n : Option Numbers) → malformed ≡ on_numbers e room word rest n
  unfolding alone with_one with_two with_three
  on_numbers_lem e room rest (Some Nothing) = none_chosen word h malformed alone refl
  on_numbers_lem e room rest (Some (One n)) = none_chosen word h malformed (with_one e room n) refl
  on_numbers_lem e room rest (Some (Two n i)) = none_chosen word h malformed (with_two e room n i) refl
  on_numbers_lem e room rest (Some (Three n i p)) = none_chosen word h malformed (with_three e n i p) refl
  on_numbers_lem e room rest None = on_half_lem (part_of rest) (numbers_of (rest_of rest))

pub no_word : (e : Epoch) (room : ℕ) (line : List ℕ) → (longest <? length line) ≡ false → (IsUtf8 (word_of line) → ⊥) → malformed ≡ reply_to e room line
unfolding reply_to
no_word e room line short h =
    simp (short, not_ascii (word_of line) h (bytes_of "sheet") refl)
    (on_numbers_lem (word_of line) h e room (after_word line) (numbers_of (after_word line)))

pub no_mark_word : (s : List ℕ) → (IsUtf8 (part_of s) → ⊥) → None ≡ mark_of s
unfolding mark_of showing
no_mark_word s h =
    simp (not_ascii (part_of s) h (bytes_of "leap") refl)
    (by (number_of (part_of (rest_of s))) (number_of (part_of (rest_of (rest_of s)))))
  where
    by : (p n : Option ℕ) → None ≡ number_marked (part_of s) p n
    by (Some p) (Some n) = none_chosen (part_of s) h None (showing p n) refl
    by (Some p) None = refl
    by None n = refl
