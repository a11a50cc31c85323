-- How many numbers a line's list takes: a number for each year is enough for every list but the months of many years.
-- Assumes nothing.
use Rattle.std.specs.Prelude.{Option, Some, None, if◌then◌else◌}
use mathlib.Core.Bool.{false}
use mathlib.Core.List.{List}
use mathlib.Core.Path.{◌≡◌, refl, ap, ap₂}
use Prim.Native.Nat.{ℕ, suc, ◌/◌, ◌≤◌}
use native.Mathlib.Omega.{arith}
use lib.ListN.{length}
use Rattle.rows.specs.Choice.{◌<?◌}
use Rattle.rows.specs.Reply.{Reply, answer, refused}
use Rattle.measure.specs.Units.{last_year}
use Rattle.measure.specs.Epoch.{shoushi}
use Rattle.seasons.proofs.TermLaws.{terms_in_room}
use Rattle.lists.specs.Records.{record_width, year_room}
use Rattle.lists.proofs.Asked.{list_in_room}
use Rattle.words.specs.Choice.{chosen}
use Rattle.words.specs.Line.{word_of, after_word}
use Rattle.words.specs.Numbers.{numbers_of}
use Rattle.words.specs.Text.{◌is◌}
use Rattle.words.specs.declared.Numbers.{Numbers}
use Rattle.words.specs.declared.Numbers.TheVariants.{Nothing, One, Two, Three}
use Rattle.sheets.specs.Marks.{agreeing}
use Rattle.sheets.specs.declared.Mark.{Mark}
use Rattle.sheets.proofs.OnSheet.{sheet_in_room}
use Rattle.questions.specs.DeskReply.{DeskReply, malformed, sheet, as_list}
use Rattle.questions.specs.MarkWords.{marks_in}
use Rattle.questions.specs.Question.{with_one, with_two, on_numbers, on_marks, longest, reply_to}

module _ (a b : ℕ) (h : suc last_year ≤ a) (g : suc last_year ≤ b) where
  on_marks_lem : (m : Reply (List Mark)) → on_marks shoushi a m ≡ on_marks shoushi b m
  on_marks_lem (answer marks) = ap (λ (r : Reply ℕ). sheet (as_list r (agreeing shoushi marks))) (sheet_in_room shoushi marks a b h g)
  on_marks_lem (refused k) = refl

  on_numbers_lem : (word rest : List ℕ) (n : Option Numbers) → (word is "years") ≡ false → on_numbers shoushi a word rest n ≡ on_numbers shoushi b word rest n
  unfolding chosen with_one with_two
  on_numbers_lem word rest (Some Nothing) other = refl
  on_numbers_lem word rest (Some (One n)) other =
      let ra : year_room ≤ a / record_width = omega arith in
      let rb : year_room ≤ b / record_width = omega arith in
      simp (terms_in_room n a b (omega arith) (omega arith), list_in_room shoushi n (a / record_width) (b / record_width) ra rb)
  on_numbers_lem word rest (Some (Two n i)) other = simp other
  on_numbers_lem word rest (Some (Three n i p)) other = refl
  on_numbers_lem word rest None other = refl

  pub enough : (line : List ℕ) → (word_of line is "years") ≡ false → reply_to shoushi a line ≡ reply_to shoushi b line
  unfolding reply_to
  enough line other =
      ap₂ (λ (x y : DeskReply). if longest <? length line then malformed else if word_of line is "sheet" then x else y)
      (on_marks_lem (marks_in (after_word line)))
      (on_numbers_lem (word_of line) (after_word line) (numbers_of (after_word line)) other)
