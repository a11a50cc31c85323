-- Laws of a torn sheet that was read: its years are those of the marks of the text, and a text that is not all marks is refused.
-- Assumes nothing.
use Rattle.std.specs.Prelude.{Some, None}
use Rattle.std.proofs.lemmas.Option.{none-some, same_Some}
use mathlib.Core.List.{List}
use mathlib.Core.Path.{◌≡◌, ◌∙◌, refl, sym, ap}
use Prim.Native.Nat.{ℕ}
use Rattle.rows.specs.Reply.{Reply, answer, refused, bad_line}
use Rattle.rows.specs.Row.{over}
use Rattle.std.specs.Prelude.{Err}
use Rattle.rows.specs.declared.Refusal.TheVariants.{BadLine}
use Rattle.measure.specs.Epoch.{shoushi}
use Rattle.sheets.specs.Sheet.{blank_sheet, with_marks, fitting, fitting_reply}
use Rattle.sheets.specs.declared.Sheet.{Sheet}
use Rattle.sheets.specs.declared.Mark.{Mark}
use Rattle.sheets.proofs.OnSheet.{outcome_same}
use Rattle.questions.specs.DeskReply.{sheet, as_list, Answers}
use Rattle.questions.specs.MarkWords.{marks_in, sheet_read}
use Rattle.questions.specs.Question.{on_marks}
use Rattle.questions.specs.declared.DeskAnswer.TheVariants.{Sheet as AsSheet}
use Rattle.questions.proofs.MarkLaws.{refused_so}

module _ (text : List ℕ) (room : ℕ) where
  pub whole_sheet : (s : Sheet) → Some s ≡ sheet_read (marks_in text)
      → sheet (as_list (fitting_reply shoushi s room) (fitting shoushi s)) ≡ on_marks shoushi room (marks_in text)
  whole_sheet s e = by (marks_in text) e
    where
      by : (m : Reply (List Mark)) → Some s ≡ sheet_read m
          → sheet (as_list (fitting_reply shoushi s room) (fitting shoushi s)) ≡ on_marks shoushi room m
      by (answer marks) f = rw (same_Some s (with_marks blank_sheet marks) f) (ap sheet (outcome_same marks room as_list (λ k a b. refl)))
      by (refused k) f = absurd (none-some s (sym f))

  pub no_sheet : None ≡ sheet_read (marks_in text) → sheet (refused bad_line) ≡ on_marks shoushi room (marks_in text)
  no_sheet e = by (marks_in text) refl
    where
      by : (m : Reply (List Mark)) → marks_in text ≡ m → sheet (refused bad_line) ≡ on_marks shoushi room m
      by (answer marks) f = absurd (none-some (with_marks blank_sheet marks) (e ∙ ap sheet_read f))
      by (refused k) f = ap (λ (j : ℕ). sheet (refused j)) (sym (refused_so text k f))

pub bad_sheet : (row : List ℕ) → Answers (sheet (refused bad_line)) (AsSheet (Err BadLine)) row row
unfolding over
bad_sheet row = record { said = refl; written = refl; lies = tt }
