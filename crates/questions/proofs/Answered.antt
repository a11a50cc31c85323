-- Laws of answers: no question leaves the row as it is, and a list stands in the row from its start.
-- Assumes nothing.
use mathlib.Core.List.{List}
use mathlib.Core.Path.{◌≡◌, ◌∙◌, refl, ap}
use Prim.Native.Nat.{ℕ, suc, ◌*◌, ◌≤◌}
use native.Mathlib.Omega.{arith}
use lib.ListN.{length}
use Rattle.rows.specs.Reply.{Reply, answer, refused, answer_said}
use Rattle.rows.specs.Row.{over, row_after}
use Rattle.std.specs.Prelude.{Result}
use Rattle.rows.specs.declared.Refusal.{Refusal}
use Rattle.rows.proofs.Row.{written, over_least}
use Rattle.measure.specs.Units.{last_year}
use Rattle.seasons.specs.Terms.{terms as terms_in_year}
use Rattle.lists.specs.Records.{record_width, year_room}
use Rattle.questions.specs.DeskReply.{DeskReply, malformed, terms, year, years, sheet, as_list, list_of, list_in, most_records, Few, Answers}
use Rattle.questions.specs.declared.DeskAnswer.{DeskAnswer}
use Rattle.questions.specs.declared.DeskAnswer.TheVariants.{Malformed, Terms, Year, Years, Sheet}

-- the reply is the same
pub answers_as : {told reply : DeskReply} {r : DeskAnswer Refusal} {before after : List ℕ} → told ≡ reply → Answers told r before after
    → Answers reply r before after
answers_as e h = rw e at h

pub no_question : (row : List ℕ) → Answers malformed Malformed row row
unfolding over
no_question row = record { said = refl; written = refl; lies = tt }

-- a list with w numbers for each of so many, of which there are not more than `most`
abbrev pub Long : ℕ → ℕ → Reply ℕ → List ℕ → Type 0
Long w most reply list = (k : ℕ) → reply ≡ answer k → (length list ≡ w * k) × (k ≤ most)

-- a row that holds such a list
module _ (list before after : List ℕ) where
  in_row : (w most : ℕ) (reply : Reply ℕ) → Long w most reply list → after ≡ row_after reply list before → list_in w reply after ≡ as_list reply list
  in_row w most (answer k) long e = ap answer (written list before after (w * k) (long k refl).0 e)
  in_row w most (refused k) long e = refl

  over_row : (reply : Reply ℕ) → after ≡ row_after reply list before → after ≡ over (list_of (as_list reply list)) before
  unfolding over
  over_row (answer k) e = e
  over_row (refused k) e = e

  lies_in : (w most : ℕ) (reply : Reply ℕ) → Long w most reply list → after ≡ row_after reply list before → Few w most reply (length after)
  lies_in w most (answer k) long e = ((long k refl).1, omega (arith, (long k refl).0, over_least list before, ap length e))
  lies_in w most (refused k) long e = tt

  module _ (a : Result ℕ Refusal) (reply : Reply ℕ) (e : answer_said a ≡ reply) (row : after ≡ row_after reply list before) where
    held_as : (w most : ℕ) → Long w most reply list → list_in w (answer_said a) after ≡ as_list reply list
    held_as w most long = ap (λ (r : Reply ℕ). list_in w r after) e ∙ in_row w most reply long row

    lies_as : (w most : ℕ) → Long w most reply list → Few w most (answer_said a) (length after)
    lies_as w most long = rw e (lies_in w most reply long row)

    pub terms_answers : Long 1 terms_in_year reply list → Answers (terms (as_list reply list)) (Terms a) before after
    terms_answers long =
        record { said = ap terms (held_as 1 terms_in_year long); written = over_row reply row; lies = lies_as 1 terms_in_year long }

    pub year_answers : Long record_width year_room reply list → Answers (year (as_list reply list)) (Year a) before after
    year_answers long =
        record {
          said = ap year (held_as record_width year_room long);
          written = over_row reply row;
          lies = lies_as record_width year_room long;
        }

    pub years_answers : Long record_width most_records reply list → Answers (years (as_list reply list)) (Years a) before after
    years_answers long =
        record {
          said = ap years (held_as record_width most_records long);
          written = over_row reply row;
          lies = lies_as record_width most_records long;
        }

    pub sheet_answers : Long 1 (suc last_year) reply list → Answers (sheet (as_list reply list)) (Sheet a) before after
    sheet_answers long =
        record { said = ap sheet (held_as 1 (suc last_year) long); written = over_row reply row; lies = lies_as 1 (suc last_year) long }
