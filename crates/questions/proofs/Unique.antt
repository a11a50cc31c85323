-- The contract of `ask` determines its answer and every number of the row. Assumes nothing.
use mathlib.Core.List.{List}
use mathlib.Core.Path.{◌≡◌, ◌∙◌, refl, sym, ap}
use Prim.Native.Nat.{ℕ, ◌*◌, ◌/◌, ◌<◌}
use native.Mathlib.Omega.{arith}
use lib.ListN.{length}
use native.Mathlib.Nat.{mul-div_cancel_left}
use lib.Seq.{length-take-le}
use Rattle.rows.specs.Reply.{Reply, answer, refused, number_of, answer_said}
use Rattle.std.specs.Prelude.{Result, Ok, Err}
use Rattle.rows.specs.declared.Refusal.{Refusal}
use Rattle.rows.proofs.Determined.{OneOutcome, refusal_of, refusal_back, answer_meant, answer_back}
use Rattle.remainders.proofs.Unique.{hour_meant, hour_back, days_meant, days_back}
use Rattle.months.proofs.Unique.{answer_meant as month_meant, answer_back as month_back}
use Rattle.lists.specs.Records.{record_width}
use Rattle.questions.specs.DeskReply.{DeskReply, malformed, number, moment, signed, month, name, hour, days, terms, year, years, sheet, constants, help, list_in, desk_said, Few, Lies}
use Rattle.questions.specs.declared.DeskAnswer.{DeskAnswer}
use Rattle.questions.specs.declared.DeskAnswer.TheVariants.{Malformed, Number, Moment, Signed, Month, Name, Hour, Days, Terms, Year, Years, Sheet, Constants, Help}
use Rattle.questions.proofs.ask.Kinds as ask
use Rattle.questions.proofs.ask.Reads as ask_reads

-- a list with w numbers for each, counted
counted : ℕ → Reply (List ℕ) → Result ℕ Refusal
counted w (answer list) = Ok (length list / w)
counted w (refused k) = Err (refusal_of k)

counted_back : (w most : ℕ) (a : Result ℕ Refusal) (row : List ℕ) → 0 < w → Few w most (answer_said a) (length row) → counted w (list_in w (answer_said a) row) ≡ a
unfolding counted
counted_back w most (Ok k) row h few =
    ap Ok (ap (λ (n : ℕ). n / w) (length-take-le (w * k) row few.1) ∙ mul-div_cancel_left k h)
counted_back w most (Err r) row h few = ap Err (refusal_back r)

desk_meant : DeskReply → DeskAnswer Refusal
desk_meant malformed = Malformed
desk_meant (number r) = Number (answer_meant r)
desk_meant (moment r) = Moment (answer_meant r)
desk_meant (signed r) = Signed (answer_meant r)
desk_meant (month r) = Month (month_meant r)
desk_meant (name n) = Name n
desk_meant (hour r) = Hour (hour_meant r)
desk_meant (days r) = Days (days_meant r)
desk_meant (terms r) = Terms (counted 1 r)
desk_meant (year r) = Year (counted record_width r)
desk_meant (years r) = Years (counted record_width r)
desk_meant (sheet r) = Sheet (counted 1 r)
desk_meant constants = Constants
desk_meant help = Help

desk_back : (r : DeskAnswer Refusal) (row : List ℕ) → Lies number_of r (length row) → desk_meant (desk_said number_of r row) ≡ r
unfolding desk_meant
desk_back Malformed row h = refl
desk_back (Number a) row h = ap Number (answer_back a)
desk_back (Moment a) row h = ap Moment (answer_back a)
desk_back (Signed a) row h = ap Signed (answer_back a)
desk_back (Month a) row h = ap Month (month_back a)
desk_back (Name n) row h = refl
desk_back (Hour a) row h = ap Hour (hour_back a)
desk_back (Days a) row h = ap Days (days_back a)
desk_back (Terms a) row h = ap Terms (counted_back 1 _ a row (omega arith) h)
desk_back (Year a) row h = ap Year (counted_back record_width _ a row (omega arith) h)
desk_back (Years a) row h = ap Years (counted_back record_width _ a row (omega arith) h)
desk_back (Sheet a) row h = ap Sheet (counted_back 1 _ a row (omega arith) h)
desk_back Constants row h = refl
desk_back Help row h = refl

pub ask_unique : OneOutcome ask.ps ask.r ask_reads.Post (λ κs s. s.1.0.now)
ask_unique κs a x y s t p q = (
  sym (desk_back x _ p.lies) ∙ ap desk_meant (p.said ∙ sym q.said) ∙ desk_back y _ q.lies,
  p.written ∙ sym q.written,
)
