-- The reply to a year's list in any row, from that in a row that has room for every year's.
-- Assumes nothing.
use mathlib.Core.List.{List}
use mathlib.Core.Logic.{⊎_elim}
use mathlib.Core.Path.{◌≡◌, ◌∙◌, sym, ap}
use Prim.Native.Nat.{ℕ, ◌*◌, ◌≤◌, ◌<◌}
use native.Mathlib.Omega.{arith}
use lib.ListN.{length, take, drop}
use lib.Seq.{take_at, length-take-le}
use Rattle.rows.specs.Reply.{answer, refused, no_year, short_row, number_of, answer_said}
use Rattle.rows.specs.Row.{over, row_after}
use Rattle.measure.specs.Units.{last_year}
use Rattle.measure.specs.Epoch.{shoushi}
use Rattle.std.specs.Prelude.{Result, Ok, Err}
use Rattle.rows.specs.declared.Refusal.{Refusal}
use Rattle.rows.proofs.Choice.{lt_or_ge}
use Rattle.month_law.specs.Calendar.{Calendar, months_in}
use Rattle.edition.specs.Edition.{calendar}
use Rattle.month_law.proofs.Lists.{months_in_most}
use Rattle.edition.proofs.Edition.{shoushi_lawful}
use Rattle.lists.specs.Records.{record_width, year_room, records_of}
use Rattle.lists.specs.Lists.{list_reply}
use Rattle.lists.proofs.Asked.{list_late, list_short, list_answered}
use Rattle.lists.proofs.RecordLaws.{length_records}

abbrev c : Calendar
c = calendar shoushi

-- where the row with room got a number
module _ (n k : ℕ) (got : Result ℕ Refusal) (ensured : answer_said got ≡ list_reply shoushi n year_room) (case : got ≡ Ok k) where
  said : list_reply shoushi n year_room ≡ answer k
  said = sym ensured ∙ ap answer_said case

  admitted : n ≤ last_year
  admitted =
      ⊎_elim
      (λ (h : last_year < n). let never : ◌≡◌ {A = ℕ} 0 1 = cc (said, list_late shoushi n year_room h) in omega arith)
      (λ (h : n ≤ last_year). h)
      (lt_or_ge last_year n)

  counted : k ≡ months_in c n
  counted = cc (said, list_answered shoushi n year_room admitted (omega arith))

  pub count_most : k ≤ year_room
  count_most = omega (arith, counted, months_in_most c shoushi_lawful n)

  pub numbers_long : (now : List ℕ) → length now ≡ year_room * record_width → length (take (k * record_width) now) ≡ k * record_width
  numbers_long now e = length-take-le (k * record_width) now (omega (arith, count_most))

  pub short_refused : (room : ℕ) → room < year_room → list_reply shoushi n room ≡ refused short_row
  short_refused room h = list_short shoushi n room admitted h

  pub long_answered : (room : ℕ) → year_room ≤ room → list_reply shoushi n room ≡ answer k
  long_answered room h = list_answered shoushi n room admitted h ∙ ap answer (sym counted)

  -- the numbers that it was given
  pub numbers_given : (row now : List ℕ) → now ≡ row_after (list_reply shoushi n year_room) (records_of c n (months_in c n)) row
      → take (k * record_width) now ≡ records_of c n (months_in c n)
  unfolding over
  numbers_given row now e =
      let records : List ℕ = records_of c n (months_in c n) in
      let long : length (records_of c n (months_in c n)) ≡ k * record_width =
      omega (arith, length_records c n (months_in c n), counted) in
      rw (e, said) (take_at records (drop (length records) row) (k * record_width) long)

-- where it was refused
module _ (n : ℕ) (r : Refusal) (got : Result ℕ Refusal) (ensured : answer_said got ≡ list_reply shoushi n year_room) (case : got ≡ Err r) where
  none : list_reply shoushi n year_room ≡ refused (number_of r)
  none = sym ensured ∙ ap answer_said case

  late : last_year < n
  late =
      ⊎_elim (λ (h : last_year < n). h)
      (λ (h : n ≤ last_year). let never : ◌≡◌ {A = ℕ} 0 1 = cc (none, list_answered shoushi n year_room h (omega arith)) in omega arith)
      (lt_or_ge last_year n)

  pub year_refused : number_of r ≡ no_year
  year_refused = cc (none, list_late shoushi n year_room late)

  pub refused_in_any : (room : ℕ) → list_reply shoushi n room ≡ refused (number_of r)
  refused_in_any room = list_late shoushi n room late ∙ ap refused (sym year_refused)
