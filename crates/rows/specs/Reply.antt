-- "Refused, by number": the paper's reply to a question, and when each number is given.
-- Assumes nothing.
use Rattle.std.specs.Prelude.{Bool, true, false, ℕ, Result, Ok, Err}
use Rattle.rows.specs.declared.Refusal.{Refusal}
use Rattle.rows.specs.declared.Refusal.TheVariants.{NoYear, Outside, NoDay, ShortRow, BadLine}

-- what was asked for, or a refusal with its number
pub data Reply (A : Type 0) : Type 0 where
  answer : A → Reply A
  refused : ℕ → Reply A

-- a year, or a run of years, outside 0 to the last
abbrev pub no_year : ℕ
no_year = 1

-- a lunation, quarter, term, pentad, place, whole limit, day of month, time or remainder outside its list
abbrev pub outside : ℕ
outside = 2

-- a day outside the calendar
abbrev pub no_day : ℕ
no_day = 3

-- a lent row that is too short
abbrev pub short_row : ℕ
short_row = 4

-- a malformed line
abbrev pub bad_line : ℕ
bad_line = 5

-- refused with k where the test holds, else what follows; the order of refusals is the order of these
abbrev pub refuse_if : {A : Type 0} → Bool → ℕ → Reply A → Reply A
refuse_if true k later = refused k
refuse_if false k later = later

-- the number of each refusal
abbrev pub number_of : Refusal → ℕ
number_of NoYear = no_year
number_of Outside = outside
number_of NoDay = no_day
number_of ShortRow = short_row
number_of BadLine = bad_line

-- the paper's reply that a result stands for, by what its value says and what number its refusal has
abbrev pub reply_of : {A B R : Type 0} → (A → B) → (R → ℕ) → Result A R → Reply B
reply_of says number (Ok it) = answer (says it)
reply_of says number (Err r) = refused (number r)

abbrev pub answer_by : {A R : Type 0} → (R → ℕ) → Result A R → Reply A
answer_by number a = reply_of (λ it. it) number a

abbrev pub answer_said : {A : Type 0} → Result A Refusal → Reply A
answer_said a = answer_by number_of a
