-- What the desk replies: the calendar's reply, by the kind of what was asked for; and what an answer of the code says, with a lent row that
-- holds its numbers.
-- Assumes nothing.
use Rattle.std.specs.Prelude.{List, [], ◌≡◌, ℕ, suc, ◌*◌, ◌≤◌, ℤ, length, take}
use Rattle.rows.specs.Reply.{Reply, answer, refused, number_of, reply_of, answer_by}
use Rattle.rows.specs.declared.Refusal.{Refusal}
use Rattle.rows.specs.Row.{over}
use Rattle.measure.specs.Units.{last_year}
use Rattle.measure.specs.declared.Name.{Name}
use Rattle.remainders.specs.Hours.{hour_found}
use Rattle.remainders.specs.ExtraDays.{Found, days_found}
use Rattle.seasons.specs.Terms.{terms as terms_in_year}
use Rattle.months.specs.Month.{MonthOfDay, month_said}
use Rattle.lists.specs.Records.{record_width, year_room}
use Rattle.questions.specs.declared.DeskAnswer.{DeskAnswer}
use Rattle.questions.specs.declared.DeskAnswer.TheVariants.{Malformed, Number, Moment, Signed, Month, Name as NameOf, Hour, Days, Terms, Year, Years, Sheet, Constants, Help}

pub data DeskReply : Type 0 where
  -- no question
  malformed : DeskReply
  number : Reply ℕ → DeskReply
  -- a running time
  moment : Reply ℕ → DeskReply
  signed : Reply ℤ → DeskReply
  -- the month of a day
  month : Reply MonthOfDay → DeskReply
  -- the name of a day
  name : Name → DeskReply
  -- a double-hour with its ke
  hour : Reply (ℕ × ℕ) → DeskReply
  -- days to add
  days : Reply Found → DeskReply
  -- the terms of a year
  terms : Reply (List ℕ) → DeskReply
  -- the records of a year's months, and of those of a run of years
  year : Reply (List ℕ) → DeskReply
  years : Reply (List ℕ) → DeskReply
  -- the years that agree with a torn sheet
  sheet : Reply (List ℕ) → DeskReply
  constants : DeskReply
  help : DeskReply

-- a list that was asked for, or its refusal
abbrev pub as_list : Reply ℕ → List ℕ → Reply (List ℕ)
as_list (answer k) list = answer list
as_list (refused k) list = refused k

abbrev pub list_of : Reply (List ℕ) → List ℕ
list_of (answer list) = list
list_of (refused k) = []

-- what is written into a lent row
abbrev pub numbers_for : DeskReply → List ℕ
numbers_for malformed = []
numbers_for (number r) = []
numbers_for (moment r) = []
numbers_for (signed r) = []
numbers_for (month r) = []
numbers_for (name n) = []
numbers_for (hour r) = []
numbers_for (days r) = []
numbers_for (terms r) = list_of r
numbers_for (year r) = list_of r
numbers_for (years r) = list_of r
numbers_for (sheet r) = list_of r
numbers_for constants = []
numbers_for help = []

-- the list that a row holds from its start, with w numbers for each of so many
abbrev pub list_in : ℕ → Reply ℕ → List ℕ → Reply (List ℕ)
list_in w (answer k) row = answer (take (w * k) row)
list_in w (refused k) row = refused k

-- the reply that each case stands for, where each refusal has its number
abbrev pub desk_said : {R : Type 0} → (R → ℕ) → DeskAnswer R → List ℕ → DeskReply
desk_said k Malformed row = malformed
desk_said k (Number a) row = number (answer_by k a)
desk_said k (Moment a) row = moment (answer_by k a)
desk_said k (Signed a) row = signed (answer_by k a)
desk_said k (Month a) row = month (reply_of month_said k a)
desk_said k (NameOf n) row = name n
desk_said k (Hour h) row = hour (reply_of hour_found k h)
desk_said k (Days d) row = days (reply_of days_found k d)
desk_said k (Terms a) row = terms (list_in 1 (answer_by k a) row)
desk_said k (Year a) row = year (list_in record_width (answer_by k a) row)
desk_said k (Years a) row = years (list_in record_width (answer_by k a) row)
desk_said k (Sheet a) row = sheet (list_in 1 (answer_by k a) row)
desk_said k Constants row = constants
desk_said k Help row = help

-- how many records all years have at most
abbrev pub most_records : ℕ
most_records = year_room * suc last_year

-- a list has no more than so many, and they lie in a row of so many numbers
abbrev pub Few : ℕ → ℕ → Reply ℕ → ℕ → Type 0
Few w most (answer k) room = (k ≤ most) × (w * k ≤ room)
Few w most (refused k) room = Unit {0}

abbrev pub Lies : {R : Type 0} → (R → ℕ) → DeskAnswer R → ℕ → Type 0
Lies k Malformed room = Unit {0}
Lies k (Number a) room = Unit {0}
Lies k (Moment a) room = Unit {0}
Lies k (Signed a) room = Unit {0}
Lies k (Month a) room = Unit {0}
Lies k (NameOf n) room = Unit {0}
Lies k (Hour h) room = Unit {0}
Lies k (Days d) room = Unit {0}
Lies k (Terms a) room = Few 1 terms_in_year (answer_by k a) room
Lies k (Year a) room = Few record_width year_room (answer_by k a) room
Lies k (Years a) room = Few record_width most_records (answer_by k a) room
Lies k (Sheet a) room = Few 1 (suc last_year) (answer_by k a) room
Lies k Constants room = Unit {0}
Lies k Help room = Unit {0}

-- an answer says a reply, with a row as it was and as it is
pub record Answers (reply : DeskReply) (r : DeskAnswer Refusal) (before after : List ℕ) : Type 0 where
  pub said : desk_said number_of r after ≡ reply
  pub written : after ≡ over (numbers_for reply) before
  pub lies : Lies number_of r (length after)
