-- "The line program": the line of a month, by the digits of its day, as it is written and as it is read; and the line of a reply.
-- Assumes nothing.
use Rattle.std.specs.Prelude.{List, [], ◌∷◌, ◌++◌, ℕ, ◌+◌, ◌/◌, ◌%◌, ◌^◌, ◌<◌, length, if◌then◌else◌}
use Rattle.rows.specs.Choice.{◌=?◌}
use Rattle.rows.specs.Reply.{Reply, answer, refused, bad_line}
use Rattle.months.specs.Kind.{number_in, mark_in}
use Rattle.months.specs.Month.{MonthOfDay}
use Rattle.frames.specs.LineEnds.{line_end}
use Rattle.frames.specs.Digits.{digits_of, number_spelled}

-- what a line shows of a month; the leap mark is 1 for leap, else 0
pub record Fields : Type 0 where
  pub year : ℕ
  pub number : ℕ
  pub mark : ℕ
  pub first : ℕ
  pub length : ℕ

abbrev pub shown : MonthOfDay → Fields
shown m =
    record {
      year = m.year;
      number = number_in m.kind;
      mark = mark_in m.kind;
      first = m.first;
      length = m.length;
    }

-- year 3 digits, number 1, leap 1, first day w, length 2
unfoldable pub month_line : ℕ → Fields → List ℕ
month_line w f = digits_of 3 f.year ++ digits_of 1 f.number ++ digits_of 1 f.mark ++ digits_of w f.first ++ digits_of 2 f.length

-- how many these are
abbrev pub month_digits : ℕ → ℕ
month_digits w = 5 + w + 2

-- each field has room in its digits
pub record Fits (w : ℕ) (f : Fields) : Type 0 where
  pub year : f.year < 16 ^ 3
  pub number : f.number < 16 ^ 1
  pub mark : f.mark < 16 ^ 1
  pub first : f.first < 16 ^ w
  pub length : f.length < 16 ^ 2

-- the fields of a line that is read as one number: the last two digits are the length, the w before them the first day, and so on;
-- p is 16 ^ w
unfoldable pub fields_in : ℕ → ℕ → Fields
fields_in p n =
    record {
      year = n / 256 / p / 256;
      number = n / 256 / p / 16 % 16;
      mark = n / 256 / p % 16;
      first = n / 256 % p;
      length = n % 256;
    }

abbrev pub fields_of : ℕ → Reply ℕ → Reply Fields
fields_of p (answer n) = answer (fields_in p n)
fields_of p (refused k) = refused k

-- what a line reads to: the right number of digits, and nothing else
unfoldable pub read_fields : ℕ → List ℕ → Reply Fields
read_fields w line = if length line =? month_digits w then fields_of (16 ^ w) (number_spelled line) else refused bad_line

-- a refusal is E and its number
unfoldable pub refusal_line : ℕ → List ℕ
refusal_line k = digits_of 1 0xE ++ digits_of 1 k

-- the line of a reply, with its line end
unfoldable pub line_of : ℕ → Reply MonthOfDay → List ℕ
line_of w (answer m) = month_line w (shown m) ++ (line_end ∷ [])
line_of w (refused k) = refusal_line k ++ (line_end ∷ [])
