-- The questions: which words there are, which numbers follow each, and the reply. A question is words and decimal numbers with
-- one blank between them, and whatever is no question is refused. Where a list is asked for, `room` is how many numbers the lent row has.
-- Assumes nothing.
use Rattle.std.specs.Prelude.{ℕ, ◌/◌, Option, Some, None, List, [], ◌∷◌, length, if◌then◌else◌}
use Rattle.words.specs.Line.{word_of, after_word}
use Rattle.words.specs.Choice.{Choices, chosen}
use Rattle.words.specs.Numbers.{part_of, rest_of, numbers_of}
use Rattle.words.specs.Text.{◌is◌}
use Rattle.words.specs.declared.Numbers.{Numbers}
use Rattle.words.specs.declared.Numbers.TheVariants.{Nothing, One, Two, Three}
use Rattle.rows.specs.Choice.{◌<?◌}
use Rattle.rows.specs.Reply.{Reply, answer, refused}
use Rattle.measure.specs.Epoch.{Epoch}
use Rattle.measure.specs.Days.{name_of}
use Rattle.remainders.specs.Hours.{hour_reply}
use Rattle.remainders.specs.ExtraDays.{extra_reply, vanishing_reply}
use Rattle.signed.specs.Signed.{as_integer}
use Rattle.inequalities.specs.Limits.{quick, tardy}
use Rattle.inequalities.specs.Solar.{fast, slow, solar_at_reply}
use Rattle.inequalities.specs.Lunar.{lunar_at_reply}
use Rattle.inequalities.specs.Motion.{motion_at_reply}
use Rattle.seasons.specs.Solstice.{solstice_reply}
use Rattle.seasons.specs.Terms.{term_reply, term_list, terms_reply, pentad_reply, earth_reply}
use Rattle.moons.specs.Lunation.{mean_reply}
use Rattle.moons.specs.TrueMoon.{solar_reply, lunar_reply, motion_reply, correction_reply, true_reply}
use Rattle.month_law.specs.Calendar.{months_in}
use Rattle.edition.specs.Edition.{calendar}
use Rattle.months.specs.Head.{head_reply}
use Rattle.months.specs.Month.{day_reply}
use Rattle.months.specs.Date.{back_reply}
use Rattle.lists.specs.Records.{record_width, records_of}
use Rattle.lists.specs.Lists.{run_of, list_reply, run_reply}
use Rattle.sheets.specs.Marks.{agreeing, sheet_reply}
use Rattle.sheets.specs.declared.Mark.{Mark}
use Rattle.questions.specs.DeskReply.{DeskReply, malformed, number, moment, signed, month, name, hour, days, terms, year, years, sheet, constants, help, as_list}
use Rattle.questions.specs.MarkWords.{marks_in}

-- words, with the reply to each
abbrev pub Questions : Type 0
Questions = Choices DeskReply

infix 40 ◌among◌
abbrev pub ◌among◌ : List ℕ → Questions → DeskReply
word among qs = chosen malformed word qs

-- a word alone
unfoldable pub alone : Questions
alone = ("constants", constants) ∷ ("help", help) ∷ []

-- with one number: a year, a day, or a day's remainder
unfoldable pub with_one : Epoch → ℕ → ℕ → Questions
with_one e room n =
    ("solstice", moment (solstice_reply e n))
    ∷ ("terms", terms (as_list (terms_reply n room) (term_list e n)))
    ∷ ("head", number (head_reply e n))
    ∷ ("year", year (as_list (list_reply e n (room / record_width)) (records_of (calendar e) n (months_in (calendar e) n))))
    ∷ ("day", month (day_reply e n))
    ∷ ("name", name (name_of n))
    ∷ ("hour", hour (hour_reply n))
    ∷ ("extra", days (extra_reply n))
    ∷ ("vanishing", days (vanishing_reply n))
    ∷ []

-- with two: a year and a term, a year and how many, or a lunation and its quarter
unfoldable pub with_two : Epoch → ℕ → ℕ → ℕ → Questions
with_two e room n i =
    ("term", moment (term_reply e n i))
    ∷ ("earth", moment (earth_reply e n i))
    ∷ ("years", years (as_list (run_reply e n i (room / record_width)) (run_of (calendar e) n i)))
    ∷ ("mean", moment (mean_reply e n i))
    ∷ ("true", moment (true_reply e n i))
    ∷ ("motion", number (motion_reply e n i))
    ∷ ("solar", signed (as_integer (solar_reply e n i)))
    ∷ ("lunar", signed (as_integer (lunar_reply e n i)))
    ∷ ("correction", signed (as_integer (correction_reply e n i)))
    ∷ []

-- with three: a year, a term and its pentad, or a year, a place in it and a day of the month there
unfoldable pub with_three : Epoch → ℕ → ℕ → ℕ → Questions
with_three e n i p = ("pentad", moment (pentad_reply e n i p)) ∷ ("back", number (back_reply e n i p)) ∷ []

-- with a half, and a time or a whole limit in it
unfoldable pub solar_in : ℕ → Questions
solar_in t =
    ("fast", signed (as_integer (solar_at_reply fast t))) ∷ ("slow", signed (as_integer (solar_at_reply slow t))) ∷ []

unfoldable pub lunar_in : ℕ → Questions
lunar_in t =
    ("quick", signed (as_integer (lunar_at_reply quick t))) ∷ ("tardy", signed (as_integer (lunar_at_reply tardy t))) ∷ []

unfoldable pub motion_in : ℕ → Questions
motion_in k = ("quick", number (motion_at_reply quick k)) ∷ ("tardy", number (motion_at_reply tardy k)) ∷ []

unfoldable pub with_half : List ℕ → ℕ → Questions
with_half half t =
    ("solar-at", half among solar_in t)
    ∷ ("lunar-at", half among lunar_in t)
    ∷ ("motion-at", half among motion_in t)
    ∷ []

-- the word, the half and the numbers after it, of which there is one
abbrev pub on_half : List ℕ → List ℕ → Option Numbers → DeskReply
on_half word half (Some (One t)) = word among with_half half t
on_half word half (Some Nothing) = malformed
on_half word half (Some (Two a b)) = malformed
on_half word half (Some (Three a b c)) = malformed
on_half word half None = malformed

-- the word and the numbers that the rest of the line is; where it is none, it starts with a half
abbrev pub on_numbers : Epoch → ℕ → List ℕ → List ℕ → Option Numbers → DeskReply
on_numbers e room word rest (Some Nothing) = word among alone
on_numbers e room word rest (Some (One n)) = word among with_one e room n
on_numbers e room word rest (Some (Two n i)) = word among with_two e room n i
on_numbers e room word rest (Some (Three n i p)) = word among with_three e n i p
on_numbers e room word rest None = on_half word (part_of rest) (numbers_of (rest_of rest))

-- the longest line that is answered
abbrev pub longest : ℕ
longest = 1_023

-- a torn sheet by its marks; a text that is not all marks is no sheet
abbrev pub on_marks : Epoch → ℕ → Reply (List Mark) → DeskReply
on_marks e room (answer marks) = sheet (as_list (sheet_reply e marks room) (agreeing e marks))
on_marks e room (refused k) = sheet (refused k)

unfoldable pub reply_to : Epoch → ℕ → List ℕ → DeskReply
reply_to e room line =
    if longest <? length line then malformed else
    if word_of line is "sheet" then on_marks e room (marks_in (after_word line)) else
    on_numbers e room (word_of line) (after_word line) (numbers_of (after_word line))
