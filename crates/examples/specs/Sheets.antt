-- Torn sheets: years that agree with marks and years that do not, marks as they are written, and the line of a sheet. The figures are the
-- second program's.
-- Assumes nothing.
use Rattle.std.specs.Prelude.{true, false, List, [], ◌∷◌, ◌≡◌, refl}
use Prim.Native.String.{String}
use Rattle.rows.specs.Reply.{Reply, answer, refused}
use Rattle.measure.specs.Epoch.{shoushi}
use Rattle.inequalities.specs.Law.{taken, law, exact}
use Rattle.inequalities.specs.Solar.{fast_at, slow_at, solar}
use Rattle.inequalities.specs.Lunar.{lunar_magnitude, lunar}
use Rattle.inequalities.specs.Motion.{whole_law, motion_at, motion_in_row, row_of, motion}
use Rattle.seasons.specs.Solstice.{solstice}
use Rattle.seasons.specs.Terms.{term}
use Rattle.moons.specs.Lunation.{mean, solar_time, anomaly}
use Rattle.moons.specs.TrueMoon.{corrected, correction, correction_of, moved, true_moon}
use Rattle.month_law.specs.Steps.{seek}
use Rattle.month_law.specs.Count.{count}
use Rattle.month_law.specs.Calendar.{month_of, head, held, leap_at}
use Rattle.edition.specs.Edition.{middle_day, calendar, first_day}
use Rattle.words.specs.Search.{index_of}
use Rattle.words.specs.Number.{digits, value, is_number, number_of}
use Rattle.words.specs.Ascii.{bytes_of}
use Rattle.words.specs.Text.{same}
use Rattle.words.specs.Line.{word_of, after_word}
use Rattle.words.specs.Choice.{chosen}
use Rattle.words.specs.Numbers.{end_of, part_of, rest_of, numbers_of}
use Rattle.texts.specs.Text.{decimal_in, decimal, piece, numbers_taken, filled}
use Rattle.replies.specs.LineText.{item_at, items_of, refusal_text}
use Rattle.sheets.specs.Marks.{marked, shown_at, agrees, agrees_all, passing, bad_mark, any_bad, sheet_reply}
use Rattle.sheets.specs.declared.Mark.{Mark}
use Rattle.sheets.specs.declared.Shown.TheVariants.{Name, Stem, Branch, Length, Leap}
use Rattle.questions.specs.MarkWords.{showing, mark_of, after_mark, marks_within, marks_in}
use Rattle.replies.specs.ListText.{items_text, list_text}
use Rattle.questions.specs.Question.{alone, reply_to}
use Rattle.replies.specs.ReplyText.{reply_text}
use Rattle.ask.specs.AnswerText.{answer_text}

-- the first days of year 0 are 35, 64 and 94; its month at place 10 begins with day 329 and is leap, that before it is not
year_0 :
    (agrees_all (calendar shoushi) (marked 0 (Name 35) ∷ marked 1 (Name 4) ∷ marked 2 (Name 34) ∷ []) 0 ≡ true)
    × (agrees_all (calendar shoushi) (marked 0 (Length 29) ∷ marked 10 (Stem 9) ∷ marked 10 (Branch 5) ∷ marked 10 Leap ∷ []) 0 ≡ true)
    × (agrees (calendar shoushi) (marked 9 Leap) 0 ≡ false)
    × (agrees_all (calendar shoushi) (marked 0 (Name 35) ∷ marked 0 (Name 36) ∷ []) 0 ≡ false)
unfolding solstice term taken law exact fast_at slow_at solar solar_time lunar_magnitude lunar anomaly whole_law motion_at motion_in_row row_of motion mean corrected correction correction_of moved true_moon first_day seek count month_of head held leap_at middle_day shown_at agrees agrees_all passing
year_0 = (refl, refl, refl, refl)

-- year 5 has no month at place 12; that of year 6 has 30 days and begins with day 2,574
place_12 : (agrees (calendar shoushi) (marked 12 (Length 30)) 5 ≡ false) × (agrees (calendar shoushi) (marked 12 (Length 30)) 6 ≡ true)
    × (agrees (calendar shoushi) (marked 12 (Name 54)) 6 ≡ true)
unfolding solstice term taken law exact fast_at slow_at solar solar_time lunar_magnitude lunar anomaly whole_law motion_at motion_in_row row_of motion mean corrected correction correction_of moved true_moon first_day seek count month_of head held leap_at middle_day shown_at agrees agrees_all passing
place_12 = (refl, refl, refl)

-- of the first seven years: those with a leap month at place 4, and all, where nothing is marked
first_years : (passing (agrees_all (calendar shoushi) (marked 4 Leap ∷ [])) 7 ≡ 6 ∷ [])
    × (passing (agrees_all (calendar shoushi) []) 7 ≡ 0 ∷ 1 ∷ 2 ∷ 3 ∷ 4 ∷ 5 ∷ 6 ∷ [])
unfolding solstice term taken law exact fast_at slow_at solar solar_time lunar_magnitude lunar anomaly whole_law motion_at motion_in_row row_of motion mean corrected correction correction_of moved true_moon first_day seek count month_of head held leap_at middle_day shown_at agrees agrees_all passing
first_years = (refl, refl)

infix 40 ◌gives◌
abbrev ◌gives◌ : String → Reply (List Mark) → Type 0
text gives marks = marks_in (bytes_of text) ≡ marks

read : (" name 0 35 length 0 29 leap 10" gives answer (marked 0 (Name 35) ∷ marked 0 (Length 29) ∷ marked 10 Leap ∷ []))
    × (" stem 4 0 branch 12 11" gives answer (marked 4 (Stem 0) ∷ marked 12 (Branch 11) ∷ []))
    × ("" gives answer [])
unfolding index_of digits value is_number number_of end_of part_of rest_of same chosen showing mark_of after_mark marks_within marks_in
read = (refl, refl, refl)

-- a number too few, one too many, no mark's word, a capital letter, two blanks, a blank at the end
unread : (" name 0" gives refused 5) × (" leap 10 3" gives refused 5) × (" day 0 35" gives refused 5) × (" Leap 10" gives refused 5)
    × ("  leap 10" gives refused 5)
    × (" leap 10 " gives refused 5)
unfolding index_of digits value is_number number_of end_of part_of rest_of same chosen showing mark_of after_mark marks_within marks_in
unread = (refl, refl, refl, refl, refl, refl)

infix 40 ◌says◌
abbrev ◌says◌ : String → String → Type 0
line says reply = answer_text shoushi (bytes_of line) ≡ bytes_of reply

-- a mark that no month has, and a line that is no marks, which is told first
refusals : ("sheet name 0 60" says "refused 2\n") × ("sheet leap 10 length 0 31" says "refused 2\n") × ("sheet leap 13 leap" says "refused 5\n")
    × ("sheets" says "refused 5\n")
unfolding index_of digits value is_number number_of end_of part_of rest_of same chosen showing mark_of after_mark marks_within marks_in numbers_of word_of after_word bad_mark any_bad sheet_reply refusal_text items_text items_of item_at filled piece numbers_taken decimal decimal_in answer_text reply_to reply_text alone
refusals = (refl, refl, refl, refl)

years : (list_text (0 ∷ 93 ∷ 310 ∷ []) ≡ bytes_of "0 93 310\n") × (list_text (999 ∷ []) ≡ bytes_of "999\n") × (list_text [] ≡ bytes_of "none\n")
unfolding items_text items_of item_at filled piece numbers_taken decimal decimal_in
years = (refl, refl, refl)
