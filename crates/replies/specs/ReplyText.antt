-- The line of text that is written for each reply, and the room that it asks for.
-- Assumes nothing.
use Rattle.std.specs.Prelude.{List, [], ◌∷◌, ℕ}
use Rattle.rows.specs.Reply.{bad_line}
use Rattle.measure.specs.Units.{day as one_day, fen, miao, year as solar_year, half_year, month as lunar_month, quarter_step, term_step, pentad_step, earth_step, anomalistic_month, anomalistic_half}
use Rattle.measure.specs.Epoch.{shoushi}
use Rattle.words.specs.Ascii.{bytes_of}
use Rattle.texts.specs.Text.{filled}
use Rattle.questions.specs.DeskReply.{DeskReply, malformed, number, moment, signed, month, name, hour, days, terms, year, years, sheet, constants, help}
use Rattle.replies.specs.LineText.{text_of, refusal_text, number_text, name_text, hour_text, days_text, signed_text, month_text, moment_text, line_room}
use Rattle.replies.specs.ListText.{list_text, records_text, sheet_room, years_room}

unfoldable pub constants_text : List ℕ
constants_text =
    filled
    (bytes_of "day=% fen=% miao=% year=% half-year=% month=% quarter=% term=% pentad=% earth=% anomalistic-month=% anomalistic-half=% solstice-epoch=% leap-epoch=% anomaly-epoch=%\n")
    (one_day ∷ fen ∷ miao ∷ solar_year ∷ half_year ∷ lunar_month ∷ quarter_step ∷ term_step ∷ pentad_step ∷ earth_step ∷ anomalistic_month ∷ anomalistic_half ∷ shoushi.solstice ∷ shoushi.leap_remainder ∷ shoushi.anomaly ∷ [])

unfoldable pub help_text : List ℕ
help_text =
    bytes_of
    "questions: constants, solstice N, term N I, pentad N I P, earth N I, terms N, mean L Q, true L Q, solar L Q, lunar L Q, correction L Q, motion L Q, solar-at fast|slow T, lunar-at quick|tardy T, motion-at quick|tardy K, name D, hour R, extra R, vanishing R, head N, day D, back N P M, year N, years N C, sheet [name P N|stem P S|branch P B|length P D|leap P].., help\n"

unfoldable pub reply_text : DeskReply → List ℕ
reply_text malformed = refusal_text bad_line
reply_text (number r) = text_of number_text r
reply_text (moment r) = text_of moment_text r
reply_text (signed r) = text_of signed_text r
reply_text (month r) = text_of month_text r
reply_text (name n) = name_text n
reply_text (hour r) = text_of hour_text r
reply_text (days r) = text_of days_text r
reply_text (terms r) = text_of list_text r
reply_text (year r) = text_of records_text r
reply_text (years r) = text_of records_text r
reply_text (sheet r) = text_of list_text r
reply_text constants = constants_text
reply_text help = help_text

unfoldable pub room_of : DeskReply → ℕ
room_of malformed = line_room
room_of (number r) = line_room
room_of (moment r) = line_room
room_of (signed r) = line_room
room_of (month r) = line_room
room_of (name n) = line_room
room_of (hour r) = line_room
room_of (days r) = line_room
room_of (terms r) = line_room
room_of (year r) = line_room
room_of (years r) = years_room
room_of (sheet r) = sheet_room
room_of constants = line_room
room_of help = line_room
