-- The paper's other examples and figures of months, and some figures of the second program: days and the way back, lists, records, the
-- line program and the viewer. A plain test, computed.
-- Assumes nothing.
use Rattle.std.specs.Prelude.{List, [], ◌∷◌, ◌++◌, ◌≡◌, refl, ℕ, take, drop}
use Prim.Native.String.{String}
use Rattle.rows.specs.Reply.{answer, refused}
use Rattle.rows.specs.Row.{over, row_after}
use Rattle.measure.specs.Epoch.{shoushi}
use Rattle.inequalities.specs.Law.{taken, law, exact}
use Rattle.inequalities.specs.Solar.{fast_at, slow_at, solar}
use Rattle.inequalities.specs.Lunar.{lunar_magnitude, lunar}
use Rattle.inequalities.specs.Motion.{whole_law, motion_at, motion_in_row, row_of, motion}
use Rattle.seasons.specs.Solstice.{solstice}
use Rattle.seasons.specs.Terms.{term}
use Rattle.moons.specs.Lunation.{mean, solar_time, anomaly}
use Rattle.moons.specs.TrueMoon.{corrected, correction, correction_of, moved, true_moon}
use Rattle.month_law.specs.Steps.{seek}
use Rattle.month_law.specs.Count.{count}
use Rattle.month_law.specs.Calendar.{number_of_rank, month_of, head, months_in, year_of, held, leap_at, number_at}
use Rattle.edition.specs.Edition.{middle_day, calendar, first_day}
use Rattle.months.specs.Head.{head_reply}
use Rattle.months.specs.Kind.{ordinary, leap}
use Rattle.months.specs.Month.{kind_at, placed, month_of_day, day_reply}
use Rattle.months.specs.Date.{day_at, back_reply}
use Rattle.lists.specs.Records.{record_at, records_of}
use Rattle.lists.specs.Lists.{run_of, months_in_run, run_asked, list_reply, run_reply}
use Rattle.records.specs.MonthRecords.{in_records}
use Rattle.frames.specs.Digits.{digit_byte, digits_of, digit_of, spelled}
use Rattle.frames.specs.DayLine.{day_asked}
use Rattle.frames.specs.MonthLine.{month_line, fields_in, read_fields, refusal_line, line_of}
use Rattle.lines.specs.Line.{line_reply, reply_line, last_line, output_from, output}
use Rattle.viewer.specs.Bytes.{low_first, low_first_bytes}
use Rattle.viewer.specs.Room.{room_in}
use Rattle.viewer.specs.Told.{day_told, count_told}
use Rattle.words.specs.Ascii.{bytes_of}

-- the input 00023, 0003F, 00022, 00g40 and its output
asked : List ℕ
asked =
    0x30 ∷ 0x30 ∷ 0x30 ∷ 0x32 ∷ 0x33 ∷ 0x0A ∷ 0x30 ∷ 0x30 ∷ 0x30 ∷ 0x33 ∷ 0x46 ∷ 0x0A ∷ 0x30 ∷ 0x30 ∷ 0x30 ∷ 0x32 ∷ 0x32 ∷ 0x0A ∷ 0x30 ∷ 0x30 ∷ 0x67 ∷ 0x34 ∷ 0x30 ∷ []

month_line_lem : List ℕ
month_line_lem = 0x30 ∷ 0x30 ∷ 0x30 ∷ 0x42 ∷ 0x30 ∷ 0x30 ∷ 0x30 ∷ 0x30 ∷ 0x32 ∷ 0x33 ∷ 0x31 ∷ 0x44 ∷ 0x0A ∷ []

told : List ℕ
told = month_line_lem ++ month_line_lem ++ (0x45 ∷ 0x33 ∷ 0x0A ∷ 0x45 ∷ 0x35 ∷ 0x0A ∷ [])

-- an input of the line program, and what is written for it
infix 40 ◌prints◌
abbrev ◌prints◌ : String → String → Type 0
input prints written = output shoushi (bytes_of input) ≡ bytes_of written

-- year 0's list
unfoldable pub list_0 : List ℕ
list_0 =
    35 ∷ 29 ∷ 11 ∷ 0 ∷ 64 ∷ 30 ∷ 12 ∷ 0 ∷ 94 ∷ 29 ∷ 1 ∷ 0 ∷ 123 ∷ 30 ∷ 2 ∷ 0 ∷ 153 ∷ 29 ∷ 3 ∷ 0 ∷ 182 ∷ 29 ∷ 4 ∷ 0 ∷ 211 ∷ 30 ∷ 5 ∷ 0 ∷ 241 ∷ 29 ∷ 6 ∷ 0 ∷ 270 ∷ 30 ∷ 7 ∷ 0 ∷ 300 ∷ 29 ∷ 8 ∷ 0 ∷ 329 ∷ 30 ∷ 8 ∷ 1 ∷ 359 ∷ 30 ∷ 9 ∷ 0 ∷ 389 ∷ 30 ∷ 10 ∷ 0 ∷ []

-- those of year 5, and of year 6 with its leap month
unfoldable pub list_5 : List ℕ
list_5 = 1_865 ∷ 29 ∷ 11 ∷ 0 ∷ 1_894 ∷ 30 ∷ 12 ∷ 0 ∷ 1_924 ∷ 30 ∷ 1 ∷ 0 ∷ 1_954 ∷ 30 ∷ 2 ∷ 0 ∷ 1_984 ∷ 29 ∷ 3 ∷ 0 ∷ 2_013 ∷ 30 ∷ 4 ∷ 0 ∷ 2_043 ∷ 29 ∷ 5 ∷ 0 ∷ 2_072 ∷ 30 ∷ 6 ∷ 0 ∷ 2_102 ∷ 29 ∷ 7 ∷ 0 ∷ 2_131 ∷ 30 ∷ 8 ∷ 0 ∷ 2_161 ∷ 29 ∷ 9 ∷ 0 ∷ 2_190 ∷ 29 ∷ 10 ∷ 0 ∷ []

unfoldable pub list_6 : List ℕ
list_6 = 2_219 ∷ 30 ∷ 11 ∷ 0 ∷ 2_249 ∷ 29 ∷ 12 ∷ 0 ∷ 2_278 ∷ 30 ∷ 1 ∷ 0 ∷ 2_308 ∷ 30 ∷ 2 ∷ 0 ∷ 2_338 ∷ 29 ∷ 2 ∷ 1 ∷ 2_367 ∷ 30 ∷ 3 ∷ 0 ∷ 2_397 ∷ 30 ∷ 4 ∷ 0 ∷ 2_427 ∷ 29 ∷ 5 ∷ 0 ∷ 2_456 ∷ 30 ∷ 6 ∷ 0 ∷ 2_486 ∷ 29 ∷ 7 ∷ 0 ∷ 2_515 ∷ 30 ∷ 8 ∷ 0 ∷ 2_545 ∷ 29 ∷ 9 ∷ 0 ∷ 2_574 ∷ 30 ∷ 10 ∷ 0 ∷ []

pub record Months : Type 0 where
  -- year 1000's head is lunation 12,368, first day 365,269
  heads : (head_reply shoushi 999 ≡ answer 12_356) × (head_reply shoushi 1_000 ≡ refused 1) × (head (calendar shoushi) 1_000 ≡ 12_368)
      × (first_day shoushi 12_368 ≡ 365_269)
  -- a month that begins on the solstice's day heads the year
  same_day : head_reply shoushi 9 ≡ answer 112
  -- day 35 accepted, 34 and 365,269 refused
  pub days : (day_reply shoushi 34 ≡ refused 3)
      × (day_reply shoushi 35 ≡ answer (record { kind = ordinary 11; year = 0; place = 0; day = 1; first = 35; length = 29 }))
      × (day_reply shoushi 340 ≡ answer (record { kind = leap 8; year = 0; place = 10; day = 12; first = 329; length = 30 }))
      × (day_reply shoushi 365_269 ≡ refused 3)
  -- the month of day 365,268, its year and its first day
  last : (month_of (calendar shoushi) 365_268 ≡ 12_367) × (year_of (calendar shoushi) 12_367 ≡ 999) × (first_day shoushi 12_367 ≡ 365_239)
  back : (back_reply shoushi 0 10 12 ≡ answer 340) × (back_reply shoushi 1_000 0 0 ≡ refused 1) × (back_reply shoushi 0 13 1 ≡ refused 2)
      × (back_reply shoushi 0 12 0 ≡ refused 2)
      × (back_reply shoushi 0 12 30 ≡ answer 418)
      × (back_reply shoushi 0 12 31 ≡ refused 2)
  pub lists : (list_reply shoushi 0 13 ≡ answer 13) × (list_reply shoushi 1_000 12 ≡ refused 1)
      × (list_reply shoushi 0 12 ≡ refused 4)
      × (records_of (calendar shoushi) 0 (months_in (calendar shoushi) 0) ≡ list_0)
  pub runs : (run_reply shoushi 0 2 26 ≡ answer 25) × (run_reply shoushi 0 0 0 ≡ refused 1) × (run_reply shoushi 998 3 39 ≡ refused 1)
      × (run_reply shoushi 998 2 25 ≡ refused 4)
      × (run_of (calendar shoushi) 0 1 ≡ list_0)
      × (run_reply shoushi 5 2 26 ≡ answer 25)
      × (months_in_run (calendar shoushi) 5 2 ≡ 25)
      × (run_of (calendar shoushi) 5 2 ≡ list_5 ++ list_6)
  -- year 0's list as structs: its first two months and the leap month
  records : (take 2 (in_records list_0)
      ≡ record { first = 35; length = 29; number = 11; leap = 0 } ∷ record { first = 64; length = 30; number = 12; leap = 0 } ∷ [])
      × (take 1 (drop 10 (in_records list_0)) ≡ record { first = 329; length = 30; number = 8; leap = 1 } ∷ [])
  -- a struct past the list keeps its contents, and a refusal writes nothing
  rows : (row_after (list_reply shoushi 0 13) (in_records list_0) (in_records (list_5 ++ list_5)) ≡ in_records (list_0 ++ drop 4 list_5))
      × (row_after (list_reply shoushi 0 12) (in_records list_0) (in_records list_5) ≡ in_records list_5)
  lines : output shoushi asked ≡ told
  -- four digits, six, none, a small letter, and the bytes beside the digits
  bad_lines : ("0023\n" prints "E5\n") × ("000023\n" prints "E5\n") × ("\n" prints "E5\n") × ("0002a\n" prints "E5\n")
      × ("0002/\n0002:\n0002@\n0002G\n" prints "E5\nE5\nE5\nE5\n")
  -- the first day and the day before it, and the leap month
  day_lines : ("00022\n00023\n" prints "E3\n000B0000231D\n") × ("00154\n" prints "00081001491E\n")
  -- a month line taken apart: its five fields, and what is none
  fields : (read_fields 5 (bytes_of "00081001491E") ≡ answer (record { year = 0; number = 8; mark = 1; first = 329; length = 30 }))
      × (read_fields 5 (bytes_of "3E7A0592B71E") ≡ answer (record { year = 999; number = 10; mark = 0; first = 365_239; length = 30 }))
      × (read_fields 6 (bytes_of "000810001491E") ≡ answer (record { year = 0; number = 8; mark = 1; first = 329; length = 30 }))
      × (read_fields 5 (bytes_of "00081001491") ≡ refused 5)
      × (read_fields 5 (bytes_of "00081001491e") ≡ refused 5)
  -- the last line may lack its end, and nothing follows a final one
  ends : ("00154" prints "00081001491E\n") × ("00154\n\n" prints "00081001491E\nE5\n") × ("" prints "")
  viewer : (day_told (day_reply shoushi 340)
      ≡ record { first = 329; year = 0; place = 10; day = 12; length = 30; number = 8; leap = 1; refused = 0 })
      × (day_told (day_reply shoushi 34)
      ≡ record { first = 0; year = 0; place = 0; day = 0; length = 0; number = 0; leap = 0; refused = 3 })
      × (count_told (list_reply shoushi 0 13) ≡ record { refused = 0; records = 13 })
      × (count_told (list_reply shoushi 0 12) ≡ record { refused = 4; records = 0 })
  bytes : (low_first_bytes (365_239 ∷ 30 ∷ []) ≡ 0xB7 ∷ 0x92 ∷ 0x05 ∷ 0x00 ∷ 0x1E ∷ 0x00 ∷ 0x00 ∷ 0x00 ∷ []) × (room_in told ≡ 2)

pub months : Months
unfolding asked month_line_lem told list_0 list_5 list_6 solstice term taken law exact fast_at slow_at solar solar_time lunar_magnitude lunar anomaly whole_law motion_at motion_in_row row_of motion mean corrected correction correction_of moved true_moon first_day seek count number_of_rank month_of head year_of held leap_at number_at middle_day head_reply kind_at placed month_of_day day_at day_reply back_reply record_at records_of in_records over run_of months_in_run list_reply run_asked run_reply digit_byte digits_of digit_of spelled day_asked month_line fields_in read_fields refusal_line line_of line_reply reply_line last_line output_from output low_first low_first_bytes room_in
months =
    record {
      heads = (refl, refl, refl, refl);
      same_day = refl;
      days = (refl, refl, refl, refl);
      last = (refl, refl, refl);
      back = (refl, refl, refl, refl, refl, refl);
      lists = (refl, refl, refl, refl);
      runs = (refl, refl, refl, refl, refl, refl, refl, refl);
      records = (refl, refl);
      rows = (refl, refl);
      lines = refl;
      bad_lines = (refl, refl, refl, refl, refl);
      day_lines = (refl, refl);
      fields = (refl, refl, refl, refl, refl);
      ends = (refl, refl, refl);
      viewer = (refl, refl, refl, refl);
      bytes = (refl, refl);
    }

-- day 365,268 accepted, by these figures: computed whole it would take too long
last_day : day_reply shoushi 365_268 ≡ answer (record { kind = ordinary 10; year = 999; place = 11; day = 30; first = 365_239; length = 30 })
unfolding count number_of_rank leap_at number_at head_reply kind_at placed month_of_day day_reply
last_day =
    let h : head (calendar shoushi) 999 ≡ 12_356 = cc months.heads.0 in
    simp (months.last.0, months.last.1, months.last.2, h, months.heads.2, months.heads.3)

last_line_cut : "592D4\n592D5\n" prints "3E7A0592B71E\nE3\n"
unfolding digit_byte digits_of digit_of spelled day_asked month_line fields_in read_fields refusal_line line_of line_reply reply_line last_line output_from output
last_line_cut = simp (last_day, months.days.3)
