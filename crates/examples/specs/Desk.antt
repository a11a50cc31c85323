-- The desk: lines and the reply to each, and replies as they are written out.
-- Assumes nothing.
use Rattle.std.specs.Prelude.{◌≡◌, refl, [], ◌∷◌, ℕ, pos, negsuc}
use Prim.Native.String.{String}
use Rattle.words.specs.Search.{index_of}
use Rattle.words.specs.Number.{digits, value, is_number, number_of}
use Rattle.words.specs.Numbers.{end_of, part_of, rest_of, numbers_of}
use Rattle.rows.specs.Row.{listed}
use Rattle.measure.specs.Epoch.{shoushi}
use Rattle.remainders.specs.Hours.{hour_reply, double_hour, ke}
use Rattle.remainders.specs.ExtraDays.{none, extra_reply, extra_day}
use Rattle.signed.specs.Signed.{integer}
use Rattle.inequalities.specs.Law.{law, taken}
use Rattle.inequalities.specs.Solar.{fast_at, slow_at, solar_at_reply}
use Rattle.inequalities.specs.Lunar.{lunar_magnitude, lunar_at_reply}
use Rattle.inequalities.specs.Motion.{motion_at_reply}
use Rattle.seasons.specs.Solstice.{solstice_reply, solstice}
use Rattle.seasons.specs.Terms.{term, term_reply, term_list, terms_reply}
use Rattle.words.specs.Text.{same}
use Rattle.words.specs.Line.{word_of, after_word}
use Rattle.words.specs.Choice.{chosen}
use Rattle.words.specs.Ascii.{bytes_of}
use Rattle.questions.specs.DeskReply.{DeskReply, malformed, number, moment, signed, month, name, hour, days, terms, year, years, constants, help, as_list}
use Rattle.questions.specs.Question.{alone, with_one, with_two, solar_in, lunar_in, motion_in, with_half, reply_to}
use Rattle.rows.specs.Reply.{answer, refused}
use Rattle.months.specs.Kind.{leap}
use Rattle.texts.specs.Text.{decimal_in, decimal, piece, numbers_taken, filled}
use Rattle.replies.specs.LineText.{item_at, items_of, refusal_text, numbers_text, days_text, signed_text, month_text, moment_text}
use Rattle.replies.specs.ListText.{items_text, records_text}
use Rattle.replies.specs.ReplyText.{constants_text, help_text, reply_text}
use Rattle.ask.specs.AnswerText.{most_numbers}
use Rattle.month_law.specs.Calendar.{months_in}
use Rattle.edition.specs.Edition.{calendar}
use Rattle.lists.specs.Records.{records_of}
use Rattle.lists.specs.Lists.{run_of, list_reply, run_asked, run_reply}
use Rattle.examples.specs.Months.{months, list_0, list_5, list_6}

-- a text is its bytes, as a program holds them
bytes : bytes_of "solstice" ≡ 115 ∷ 111 ∷ 108 ∷ 115 ∷ 116 ∷ 105 ∷ 99 ∷ 101 ∷ []
bytes = refl

infix 40 ◌gets◌
abbrev ◌gets◌ : String → DeskReply → Type 0
line gets reply = reply_to shoushi most_numbers (bytes_of line) ≡ reply

-- the terms of a year, its months, and those of k years from it on, as the calendar lists them
abbrev terms_of : ℕ → DeskReply
terms_of n = terms (as_list (terms_reply n most_numbers) (term_list shoushi n))

abbrev year_of : ℕ → DeskReply
year_of n = year (as_list (list_reply shoushi n 13_000) (records_of (calendar shoushi) n (months_in (calendar shoushi) n)))

abbrev years_of : ℕ → ℕ → DeskReply
years_of n k = years (as_list (run_reply shoushi n k 13_000) (run_of (calendar shoushi) n k))

answered :
    ("help" gets help)
    × ("solstice 0" gets moment (answer 5_506_000_000))
    × ("name 7" gets name (record { name = 7; stem = 7; branch = 7 }))
    × ("hour 50000000" gets hour (answer (6, 0)))
    × ("extra 0" gets days (answer none))
    × ("year 999" gets year_of 999)
    × ("years 1 019" gets years_of 1 19)
    × ("terms 5" gets terms_of 5)
    × ("constants" gets constants)
unfolding digits value is_number number_of index_of end_of part_of rest_of numbers_of hour_reply double_hour ke extra_reply extra_day solstice_reply solstice same chosen alone with_one with_two word_of after_word reply_to
answered = (refl, refl, refl, refl, refl, refl, refl, refl, refl)

-- a month, what is ahead and what is behind
day_answered : "day 340" gets month (answer (record { kind = leap 8; year = 0; place = 10; day = 12; first = 329; length = 30 }))
unfolding digits value is_number number_of index_of end_of part_of rest_of numbers_of same chosen with_one word_of after_word reply_to
day_answered = simp months.days.2

signed_answered :
    ("solar-at fast 8890922500" gets signed (answer (pos 240_142_279)))
    × ("solar-at slow 9371202500" gets signed (answer (negsuc 240_132_543)))
    × ("lunar-at quick 3" gets signed (answer (pos 3)))
    × ("lunar-at tardy 688524590" gets signed (answer (negsuc 542_337_599)))
unfolding digits value is_number number_of index_of end_of part_of rest_of numbers_of law taken fast_at slow_at solar_at_reply lunar_magnitude lunar_at_reply integer same chosen solar_in lunar_in with_half word_of after_word reply_to
signed_answered = (refl, refl, refl, refl)

-- by the calendar, where the question is one
outside : ("term 1000 0" gets moment (refused 1)) × ("motion-at quick 168" gets number (refused 2))
unfolding digits value is_number number_of index_of end_of part_of rest_of numbers_of motion_at_reply term_reply same chosen with_two motion_in with_half word_of after_word reply_to
outside = (refl, refl)

-- no question: a number too few, one too many, two blanks, no number, a half of the sun's asked of the moon, no word
no_question :
    ("term 0" gets malformed)
    × ("help 1" gets malformed)
    × ("year  1" gets malformed)
    × ("year -1" gets malformed)
    × ("lunar-at slow 0" gets malformed)
    × ("" gets malformed)
unfolding digits value is_number number_of index_of end_of part_of rest_of numbers_of same chosen alone with_one lunar_in with_half word_of after_word reply_to
no_question = (refl, refl, refl, refl, refl, refl)

-- a refusal, and what there is none of
refusal_told : (reply_text malformed ≡ bytes_of "refused 5\n") × (reply_text (number (refused 2)) ≡ bytes_of "refused 2\n")
unfolding reply_text refusal_text filled piece numbers_taken decimal decimal_in
refusal_told = (refl, refl)

nothing_told : reply_text (days (answer none)) ≡ bytes_of "none\n"
unfolding reply_text days_text
nothing_told = refl

-- numbers
three_told : reply_text (name (record { name = 34; stem = 4; branch = 10 })) ≡ bytes_of "34 4 10\n"
unfolding reply_text numbers_text items_of item_at filled piece numbers_taken decimal decimal_in
three_told = refl

behind_told : reply_text (signed (answer (negsuc 93_335_813))) ≡ bytes_of "-93335814\n"
unfolding reply_text signed_text filled piece numbers_taken decimal decimal_in
behind_told = refl

ahead_told : reply_text (signed (answer (pos 109_030_665))) ≡ bytes_of "109030665\n"
unfolding reply_text signed_text filled piece numbers_taken decimal decimal_in
ahead_told = refl

-- the first mean new moon
moment_told : reply_text (moment (answer 3_487_500_000)) ≡ bytes_of "3487500000 34 87500000 34\n"
unfolding reply_text moment_text filled piece numbers_taken decimal decimal_in
moment_told = refl

-- the leap month of year 0, on its day 340
month_told_lem : reply_text (month (answer (record { kind = leap 8; year = 0; place = 10; day = 12; first = 329; length = 30 }))) ≡ bytes_of "0 10 12 329 30 8 1\n"
unfolding reply_text month_text filled piece numbers_taken decimal decimal_in
month_told_lem = refl

-- records, and a refusal in their place
records_told : records_text (35 ∷ 29 ∷ 11 ∷ 0 ∷ 64 ∷ 30 ∷ 12 ∷ 0 ∷ []) ≡ bytes_of "35:29:11:0 64:30:12:0\n"
unfolding items_text items_of item_at filled piece numbers_taken decimal decimal_in
records_told = refl

late_told : reply_text (year (refused 1)) ≡ bytes_of "refused 1\n"
unfolding reply_text refusal_text filled piece numbers_taken decimal decimal_in
late_told = refl

-- the terms of year 5, the months of year 0, and those of years 5 and 6
terms_told : reply_text (terms_of 5)
    ≡ bytes_of "188127250000 189649093750 191170937500 192692781250 194214625000 195736468750 197258312500 198780156250 200302000000 201823843750 203345687500 204867531250 206389375000 207911218750 209433062500 210954906250 212476750000 213998593750 215520437500 217042281250 218564125000 220085968750 221607812500 223129656250\n"
unfolding reply_text terms_reply term_list listed term solstice items_text items_of item_at filled piece numbers_taken decimal decimal_in
terms_told = refl

year_told : reply_text (year_of 0)
    ≡ bytes_of "35:29:11:0 64:30:12:0 94:29:1:0 123:30:2:0 153:29:3:0 182:29:4:0 211:30:5:0 241:29:6:0 270:30:7:0 300:29:8:0 329:30:8:1 359:30:9:0 389:30:10:0\n"
unfolding list_0 reply_text list_reply items_text items_of item_at filled piece numbers_taken decimal decimal_in
year_told = simp months.lists.3

years_told : reply_text (years_of 5 2)
    ≡ bytes_of "1865:29:11:0 1894:30:12:0 1924:30:1:0 1954:30:2:0 1984:29:3:0 2013:30:4:0 2043:29:5:0 2072:30:6:0 2102:29:7:0 2131:30:8:0 2161:29:9:0 2190:29:10:0 2219:30:11:0 2249:29:12:0 2278:30:1:0 2308:30:2:0 2338:29:2:1 2367:30:3:0 2397:30:4:0 2427:29:5:0 2456:30:6:0 2486:29:7:0 2515:30:8:0 2545:29:9:0 2574:30:10:0\n"
unfolding list_5 list_6 reply_text run_reply run_asked items_text items_of item_at filled piece numbers_taken decimal decimal_in
years_told = simp (months.runs.6, months.runs.7)

constants_told : reply_text constants
    ≡ bytes_of "day=100000000 fen=10000 miao=100 year=36524250000 half-year=18262125000 month=2953059300 quarter=738264825 term=1521843750 pentad=507281250 earth=304368750 anomalistic-month=2755460000 anomalistic-half=1377730000 solstice-epoch=5506000000 leap-epoch=2018500000 anomaly-epoch=1319040000\n"
unfolding reply_text constants_text filled piece numbers_taken decimal decimal_in
constants_told = refl

help_told : reply_text help
    ≡ bytes_of "questions: constants, solstice N, term N I, pentad N I P, earth N I, terms N, mean L Q, true L Q, solar L Q, lunar L Q, correction L Q, motion L Q, solar-at fast|slow T, lunar-at quick|tardy T, motion-at quick|tardy K, name D, hour R, extra R, vanishing R, head N, day D, back N P M, year N, years N C, sheet [name P N|stem P S|branch P B|length P D|leap P].., help\n"
unfolding reply_text help_text
help_told = refl
