-- The marks that a text gives, one after the other: `name P N`, `stem P S`, `branch P B`, `length P D` or `leap P`, with one blank
-- before each word and number. P is the place.
-- Assumes nothing.
use Rattle.std.specs.Prelude.{ℕ, zero, suc, Option, Some, None, List, [], ◌∷◌, ◌++◌, length, if◌then◌else◌}
use Rattle.rows.specs.Reply.{Reply, answer, refused, bad_line}
use Rattle.words.specs.Number.{number_of}
use Rattle.words.specs.Text.{◌is◌}
use Rattle.words.specs.Numbers.{is_empty, part_of, rest_of}
use Rattle.words.specs.Choice.{Choices, chosen}
use Rattle.sheets.specs.Marks.{marked}
use Rattle.sheets.specs.Sheet.{blank_sheet, with_marks}
use Rattle.sheets.specs.declared.Mark.{Mark}
use Rattle.sheets.specs.declared.Shown.TheVariants.{Name, Stem, Branch, Length, Leap}
use Rattle.sheets.specs.declared.Sheet.{Sheet}

-- the words that show a number
unfoldable pub showing : ℕ → ℕ → Choices (Option Mark)
showing p n =
    ("name", Some (marked p (Name n)))
    ∷ ("stem", Some (marked p (Stem n)))
    ∷ ("branch", Some (marked p (Branch n)))
    ∷ ("length", Some (marked p (Length n)))
    ∷ []

-- a word with its place, and with its place and its number
abbrev pub leap_marked : Option ℕ → Option Mark
leap_marked (Some p) = Some (marked p Leap)
leap_marked None = None

abbrev pub number_marked : List ℕ → Option ℕ → Option ℕ → Option Mark
number_marked word (Some p) (Some n) = chosen None word (showing p n)
number_marked word (Some p) None = None
number_marked word None n = None

-- the mark with which a text starts
unfoldable pub mark_of : List ℕ → Option Mark
mark_of s =
    let place = number_of (part_of (rest_of s)) in
    if part_of s is "leap"
    then leap_marked place
    else number_marked (part_of s) place (number_of (part_of (rest_of (rest_of s))))

-- what follows it
unfoldable pub after_mark : List ℕ → List ℕ
after_mark s = if part_of s is "leap" then rest_of (rest_of s) else rest_of (rest_of (rest_of s))

-- where a mark is read, on with it
abbrev pub on_mark : Option Mark → (Mark → Reply (List Mark)) → Reply (List Mark)
on_mark (Some m) on = on m
on_mark None on = refused bad_line

-- the marks of a text, after those before it. Each takes a byte at least, so that none is left when the bytes have been counted
unfoldable pub marks_within : ℕ → List Mark → List ℕ → Reply (List Mark)
marks_within zero before s = refused bad_line
marks_within (suc n) before s =
    if is_empty s
    then answer before
    else on_mark (mark_of s) (λ m. marks_within n (before ++ (m ∷ [])) (after_mark s))

-- all marks of a text; one that is no marks is refused
unfoldable pub marks_in : List ℕ → Reply (List Mark)
marks_in s = marks_within (suc (length s)) [] s

-- the sheet with all marks; where a text is no marks there is none
abbrev pub sheet_read : Reply (List Mark) → Option Sheet
sheet_read (answer marks) = Some (with_marks blank_sheet marks)
sheet_read (refused k) = None
