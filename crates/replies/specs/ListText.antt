-- The line of text that is written for a list: numbers one by one, and months as records; and the room that it asks for.
-- Assumes nothing.
use Rattle.std.specs.Prelude.{List, [], ◌∷◌, ◌++◌, ◌≡◌, ℕ, ◌+◌, ◌*◌, ◌/◌, ◌≤◌, length}
use Rattle.rows.specs.Reply.{Reply, answer, refused}
use Rattle.lists.specs.Records.{record_width}
use Rattle.words.specs.Ascii.{bytes_of}
use Rattle.texts.specs.Text.{holes, filled}
use Rattle.replies.specs.LineText.{item_at, items_of, number_item}

-- a list whose items take w numbers each; of none this is said
unfoldable pub items_text : List ℕ → ℕ → List ℕ → List ℕ
items_text item w [] = bytes_of "none\n"
items_text item w (n ∷ more) = filled (items_of item (length (n ∷ more) / w) ++ bytes_of "\n") (n ∷ more)

-- numbers one by one
abbrev pub list_text : List ℕ → List ℕ
list_text = items_text number_item 1

-- months as records: first day, length, number and leap mark
abbrev pub record_item : List ℕ
record_item = bytes_of " %:%:%:%"

abbrev pub records_text : List ℕ → List ℕ
records_text = items_text record_item record_width

-- room for one number, and for one record
abbrev pub number_room : ℕ
number_room = 40

abbrev pub record_room : ℕ
record_room = 160

-- room for the line of a sheet's years, and for the records of all years
abbrev pub sheet_room : ℕ
sheet_room = 65_536

abbrev pub years_room : ℕ
years_room = 2_097_152

-- each item takes w numbers
abbrev pub ItemsTake : List ℕ → ℕ → Type 0
ItemsTake item w = (i : ℕ) → holes (item_at item i) ≡ w

-- a list lies in a row of so many numbers, with w for each of so many, and its line has room in a row of so many bytes
abbrev pub HasRoom : ℕ → ℕ → Reply ℕ → ℕ → ℕ → Type 0
HasRoom w each (answer k) numbers bytes = (w * k ≤ numbers) × (each * k + 100 ≤ bytes)
HasRoom w each (refused k) numbers bytes = Unit {0}
