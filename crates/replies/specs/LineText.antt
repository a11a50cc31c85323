-- The line of text that is written for each answer that is no list, and for a refusal, and the room that it asks for.
-- Assumes nothing.
use Rattle.std.specs.Prelude.{List, [], ◌∷◌, ◌++◌, ℕ, zero, suc, ℤ, pos, negsuc, length, drop, ◌≡◌, ◌≤◌}
use Rattle.rows.specs.Reply.{Reply, answer, refused}
use Rattle.rows.specs.Row.{over}
use Rattle.measure.specs.declared.Name.{Name}
use Rattle.measure.specs.Days.{day_of, remainder_of, sixty_name}
use Rattle.remainders.specs.ExtraDays.{Found, none, days_on}
use Rattle.months.specs.Kind.{number_in, mark_in}
use Rattle.months.specs.Month.{MonthOfDay}
use Rattle.words.specs.Ascii.{bytes_of}
use Rattle.texts.specs.Text.{filled}

-- the item at a place of a line: its template starts with a blank, which the first does without
unfoldable pub item_at : List ℕ → ℕ → List ℕ
item_at item zero = drop 1 item
item_at item (suc i) = item

-- so many items
unfoldable pub items_of : List ℕ → ℕ → List ℕ
items_of item zero = []
items_of item (suc k) = items_of item k ++ item_at item k

-- one number
abbrev pub number_item : List ℕ
number_item = bytes_of " %"

unfoldable pub refusal_text : ℕ → List ℕ
refusal_text k = filled (bytes_of "refused %\n") (k ∷ [])

-- numbers with single blanks between them
unfoldable pub numbers_text : List ℕ → List ℕ
numbers_text ns = filled (items_of number_item (length ns) ++ bytes_of "\n") ns

-- what was asked for, or the refusal
abbrev pub text_of : {A : Type 0} → (A → List ℕ) → Reply A → List ℕ
text_of text (answer a) = text a
text_of text (refused k) = refusal_text k

abbrev pub number_text : ℕ → List ℕ
number_text n = numbers_text (n ∷ [])

-- name, stem and branch
abbrev pub name_text : Name → List ℕ
name_text n = numbers_text (n.name ∷ n.stem ∷ n.branch ∷ [])

-- double-hour and ke
abbrev pub hour_text : ℕ × ℕ → List ℕ
hour_text h = numbers_text (h.0 ∷ h.1 ∷ [])

-- days to add
unfoldable pub days_text : Found → List ℕ
days_text none = bytes_of "none\n"
days_text (days_on n) = number_text n

-- a negative number has a sign before its magnitude
unfoldable pub signed_text : ℤ → List ℕ
signed_text (pos n) = filled (bytes_of "%\n") (n ∷ [])
signed_text (negsuc n) = filled (bytes_of "-%\n") (suc n ∷ [])

-- year, place and day of the month; first day and length; number and leap mark
unfoldable pub month_text : MonthOfDay → List ℕ
month_text m =
    filled (bytes_of "% % % % % % %\n")
    (m.year ∷ m.place ∷ m.day ∷ m.first ∷ m.length ∷ number_in m.kind ∷ mark_in m.kind ∷ [])

-- a running time with its day, its remainder and the day's name
unfoldable pub moment_text : ℕ → List ℕ
moment_text t = filled (bytes_of "% % % %\n") (t ∷ day_of t ∷ remainder_of t ∷ sixty_name (day_of t) ∷ [])

-- room for one line
abbrev pub line_room : ℕ
line_room = 16_384

-- a text that has room in a line is written from its start
abbrev pub FillsLine : List ℕ → List ℕ → List ℕ → Type 0
FillsLine text before after = (length text ≤ line_room) × (after ≡ over text before)
