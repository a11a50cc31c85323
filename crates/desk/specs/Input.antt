-- The desk's input: what is kept of a line until it ends, and what the arguments ask. What is read and written cannot be said, so each
-- turn is held to what it does with the block that it has.
-- Assumes nothing.
use Rattle.std.specs.Prelude.{◌≡◌, List, [], ◌∷◌, ◌++◌, ℕ, suc, ◌+◌, ◌≤◌, ◌<◌, Option, Some, None, length, take, if◌then◌else◌}
use Rattle.rows.specs.Choice.{◌<?◌, ◌=?◌}
use Rattle.measure.specs.Epoch.{shoushi}
use Rattle.frames.specs.LineEnds.{line_end}
use Rattle.questions.specs.Question.{longest}
use Rattle.ask.specs.AnswerText.{answer_text}
use Rattle.desk.specs.declared.Joined.{Joined}
use Rattle.desk.specs.declared.Turn.{Turn}
use Rattle.desk.specs.declared.Turn.TheVariants.{Begun, Ended, CutShort}

-- room for a line: one byte more than the longest that is answered
abbrev pub line_room : ℕ
line_room = longest + 1

-- one byte more of a line; where there is no room it is dropped
abbrev pub with_more : ℕ → List ℕ → ℕ → List ℕ
with_more room line b = take room (line ++ (b ∷ []))

-- its end begins the next
unfoldable pub with_byte : ℕ → List ℕ → ℕ → List ℕ
with_byte room line b = if b =? line_end then [] else with_more room line b

-- what is kept after a block, of a line that was begun before it
unfoldable pub kept_after : ℕ → List ℕ → List ℕ → List ℕ
kept_after room line [] = line
kept_after room line (b ∷ bs) = kept_after room (with_byte room line b) bs

-- what is written where the input ends: the reply to the line that was begun, if one was
unfoldable pub last_text : List ℕ → List ℕ
last_text [] = []
last_text (b ∷ bs) = answer_text shoushi (b ∷ bs)

-- how a turn ends: the input has ended exactly where nothing was read; else the line is what is kept of it, unless a write failed
abbrev pub Left : Turn → List ℕ → ℕ → List ℕ → List ℕ → Type 0
Left Begun after room line block = (0 < length block) × (after ≡ kept_after room line block)
Left Ended after room line block = length block ≡ 0
Left CutShort after room line block = 0 < length block

-- a line before argument i: a blank stands before each but the first
abbrev pub with_blank : ℕ → ℕ → List ℕ → List ℕ
with_blank room i line = if 1 <? i then with_more room line 0x20 else line

-- a line begins with these bytes
abbrev pub Begins : List ℕ → List ℕ → Type 0
Begins line first = take (length first) line ≡ first

-- how many bytes a line has with an argument after its first, of which so many were got; where none were the line counts as full
abbrev pub with_argument : Option ℕ → ℕ → ℕ → ℕ
with_argument (Some got) from room = from + got
with_argument None from room = room

-- what so many arguments ask, the program's own name among them: all others in one line, and nothing exactly where there is no other
abbrev pub AskedBy : Option Joined → ℕ → Type 0
AskedBy (Some asked) count = (1 < count) × (suc asked.arguments ≡ count)
AskedBy None count = count ≤ 1
