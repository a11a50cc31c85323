-- The room that any reply asks for.
-- Assumes nothing.
use Prim.Native.Nat.{◌≤◌}
use native.Mathlib.Omega.{arith}
use Rattle.questions.specs.DeskReply.{DeskReply, malformed, number, moment, signed, month, name, hour, days, terms, year, years, sheet, constants, help}
use Rattle.replies.specs.LineText.{line_room}
use Rattle.replies.specs.ListText.{years_room}
use Rattle.replies.specs.ReplyText.{room_of}

-- every reply asks for the room of a line at least, and of the records of all years at most
pub room_between : (r : DeskReply) → (line_room ≤ room_of r) × (room_of r ≤ years_room)
unfolding room_of
room_between malformed = (omega arith, omega arith)
room_between (number r) = (omega arith, omega arith)
room_between (moment r) = (omega arith, omega arith)
room_between (signed r) = (omega arith, omega arith)
room_between (month r) = (omega arith, omega arith)
room_between (name n) = (omega arith, omega arith)
room_between (hour r) = (omega arith, omega arith)
room_between (days r) = (omega arith, omega arith)
room_between (terms r) = (omega arith, omega arith)
room_between (year r) = (omega arith, omega arith)
room_between (years r) = (omega arith, omega arith)
room_between (sheet r) = (omega arith, omega arith)
room_between constants = (omega arith, omega arith)
room_between help = (omega arith, omega arith)
