-- `viewer::lengadriu_year` meets its contract: its numbers have room for every year, so they get the year's records or its refusal, and
-- what the row is too short for is refused after that.
-- Assumes nothing.
use mathlib.Core.List.{List}
use mathlib.Core.Path.{◌∙◌, sym, ap}
use Prim.Native.Nat.{ℕ}
use Rattle.rows.specs.Row.{over}
use Rattle.viewer.specs.Bytes.{low_first_bytes}
use Rattle.viewer.specs.Room.{room_in}
use Rattle.viewer.specs.Told.{count_told}
use Rattle.viewer.proofs.YearReply.{short_refused, long_answered, numbers_given, refused_in_any}
use Rattle.viewer.proofs.lengadriu_year.Goals as goal

pub returns-then-row : goal.returns-then-row
unfolding room_in
returns-then-row c =
    let reply =
    short_refused c.args.n _ c.list.result c.list.ensures.value c.in-Ok.is (room_in c.args.row.now)
    c.if-row.true in
    record { value = c.from.ensures ∙ ap count_told (sym reply); writes = rw reply }

pub returns-else-row : goal.returns-else-row
unfolding room_in
returns-else-row c =
    let reply =
    long_answered c.args.n _ c.list.result c.list.ensures.value c.in-Ok.is (room_in c.args.row.now)
    c.if-row.false in
    let numbers = numbers_given c.args.n _ c.list.result c.list.ensures.value c.in-Ok.is _ _ c.list.ensures.writes in record { value = ap count_told (sym reply); writes = rw reply (c.put_numbers.ensures ∙ ap (λ (l : List ℕ). over (low_first_bytes l) c.args.row.now) numbers) }

pub returns-in-Err : goal.returns-in-Err
returns-in-Err c =
    let reply = refused_in_any c.args.n _ c.list.result c.list.ensures.value c.in-Err.is (room_in c.args.row.now) in
    record { value = c.from-in-Err.ensures ∙ ap count_told (sym reply); writes = rw reply }
