-- `ask::write_reply` meets its contract: a row with room for the answer has room for a line. Assumes nothing.
use native.Mathlib.Omega.{arith}
use Rattle.rows.specs.Reply.{number_of}
use Rattle.questions.specs.DeskReply.{desk_said}
use Rattle.replies.proofs.ReplyLaws.{room_between}
use Rattle.ask.proofs.write_reply.Goals as goal

pub put_reply-n-requires : goal.put_reply-n-requires
put_reply-n-requires c =
    let told = desk_said number_of c.args.r c.args.numbers.now in
    let room = c.room_for.ensures c.args.numbers.now in
    (omega (arith, room, (room_between told).0), c.requires, omega (arith, room))
