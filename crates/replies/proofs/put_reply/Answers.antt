-- `replies::put_reply` meets its contract: what a signed number is, once it has been handed over. Assumes nothing.
use borrow.Author.Rules.{rules}
use native.Mathlib.Omega.{arith}
use mir.Syntax.{w64}
use mir.Val.{SFits}
use mir.Facts.{to_z-of_z}
use Rattle.std.proofs.lemmas.Grind.{common_steps}
use Rattle.replies.specs.ReplyText.{reply_text}
use Rattle.replies.proofs.LineLaws.{over_line}
use Rattle.replies.proofs.put_reply.Goals as goal

pub returns-in-Signed-Ok-clause-writes : goal.returns-in-Signed-Ok-clause-writes
unfolding reply_text
returns-in-Signed-Ok-clause-writes g c =
    let fits : SFits w64 c.in-Signed-Ok.z = search rules in grind (arith, common_steps, over_line, to_z-of_z fits)
