-- Each contract determines its reply.
-- Assumes nothing.
use mathlib.Core.Path.{◌∙◌, sym}
use Rattle.rows.proofs.Determined.{OneReply}
use Rattle.signed.proofs as own

pub ahead_unique : OneReply own.ahead.Kinds.ps own.ahead.Kinds.r own.ahead.Reads.Post
ahead_unique κs a x y s t p q = p ∙ sym q

pub behind_unique : OneReply own.behind.Kinds.ps own.behind.Kinds.r own.behind.Reads.Post
behind_unique κs a x y s t p q = p ∙ sym q

pub magnitude_of_unique : OneReply own.magnitude_of.Kinds.ps own.magnitude_of.Kinds.r own.magnitude_of.Reads.Post
magnitude_of_unique κs a x y s t p q = p ∙ sym q
