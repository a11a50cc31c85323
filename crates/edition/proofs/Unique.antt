-- Each contract determines its reply.
-- Assumes nothing.
use mathlib.Core.Path.{◌∙◌, sym}
use Rattle.rows.proofs.Determined.{OneReply}
use Rattle.edition.proofs as own

pub first_day_unique : OneReply own.first_day.Kinds.ps own.first_day.Kinds.r own.first_day.Reads.Post
first_day_unique κs a x y s t p q = p ∙ sym q

pub middle_day_unique : OneReply own.middle_day.Kinds.ps own.middle_day.Kinds.r own.middle_day.Reads.Post
middle_day_unique κs a x y s t p q = p ∙ sym q
