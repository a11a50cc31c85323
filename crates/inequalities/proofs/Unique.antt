-- Each contract determines its reply.
-- Assumes nothing.
use mathlib.Core.Path.{◌∙◌, sym}
use Rattle.rows.proofs.Determined.{OneReply, one_answer}
use Rattle.inequalities.proofs as own

pub solar_at_unique : OneReply own.solar.solar_at.Kinds.ps own.solar.solar_at.Kinds.r own.solar.solar_at.Reads.Post
solar_at_unique κs a x y s t p q = one_answer x y _ p q

pub solar_unique : OneReply own.solar.solar.Kinds.ps own.solar.solar.Kinds.r own.solar.solar.Reads.Post
solar_unique κs a x y s t p q = p ∙ sym q

pub lunar_at_unique : OneReply own.lunar.lunar_at.Kinds.ps own.lunar.lunar_at.Kinds.r own.lunar.lunar_at.Reads.Post
lunar_at_unique κs a x y s t p q = one_answer x y _ p q

pub lunar_unique : OneReply own.lunar.lunar.Kinds.ps own.lunar.lunar.Kinds.r own.lunar.lunar.Reads.Post
lunar_unique κs a x y s t p q = p ∙ sym q

pub motion_at_unique : OneReply own.motions.motion_at.Kinds.ps own.motions.motion_at.Kinds.r own.motions.motion_at.Reads.Post
motion_at_unique κs a x y s t p q = one_answer x y _ p q

pub motion_unique : OneReply own.motions.motion.Kinds.ps own.motions.motion.Kinds.r own.motions.motion.Reads.Post
motion_unique κs a x y s t p q = p ∙ sym q
