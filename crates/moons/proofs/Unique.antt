-- Each question's contract determines its reply.
-- Assumes nothing.
use mathlib.Core.Path.{◌∙◌, sym}
use Rattle.rows.proofs.Determined.{OneReply, one_answer}
use Rattle.moons.proofs as own

pub mean_unique : OneReply own.mean.Kinds.ps own.mean.Kinds.r own.mean.Reads.Post
mean_unique κs a x y s t p q = one_answer x y _ p q

pub solar_unique : OneReply own.solar.Kinds.ps own.solar.Kinds.r own.solar.Reads.Post
solar_unique κs a x y s t p q = one_answer x y _ p q

pub lunar_unique : OneReply own.lunar.Kinds.ps own.lunar.Kinds.r own.lunar.Reads.Post
lunar_unique κs a x y s t p q = one_answer x y _ p q

pub motion_unique : OneReply own.motion.Kinds.ps own.motion.Kinds.r own.motion.Reads.Post
motion_unique κs a x y s t p q = one_answer x y _ p q

pub correction_unique : OneReply own.correction.Kinds.ps own.correction.Kinds.r own.correction.Reads.Post
correction_unique κs a x y s t p q = one_answer x y _ p q

pub true_moon_unique : OneReply own.true_moon.Kinds.ps own.true_moon.Kinds.r own.true_moon.Reads.Post
true_moon_unique κs a x y s t p q = one_answer x y _ p q

pub true_time_unique : OneReply own.true_time.Kinds.ps own.true_time.Kinds.r own.true_time.Reads.Post
true_time_unique κs a x y s t p q = p ∙ sym q
