-- Each contract determines its reply: the questions', and that of a term's time for callers that know it to be admitted.
-- Assumes nothing.
use mathlib.Core.Path.{◌∙◌, sym}
use Rattle.rows.proofs.Determined.{OneReply, one_answer, OneOutcome}
use Rattle.seasons.proofs as own

pub solstice_unique : OneReply own.solstice.Kinds.ps own.solstice.Kinds.r own.solstice.Reads.Post
solstice_unique κs a x y s t p q = one_answer x y _ p q

pub term_unique : OneReply own.term.Kinds.ps own.term.Kinds.r own.term.Reads.Post
term_unique κs a x y s t p q = one_answer x y _ p q

pub pentad_unique : OneReply own.pentad.Kinds.ps own.pentad.Kinds.r own.pentad.Reads.Post
pentad_unique κs a x y s t p q = one_answer x y _ p q

pub earth_unique : OneReply own.earth.Kinds.ps own.earth.Kinds.r own.earth.Reads.Post
earth_unique κs a x y s t p q = one_answer x y _ p q

pub term_time_unique : OneReply own.term_time.Kinds.ps own.term_time.Kinds.r own.term_time.Reads.Post
term_time_unique κs a x y s t p q = p ∙ sym q

pub terms_unique : OneOutcome own.terms.Kinds.ps own.terms.Kinds.r own.terms.Reads.Post (λ κs s. s.1.0.now)
terms_unique κs a x y s t p q = (one_answer x y _ p.0 q.0, p.1 ∙ sym q.1)
