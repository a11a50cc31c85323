-- Each function's contract determines what it hands out and the whole row.
-- Assumes nothing.
use mathlib.Core.Path.{◌∙◌, sym}
use Rattle.rows.proofs.Determined.{OneReply, OneOutcome}
use Rattle.timing.proofs as own

pub timing_true_moon_unique : OneReply own.timing_true_moon.Kinds.ps own.timing_true_moon.Kinds.r own.timing_true_moon.Reads.Post
timing_true_moon_unique κs a x y s t p q = p ∙ sym q

pub timing_run_unique : OneOutcome own.timing_run.Kinds.ps own.timing_run.Kinds.r own.timing_run.Reads.Post (λ κs s. s.0.now)
timing_run_unique κs a x y s t p q = (p.0 ∙ sym q.0, p.1 ∙ sym q.1)

pub timing_terms_unique : OneOutcome own.timing_terms.Kinds.ps own.timing_terms.Kinds.r own.timing_terms.Reads.Post (λ κs s. s.0.now)
timing_terms_unique κs a x y s t p q = (p.0 ∙ sym q.0, p.1 ∙ sym q.1)

pub timing_terms_anew_unique :
    OneOutcome own.timing_terms_anew.Kinds.ps own.timing_terms_anew.Kinds.r own.timing_terms_anew.Reads.Post (λ κs s. s.0.now)
timing_terms_anew_unique κs a x y s t p q = (p.0 ∙ sym q.0, p.1 ∙ sym q.1)
