-- Each contract determines its reply and every byte of the row.
-- Assumes nothing.
use mathlib.Core.Path.{◌∙◌, sym}
use Rattle.rows.proofs.Determined.{OneOutcome, one_answer}
use Rattle.texts.proofs as own

pub write_text_unique : OneOutcome own.write_text.Kinds.ps own.write_text.Kinds.r own.write_text.Reads.Post (λ κs s. s.1.1.0.now)
write_text_unique κs a x y s t p q = (one_answer x y _ p.0 q.0, p.1 ∙ sym q.1)

pub fill_unique : OneOutcome own.fill.Kinds.ps own.fill.Kinds.r own.fill.Reads.Post (λ κs s. s.1.1.0.now)
fill_unique κs a x y s t p q = (p.0 ∙ sym q.0, p.1 ∙ sym q.1)
