-- The contract determines what is told and every byte of the row.
-- Assumes nothing.
use mathlib.Core.Path.{◌∙◌, sym}
use Rattle.rows.proofs.Determined.{OneOutcome}
use Rattle.ask.proofs.lengadriu_ask.Kinds as ask
use Rattle.ask.proofs.lengadriu_ask.Reads as ask_reads

pub lengadriu_ask_unique : OneOutcome ask.ps ask.r ask_reads.Post (λ κs s. s.1.0.now)
lengadriu_ask_unique κs a x y s t p q = (p.0 ∙ sym q.0, p.1 ∙ sym q.1)
