-- Each contract determines what is told, and every byte of the row.
-- Assumes nothing.
use mathlib.Core.Path.{◌∙◌, sym}
use Rattle.rows.proofs.Determined.{OneOutcome, OneReply}
use Rattle.viewer.proofs.lengadriu_day.Kinds as day
use Rattle.viewer.proofs.lengadriu_day.Reads as day_reads
use Rattle.viewer.proofs.lengadriu_year.Kinds as year
use Rattle.viewer.proofs.lengadriu_year.Reads as year_reads

pub lengadriu_day_unique : OneReply day.ps day.r day_reads.Post
lengadriu_day_unique κs a x y s t p q = p ∙ sym q

pub lengadriu_year_unique : OneOutcome year.ps year.r year_reads.Post (λ κs s. s.0.now)
lengadriu_year_unique κs a x y s t p q = (p.0 ∙ sym q.0, p.1 ∙ sym q.1)
