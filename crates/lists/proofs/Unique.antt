-- The contract of a record determines it, and that of a year's list the next head and every number of the row.
-- Assumes nothing.
use mathlib.Core.Path.{◌∙◌, sym}
use Rattle.rows.proofs.Determined.{OneOutcome, OneReply, one_answer}
use Rattle.lists.proofs.year_rows.write_year.Kinds as write_year_kinds
use Rattle.lists.proofs.year_rows.write_year.Reads as write_year_reads
use Rattle.lists.proofs.year_rows.record_of.Kinds as record_of_kinds
use Rattle.lists.proofs.year_rows.record_of.Reads as record_of_reads
use Rattle.lists.proofs.list.Kinds as list
use Rattle.lists.proofs.list.Reads as list_reads
use Rattle.lists.proofs.run.Kinds as run
use Rattle.lists.proofs.run.Reads as run_reads
use Rattle.lists.proofs.run_asked.Kinds as run_asked_kinds
use Rattle.lists.proofs.run_asked.Reads as run_asked_reads

pub record_of_unique : OneReply record_of_kinds.ps record_of_kinds.r record_of_reads.Post
record_of_unique κs a x y s t p q = p ∙ sym q

pub write_year_unique : OneOutcome write_year_kinds.ps write_year_kinds.r write_year_reads.Post (λ κs s. s.1.1.0.now)
write_year_unique κs a x y s t p q = (p.0 ∙ sym q.0, p.1 ∙ sym q.1)

pub list_unique : OneOutcome list.ps list.r list_reads.Post (λ κs s. s.1.0.now)
list_unique κs a x y s t p q = (one_answer x y _ p.0 q.0, p.1 ∙ sym q.1)

pub run_unique : OneOutcome run.ps run.r run_reads.Post (λ κs s. s.1.1.0.now)
run_unique κs a x y s t p q = (one_answer x y _ p.0 q.0, p.1 ∙ sym q.1)

pub run_asked_unique : OneReply run_asked_kinds.ps run_asked_kinds.r run_asked_reads.Post
run_asked_unique κs a x y s t p q = one_answer x y _ p q
