-- What is done with the bytes in hand is determined: the reply, and every byte of both rows; and so is how a turn ends.
-- Assumes nothing.
use mathlib.Core.Path.{◌≡◌, ◌∙◌, sym}
use contract.Lifetimes.{Lfts}
use borrow.Fn.Kinds.{Dens, res_t, ended_of}
use denote.Triple.Clauses.{AtExit}
use Rattle.rows.proofs.Determined.{OneReply}
use Rattle.month_lines.proofs.answer_read.Kinds as answer_read_kinds
use Rattle.month_lines.proofs.answer_read.Reads as answer_read_reads
use Rattle.month_lines.proofs.turn_after.Kinds as turn_after_kinds
use Rattle.month_lines.proofs.turn_after.Reads as turn_after_reads

pub answer_read_unique : (κs : Lfts 2) (a : Dens κs answer_read_kinds.ps) (x y : (res_t answer_read_kinds.r κs).Denot)
    (s t : AtExit (ended_of 2 answer_read_kinds.ps answer_read_kinds.r) κs)
    → answer_read_reads.Post κs a x s
    → answer_read_reads.Post κs a y t
    → (x ≡ y) × (s.0.now ≡ t.0.now) × (s.1.1.1.0.now ≡ t.1.1.1.0.now)
answer_read_unique κs a x y s t p q = (p.0 ∙ sym q.0, p.1.1 ∙ sym q.1.1, p.1.0 ∙ sym q.1.0)

pub turn_after_unique : OneReply turn_after_kinds.ps turn_after_kinds.r turn_after_reads.Post
turn_after_unique κs a x y s t p q = p ∙ sym q
