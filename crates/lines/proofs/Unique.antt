-- Each question's contract determines its reply and, where a row is lent, every byte of it.
-- Assumes nothing.
use mathlib.Core.Path.{◌∙◌, sym, ◌≡◌}
use contract.Lifetimes.{Lfts}
use borrow.Fn.Kinds.{Dens, res_t, ended_of}
use denote.Triple.Clauses.{AtExit}
use Rattle.rows.proofs.Determined.{OneOutcome, one_answer}
use Rattle.lines.proofs.replies.Kinds as replies
use Rattle.lines.proofs.replies.Reads as replies_reads
use Rattle.lines.proofs.blocks.answer_block.Kinds as answer_block_kinds
use Rattle.lines.proofs.blocks.answer_block.Reads as answer_block_reads
use Rattle.lines.proofs.blocks.answer_whole_lines.Kinds as answer_whole_lines_kinds
use Rattle.lines.proofs.blocks.answer_whole_lines.Reads as answer_whole_lines_reads

pub replies_unique : OneOutcome replies.ps replies.r replies_reads.Post (λ κs s. s.1.0.now)
replies_unique κs a x y s t p q = (one_answer x y _ p.0 q.0, p.1 ∙ sym q.1)

pub answer_block_unique : (κs : Lfts 2) (a : Dens κs answer_block_kinds.ps) (x y : (res_t answer_block_kinds.r κs).Denot)
    (s t : AtExit (ended_of 2 answer_block_kinds.ps answer_block_kinds.r) κs)
    → answer_block_reads.Post κs a x s
    → answer_block_reads.Post κs a y t
    → (x ≡ y) × (s.0.now ≡ t.0.now) × (s.1.1.0.now ≡ t.1.1.0.now)
answer_block_unique κs a x y s t p q = (p.0 ∙ sym q.0, p.1.1 ∙ sym q.1.1, p.1.0 ∙ sym q.1.0)

pub answer_whole_lines_unique : OneOutcome answer_whole_lines_kinds.ps answer_whole_lines_kinds.r answer_whole_lines_reads.Post (λ κs s. s.1.0.now)
answer_whole_lines_unique κs a x y s t p q = (p.0 ∙ sym q.0, p.1 ∙ sym q.1)
