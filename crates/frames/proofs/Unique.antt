-- Each contract determines its outcome: the questions', and the inner functions' with every byte of their row.
-- Assumes nothing.
use mathlib.Core.Path.{◌≡◌, ◌∙◌, sym}
use contract.Lifetimes.{Lfts}
use borrow.Fn.Kinds.{Dens, res_t, ended_of}
use denote.Triple.Clauses.{AtExit}
use Rattle.rows.proofs.Determined.{OneReply, OneOutcome, one_answer}
use Rattle.frames.proofs.line_len.Kinds as line_len_kinds
use Rattle.frames.proofs.line_len.Reads as line_len_reads
use Rattle.frames.proofs.rest.Kinds as rest
use Rattle.frames.proofs.rest.Reads as rest_reads
use Rattle.frames.proofs.day_asked.Kinds as day_asked_kinds
use Rattle.frames.proofs.day_asked.Reads as day_asked_reads
use Rattle.frames.proofs.put_month_line.Kinds as put_month_line_kinds
use Rattle.frames.proofs.put_month_line.Reads as put_month_line_reads
use Rattle.frames.proofs.put_refusal_line.Kinds as put_refusal_line_kinds
use Rattle.frames.proofs.put_refusal_line.Reads as put_refusal_line_reads

pub line_len_unique : OneReply line_len_kinds.ps line_len_kinds.r line_len_reads.Post
line_len_unique κs a x y s t p q = p ∙ sym q

pub rest_unique : (κs : Lfts 1) (a : Dens κs rest.ps) (x y : (res_t rest.r κs).Denot) (s t : AtExit (ended_of 1 rest.ps rest.r) κs)
    → rest_reads.Post κs a x s
    → rest_reads.Post κs a y t
    → x.now ≡ y.now
rest_unique κs a x y s t p q = p ∙ sym q

pub day_asked_unique : OneReply day_asked_kinds.ps day_asked_kinds.r day_asked_reads.Post
day_asked_unique κs a x y s t p q = one_answer x y _ p q

pub put_month_line_unique : OneOutcome put_month_line_kinds.ps put_month_line_kinds.r put_month_line_reads.Post (λ κs s. s.1.1.0.now)
put_month_line_unique κs a x y s t p q = (p.0 ∙ sym q.0, p.1 ∙ sym q.1)

pub put_refusal_line_unique : OneOutcome put_refusal_line_kinds.ps put_refusal_line_kinds.r put_refusal_line_reads.Post (λ κs s. s.1.0.now)
put_refusal_line_unique κs a x y s t p q = (p.0 ∙ sym q.0, p.1 ∙ sym q.1)
