-- The contract determines how long an answer's line is and every byte of the row, whatever type tells of a refusal.
-- Assumes nothing.
use mathlib.Core.Path.{◌∙◌, sym}
use denote.RattleType.{RattleType}
use denote.Param.Laws.{Laws, IsCopy}
use mir.Syntax.{Dict}
use Rattle.std.specs.declared.clone.Clone.{Ghosts as Cloned}
use Rattle.rows.specs.declared.Numbered.{Ghosts as Numbers}
use Rattle.rows.proofs.Determined.{OneOutcome}
use Rattle.replies.proofs.put_reply.Kinds as put_reply_kinds
use Rattle.replies.proofs.put_reply.Reads as put_reply_reads

pub put_reply_unique : (R : RattleType) (laws : Laws R) (copy : IsCopy R) (numbers : Numbers R.Denot) (d : Dict) (cloned : Cloned R.Denot) (e : Dict)
    → OneOutcome (put_reply_kinds.ps R laws copy) (put_reply_kinds.r R laws copy) (put_reply_reads.Post R laws copy numbers d cloned e) (λ κs s. s.1.1.0.now)
put_reply_unique R laws copy numbers d cloned e κs a x y s t p q = (p.0 ∙ sym q.0, p.1 ∙ sym q.1)
