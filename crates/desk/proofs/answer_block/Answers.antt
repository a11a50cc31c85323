-- `desk::answer_block` meets its contract: a byte more, of a line that ends or goes on. Assumes nothing.
use Rattle.std.proofs.Common.{◌∙◌, sym, ap, ℕ, List, ◌++◌, ◌∷◌, [], take, get_or, refl, arith}
use Rattle.desk.specs.Input.{line_room}
use Rattle.desk.proofs.Kept.{ended, goes_on, at_start}
use Rattle.desk.proofs.answer_block.Goals as goal
use Rattle.desk.proofs.answer_block.Goals.{then-b-eq-LINE_END+else-not-answer_line, else-b-eq-LINE_END}

pub loop-b-init : goal.loop-b-init
loop-b-init g c = (refl, at_start line_room c.args.line.now c.args.block.now)

pub loop-b-preserved : goal.loop-b-preserved
loop-b-preserved g c =
    let l = c.loop-b in
    let begun = c.args.line.now in
    let block = c.args.block.now in
    elim c.if-b-eq-LINE_END.branch [
      | then-b-eq-LINE_END+else-not-answer_line w ↦ (
        omega arith,
        w.line-is ∙ w.clear.ensures ∙ sym (ended line_room begun block l.b-index (omega arith) w.if-b-eq-LINE_END.true),
      )
      | else-b-eq-LINE_END w ↦ (
        omega arith,
        w.line-is ∙ w.keep.ensures
            ∙ ap (λ (s : List ℕ). take line_room (s ++ (get_or block l.b-index 0 ∷ []))) l.invariant.1
            ∙ sym (goes_on line_room begun block l.b-index (omega arith) w.if-b-eq-LINE_END.false),
      )
    ]
