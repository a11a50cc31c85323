-- `month_lines::answer_read` meets its contract: where no more was read, what was kept is the last line, and none is kept. Assumes nothing.
use Rattle.std.proofs.Common.{◌≡◌, ◌∙◌, sym, length, take, length-take-le, arith, [], eq-eqb}
use Rattle.rows.proofs.Row.{over_is}
use Rattle.month_lines.specs.Input.{kept_for}
use Rattle.month_lines.proofs.answer_read.Goals as goal

pub returns-then-have-kept-clause-buf_after : goal.returns-then-have-kept-clause-buf_after
unfolding kept_for
returns-then-have-kept-clause-buf_after c =
    let buf = c.args.buf.now in
    let none : length (take c.args.have buf) ≡ c.args.kept = length-take-le c.args.have buf (omega arith) ∙ c.if-have-kept.true in
    simp (eq-eqb _ _ none) (sym (over_is [] buf))
