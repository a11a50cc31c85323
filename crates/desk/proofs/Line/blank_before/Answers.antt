-- `Line::blank_before` meets its contract: what is kept of its row. Assumes nothing.
use Rattle.std.proofs.Common.{ℕ, List, arith}
use Rattle.desk.specs.Input.{line_room, with_blank}
use Rattle.desk.proofs.Kept.{line_of_row}
use Rattle.desk.proofs.Line.blank_before.Goals as goal

pub returns : goal.returns
returns c =
    let kept = c.blank_before-self-inside in
    let more = λ (room : ℕ) (line : List ℕ). with_blank room c.args.i line in
    line_of_row more c.self.inside.row c.args.self.now kept.new.line c.self.inside.kept kept.result line_room (omega arith) c.self.view_is
    kept.ensures.value kept.ensures.writes
