-- `Line::keep` meets its contract: what is kept of its row. Assumes nothing.
use Rattle.std.proofs.Common.{ℕ, List, arith}
use Rattle.desk.specs.Input.{line_room, with_more}
use Rattle.desk.proofs.Kept.{line_of_row}
use Rattle.desk.proofs.Line.keep.Goals as goal

pub returns : goal.returns
returns c =
    let kept = c.keep-self-inside in
    let more = λ (room : ℕ) (line : List ℕ). with_more room line c.args.b in
    line_of_row more c.self.inside.row c.args.self.now kept.new.line c.self.inside.kept kept.result line_room (omega arith) c.self.view_is
    kept.ensures.value kept.ensures.writes
