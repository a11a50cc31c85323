-- `frames::first_line_end` meets its contract. Assumes nothing.
use Rattle.std.proofs.Common.{rules}
use Rattle.std.proofs.lemmas.Iterator.{YieldsList-from_slice}
use Rattle.std.proofs.lemmas.Iterator.Search.{position_from_yields_List}
use borrow.Author.Tests.{tests}
use Rattle.rows.specs.Choice.{◌=?◌}
use Rattle.frames.specs.LineEnds.{line_end}
use Rattle.frames.proofs.first_line_end.Goals as goal

pub returns : goal.returns
returns c =
    position_from_yields_List (λ b. b =? line_end) _ _ c.position.result c.position.ensures.ran (YieldsList-from_slice _ c.iter.ensures.rest)
    (λ x b q k. search (rules, tests))
