-- `motions::in_row` meets its contract: the numbers of the table are the rule's values, all rows computed in one test.
-- Assumes nothing.
use borrow.Author.Rules.{rules}
use Rattle.rows.specs.Row.{listed}
use Rattle.inequalities.specs.Law.{exact}
use Rattle.inequalities.specs.Motion.{whole_law, motion_at, rows, motion_in_row}
use Rattle.rows.proofs.Row.{listed_at}
use Rattle.inequalities.proofs.motions.in_row.Goals as goal

pub returns : goal.returns
unfolding listed motion_in_row motion_at whole_law exact
returns c =
    listed_at motion_in_row rows c.args.row (search rules)
