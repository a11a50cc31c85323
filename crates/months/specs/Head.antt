-- The head of a year, as a question.
-- Assumes nothing.
use Rattle.std.specs.Prelude.{ℕ}
use Rattle.rows.specs.Choice.{◌<?◌}
use Rattle.rows.specs.Reply.{Reply, answer, no_year, refuse_if}
use Rattle.measure.specs.Units.{last_year}
use Rattle.measure.specs.Epoch.{Epoch}
use Rattle.month_law.specs.Calendar.{head}
use Rattle.edition.specs.Edition.{calendar}

-- the lunation that heads year n
unfoldable pub head_reply : Epoch → ℕ → Reply ℕ
head_reply e n = refuse_if (last_year <? n) no_year (answer (head (calendar e) n))
