-- "The running day count": the winter solstice (000:204-211).
-- Assumes nothing.
use Rattle.std.specs.Prelude.{ℕ, ◌+◌, ◌*◌}
use Rattle.rows.specs.Choice.{◌<?◌}
use Rattle.rows.specs.Reply.{Reply, answer, no_year, refuse_if}
use Rattle.measure.specs.Units.{year, last_year}
use Rattle.measure.specs.Epoch.{Epoch}

-- the running time of the solstice that year n begins with
unfoldable pub solstice : Epoch → ℕ → ℕ
solstice e n = n * year + e.solstice

unfoldable pub solstice_reply : Epoch → ℕ → Reply ℕ
solstice_reply e n = refuse_if (last_year <? n) no_year (answer (solstice e n))
