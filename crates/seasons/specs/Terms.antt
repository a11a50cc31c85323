-- "The running day count": the 24 terms (000:213-220), their pentads, and the days on which earth begins to rule (000:273-276).
-- Assumes nothing.
use Rattle.std.specs.Prelude.{Bool, ◌||◌, not, List, ℕ, ◌+◌, ◌*◌, ◌-◌}
use Rattle.rows.specs.Choice.{◌≤?◌, ◌<?◌, ◌=?◌}
use Rattle.rows.specs.Reply.{Reply, answer, no_year, outside, short_row, refuse_if}
use Rattle.rows.specs.Row.{listed}
use Rattle.measure.specs.Units.{term_step, pentad_step, earth_step, last_year}
use Rattle.measure.specs.Epoch.{Epoch}
use Rattle.seasons.specs.Solstice.{solstice}

abbrev pub terms : ℕ
terms = 24

-- term i lies i steps after the solstice; those of even i are the middle terms
unfoldable pub term : Epoch → ℕ → ℕ → ℕ
term e n i = solstice e n + i * term_step

unfoldable pub term_reply : Epoch → ℕ → ℕ → Reply ℕ
term_reply e n i = refuse_if (last_year <? n) no_year (refuse_if (terms ≤? i) outside (answer (term e n i)))

-- a year's terms in rising order, and the reply where they are written into a row of so many numbers
unfoldable pub term_list : Epoch → ℕ → List ℕ
term_list e n = listed (term e n) 0 terms

unfoldable pub terms_reply : ℕ → ℕ → Reply ℕ
terms_reply n room = refuse_if (last_year <? n) no_year (refuse_if (room <? terms) short_row (answer terms))

-- each term has three pentads, 0, 1 and 2 steps after it
unfoldable pub pentad : Epoch → ℕ → ℕ → ℕ → ℕ
pentad e n i p = term e n i + p * pentad_step

unfoldable pub pentad_reply : Epoch → ℕ → ℕ → ℕ → Reply ℕ
pentad_reply e n i p =
    refuse_if (last_year <? n) no_year
    (refuse_if (terms ≤? i) outside
    (refuse_if (2 <? p) outside (answer (pentad e n i p))))

-- the middle terms of Dahan, Guyu, Dashu and Shuangjiang
abbrev pub earth_term : ℕ → Bool
earth_term i = (i =? 2) || (i =? 8) || (i =? 14) || (i =? 20)

-- earth rules one step before each of them
unfoldable pub earth : Epoch → ℕ → ℕ → ℕ
earth e n i = term e n i - earth_step

unfoldable pub earth_reply : Epoch → ℕ → ℕ → Reply ℕ
earth_reply e n i = refuse_if (last_year <? n) no_year (refuse_if (not (earth_term i)) outside (answer (earth e n i)))
