-- A year's list and a run of years in a lent row: what is written, and the replies.
-- Assumes nothing.
use Rattle.std.specs.Prelude.{List, [], ◌++◌, ℕ, zero, suc, ◌+◌, ◌-◌, ◌*◌}
use Rattle.rows.specs.Choice.{◌<?◌, ◌=?◌}
use Rattle.rows.specs.Reply.{Reply, answer, no_year, short_row, refuse_if}
use Rattle.measure.specs.Units.{last_year}
use Rattle.measure.specs.Epoch.{Epoch}
use Rattle.month_law.specs.Calendar.{Calendar, months_in}
use Rattle.edition.specs.Edition.{calendar}
use Rattle.lists.specs.Records.{year_room, records_of}

module _ (c : Calendar) where
  -- the lists of k years from n on, each from the place where the one before it ended
  unfoldable pub run_of : ℕ → ℕ → List ℕ
  run_of n zero = []
  run_of n (suc k) = run_of n k ++ records_of c (n + k) (months_in c (n + k))

  -- how many months they have
  unfoldable pub months_in_run : ℕ → ℕ → ℕ
  months_in_run n zero = 0
  months_in_run n (suc k) = months_in_run n k + months_in c (n + k)

-- the replies where the row has room for so many records
unfoldable pub list_reply : Epoch → ℕ → ℕ → Reply ℕ
list_reply e n room =
    refuse_if (last_year <? n) no_year (refuse_if (room <? year_room) short_row (answer (months_in (calendar e) n)))

-- a run of k years: of none, from a year past the last, or past it, and then a row too short, is refused
unfoldable pub run_asked : {A : Type 0} → ℕ → ℕ → ℕ → Reply A → Reply A
run_asked n k room later =
    refuse_if (k =? 0) no_year
    (refuse_if (last_year <? n) no_year
    (refuse_if (suc last_year - n <? k) no_year
    (refuse_if (room <? year_room * k) short_row
    later)))

unfoldable pub run_reply : Epoch → ℕ → ℕ → ℕ → Reply ℕ
run_reply e n k room = run_asked n k room (answer (months_in_run (calendar e) n k))
