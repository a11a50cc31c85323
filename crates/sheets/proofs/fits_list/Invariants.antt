-- What `crate::fits_list` keeps: all slots passed have what is wanted. Assumes nothing.
use Rattle.std.proofs.Common.{◌≡◌, get_or, true, length, ◌/◌}
use Rattle.lists.specs.Records.{record_width}
use Rattle.sheets.specs.declared.Wanted.TheVariants.{Nothing}
use Rattle.sheets.specs.Sheet.{has, all_below, value_in}
use Rattle.sheets.proofs.fits_list.Given as goal

abbrev pub invariant-loop-slot : goal.invariant-loop-slot
invariant-loop-slot l = all_below (λ slot. has (get_or l.wanted slot Nothing) (value_in l.list (length l.list / record_width) slot)) l.slot ≡ true
