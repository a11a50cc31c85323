-- Month records as structs: the lists of the months, read four numbers a record.
-- Assumes nothing.
use Rattle.std.specs.Prelude.{List, [], ◌∷◌, ℕ, get_or}
use Rattle.records.specs.declared.MonthRecord.{MonthRecord}

-- the record that four numbers are
abbrev pub as_record : ℕ → ℕ → ℕ → ℕ → MonthRecord
as_record a b c d = record { first = a; length = b; number = c; leap = d }

-- the records that a list of numbers holds, four numbers each
unfoldable pub in_records : List ℕ → List MonthRecord
in_records [] = []
in_records (a ∷ []) = []
in_records (a ∷ b ∷ []) = []
in_records (a ∷ b ∷ c ∷ []) = []
in_records (a ∷ b ∷ c ∷ d ∷ rest) = as_record a b c d ∷ in_records rest

-- the one at its start
unfoldable pub record_in : List ℕ → MonthRecord
record_in numbers = as_record (get_or numbers 0 0) (get_or numbers 1 0) (get_or numbers 2 0) (get_or numbers 3 0)
