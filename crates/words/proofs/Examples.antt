-- Examples of the definitions. Assumes nothing.
use mathlib.Core.Path.{◌≡◌, refl}
use Rattle.words.specs.Search.{index_of}
use Rattle.words.specs.Ascii.{bytes_of}
use Rattle.std.specs.Prelude.{Some, None}
use Rattle.words.specs.Number.{digits, value, is_number, number_of}
use Rattle.words.specs.declared.Numbers.TheVariants.{Nothing, Two}
use Rattle.words.specs.Numbers.{end_of, part_of, rest_of, numbers_of}

-- the largest number and the next, twenty digits and one more, nothing, and a sign
numbers : (number_of (bytes_of "18446744073709551615") ≡ Some 18446744073709551615)
    × (number_of (bytes_of "18446744073709551616") ≡ None)
    × (number_of (bytes_of "00000000000000000340") ≡ Some 340)
    × (number_of (bytes_of "000000000000000000340") ≡ None)
    × (number_of (bytes_of "") ≡ None)
    × (number_of (bytes_of "-1") ≡ None)
unfolding digits value is_number number_of
numbers = (refl, refl, refl, refl, refl, refl)

-- a pair, two blanks, a blank at the end, four numbers, and none
lines : (numbers_of (bytes_of " 999 23") ≡ Some (Two 999 23))
    × (numbers_of (bytes_of " 999  23") ≡ None)
    × (numbers_of (bytes_of " 999 ") ≡ None)
    × (numbers_of (bytes_of " 1 2 3 4") ≡ None)
    × (numbers_of (bytes_of "") ≡ Some Nothing)
unfolding digits value is_number number_of index_of end_of part_of rest_of numbers_of
lines = (refl, refl, refl, refl, refl)
