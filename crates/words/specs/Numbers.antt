-- The parts of a text, each with one blank before it, and the numbers among them. Assumes nothing.
use Rattle.std.specs.Prelude.{ℕ, ◌+◌, ◌-◌, List, [], Bool, cond, length, get_or, take, drop, eqb, Option, Some, None}
use Rattle.words.specs.Search.{index_of}
use Rattle.words.specs.declared.Numbers.{Numbers}
use Rattle.words.specs.declared.Numbers.TheVariants.{Nothing, One, Two, Three}
use Rattle.words.specs.Number.{number_of}

abbrev pub is_empty : List ℕ → Bool
is_empty s = eqb (length s) 0

-- where the first part ends: at the next blank, or with the text
unfoldable pub end_of : List ℕ → ℕ
end_of s = 1 + index_of 32 (drop 1 s)

-- the first part, after the blank with which s starts
unfoldable pub part_of : List ℕ → List ℕ
part_of s = cond (eqb (get_or s 0 0) 32) (take (end_of s - 1) (drop 1 s)) []

-- what follows it
unfoldable pub rest_of : List ℕ → List ℕ
rest_of s = drop (end_of s) s

-- the numbers, once some are read, the next one is, and what is left is t
abbrev pub third : ℕ → ℕ → Option ℕ → List ℕ → Option Numbers
third a b (Some c) t = cond (is_empty t) (Some (Three a b c)) None
third a b None t = None

abbrev pub second : ℕ → Option ℕ → List ℕ → Option Numbers
second a (Some b) t = cond (is_empty t) (Some (Two a b)) (third a b (number_of (part_of t)) (rest_of t))
second a None t = None

abbrev pub first : Option ℕ → List ℕ → Option Numbers
first (Some a) t = cond (is_empty t) (Some (One a)) (second a (number_of (part_of t)) (rest_of t))
first None t = None

-- up to three numbers; None where there are more, or something else
unfoldable pub numbers_of : List ℕ → Option Numbers
numbers_of s = cond (is_empty s) (Some Nothing) (first (number_of (part_of s)) (rest_of s))
