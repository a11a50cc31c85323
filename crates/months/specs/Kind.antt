-- The kind of a month, with its number and its leap mark.
-- Assumes nothing.
use Rattle.std.specs.Prelude.{ℕ}
use Rattle.months.specs.declared.kinds.Kind.{Kind as KindCase}
use Rattle.months.specs.declared.kinds.Kind.TheVariants.{Ordinary, Leap}

-- a month is either ordinary or leap, with its number inside
pub data Kind : Type 0 where
  ordinary : ℕ → Kind
  leap : ℕ → Kind

-- the paper's kind that each case stands for
abbrev pub kind_said : KindCase → Kind
kind_said (Ordinary n) = ordinary n
kind_said (Leap n) = leap n

-- the number and the leap mark of each
abbrev pub number_in : Kind → ℕ
number_in (ordinary n) = n
number_in (leap n) = n

abbrev pub mark_in : Kind → ℕ
mark_in (ordinary n) = 0
mark_in (leap n) = 1
