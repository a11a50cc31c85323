-- `months::month_in` meets its contract: the last middle term before the month's end tells its year and its kind.
-- Assumes nothing.
use mathlib.Core.Path.{◌≡◌, refl}
use Prim.Native.Nat.{ℕ, suc, ◌/◌, ◌≤◌, ◌<◌}
use native.Mathlib.Omega.{arith}
use Rattle.measure.specs.Epoch.{shoushi}
use Rattle.month_law.specs.Calendar.{Calendar, month_of, head}
use Rattle.edition.specs.Edition.{calendar}
use Rattle.edition.proofs.Edition.{shoushi_lawful}
use Rattle.months.specs.Month.{earliest, latest}
use Rattle.months.specs.Span.{span_of, LastBefore}
use Rattle.months.specs.declared.Span.{Span}
use Rattle.months.proofs.Reach.{month_held, month_most, end_small, term_small}
use Rattle.months.proofs.Spans.{lunation_is, first_is, first_before, term_come, last_of_month}
use Rattle.months.proofs.ByTerm.{year_told, month_is}
use Rattle.months.proofs.month_in.Goals as goal

abbrev cal : Calendar
cal = calendar shoushi

-- what is known of a span whose day is admitted, and of the last middle term before its end
module _ (span : Span) (d : ℕ) (pre : (earliest ≤ d) × (d ≤ latest) × (span ≡ span_of cal (month_of cal d))) where
  next_small : span.next ≤ suc latest
  next_small = end_small span (month_of cal d) pre.2 (month_most d pre.0 pre.1)

  begun : span.first ≤ d
  begun = omega (arith, first_is cal span (month_of cal d) pre.2, month_held d pre.0 pre.1)

  module _ (j : ℕ) (last : LastBefore cal span.next j) where
    year_small : j < 12_000
    year_small = term_small span.next j next_small last

    before_next : LastBefore cal (cal.first (suc (month_of cal d))) j
    before_next = last_of_month cal span (month_of cal d) pre.2 j last

    head_before : (h : ℕ) → h ≡ head cal (j / 12) → h ≤ span.lunation
    head_before h eh =
        omega (arith, lunation_is cal span (month_of cal d) pre.2, year_told cal shoushi_lawful (month_of cal d) j before_next)

pub last_term-last-requires : goal.last_term-last-requires
last_term-last-requires c =
    omega (arith, term_come cal _ _ c.requires.2 shoushi_lawful, next_small _ _ c.requires)

pub kind_by-kind-requires : goal.kind_by-kind-requires
kind_by-kind-requires c =
    omega (arith, year_small _ _ c.requires _ c.last_term-last.ensures)

pub head_of-requires : goal.head_of-requires
head_of-requires c =
    omega (arith, year_small _ _ c.requires _ c.last_term-last.ensures)

pub overflow_sub-result : goal.overflow_sub-result
overflow_sub-result c =
    head_before _ _ c.requires _ c.last_term-last.ensures _ c.head_of.ensures

pub overflow_sub-result-2 : goal.overflow_sub-result-2
overflow_sub-result-2 c =
    begun _ _ c.requires

pub overflow_sub-result-3 : goal.overflow_sub-result-3
overflow_sub-result-3 c =
    first_before cal _ _ c.requires.2 shoushi_lawful

pub returns : goal.returns
returns c =
    rw (c.kind_by-kind.ensures, c.head_of.ensures, c.requires.2)
    (month_is cal shoushi_lawful _ _ _ refl (before_next _ _ c.requires _ c.last_term-last.ensures))
