-- `months::span_of` meets its contract: of the three months that it may find, the one that it returns holds the day.
-- Assumes nothing.
use mathlib.Core.Path.{◌≡◌, ◌∙◌, ap, sym}
use Prim.Native.Nat.{ℕ, zero, suc, ◌+◌, ◌-◌, ◌*◌, ◌/◌, ◌≤◌, ◌<◌}
use native.Mathlib.Numerals.{add-one}
use native.Mathlib.Omega.{arith}
use Rattle.measure.specs.Units.{day, month}
use Rattle.measure.specs.Epoch.{shoushi, mean_start}
use Rattle.edition.specs.Edition.{first_day}
use Rattle.edition.proofs.Edition.{figures}
use Rattle.months.specs.Month.{earliest}
use Rattle.months.proofs.Reach.{MeanBefore, begun_before, over_after, span_is}
use Rattle.months.proofs.span_of.Goals as goal

-- the lunation of the mean new moon before the day
abbrev mean_of : ℕ → ℕ
mean_of d = (d * day - mean_start shoushi) / month

mean_before : (d : ℕ) → earliest ≤ d → MeanBefore d (mean_of d)
mean_before d h = record { come = omega arith; next = omega arith }

-- lunation 0 begins by the earliest day
not_first : (d first : ℕ) → earliest ≤ d → first ≡ first_day shoushi (mean_of d) → d < first → 1 ≤ mean_of d
not_first d first h e k = go (mean_of d) e
  where
    go : (l : ℕ) → first ≡ first_day shoushi l → 1 ≤ l
    go zero e = absurd (omega (arith, figures))
    go (suc l) e = omega arith

pub overflow_sub-result : goal.overflow_sub-result
overflow_sub-result c =
    not_first _ _ c.requires.0 c.first_day-first.ensures c.if-d-first.true

pub overflow_sub-mean-then-d-first : goal.overflow_sub-mean-then-d-first
overflow_sub-mean-then-d-first c =
    not_first _ _ c.requires.0 c.first_day-first.ensures c.if-d-first.true

pub returns-then-d-first : goal.returns-then-d-first
returns-then-d-first c =
    let l = mean_of c.args.d in
    let one : 1 ≤ l = not_first _ _ c.requires.0 c.first_day-first.ensures c.if-d-first.true in
    let back : suc (l - 1) ≡ l = omega arith in
    span_is _ _ _ _ c.first_day.ensures (c.first_day-first.ensures ∙ ap (first_day shoushi) (sym back))
    (omega (arith, c.first_day.ensures, begun_before _ l (mean_before _ c.requires.0) (l - 1) back)) c.if-d-first.true

pub returns-then-d-next : goal.returns-then-d-next
returns-then-d-next c =
    span_is _ _ _ _ c.first_day-first.ensures (c.first_day-next.ensures ∙ ap (first_day shoushi) (add-one _))
    c.if-d-first.false c.if-d-next.true

pub returns : goal.returns
returns c =
    let l = mean_of c.args.d in
    let two : l + 2 ≡ suc (l + 1) = omega arith in
    span_is _ _ _ _ c.first_day-next.ensures (c.first_day-2.ensures ∙ ap (first_day shoushi) two)
    c.if-d-next.false (omega (arith, c.first_day-2.ensures, over_after _ l (mean_before _ c.requires.0)))
