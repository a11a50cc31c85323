-- `dates::day_at` meets its contract: the day is answered just where its date is one of the lists'.
-- Assumes nothing.
use mathlib.Core.Bool.{true, false, false≢true}
use mathlib.Core.Path.{◌≡◌, ◌∙◌, ap, sym}
use Prim.Native.Nat.{ℕ, suc, ◌+◌, ◌-◌, ◌≤◌, ◌<◌}
use native.Mathlib.Omega.{arith}
use Rattle.std.specs.Prelude.{Result}
use Rattle.rows.specs.Reply.{answer, refused, outside}
use Rattle.rows.specs.declared.Refusal.{Refusal}
use Rattle.measure.specs.Units.{last_year}
use Rattle.measure.specs.Epoch.{shoushi}
use Rattle.moons.specs.Lunation.{last_lunation}
use Rattle.month_law.specs.Calendar.{head}
use Rattle.month_law.specs.Demand.{Dated}
use Rattle.edition.specs.Edition.{calendar, first_day}
use Rattle.months.specs.Month.{day_reply, month_answer_said}
use Rattle.months.specs.declared.Month.{Month}
use Rattle.months.proofs.Reach.{place_most, first_most}
use Rattle.months.specs.Date.{back_reply, has_date}
use Rattle.months.proofs.Back.{date, day_of_date, date_small, back_no_year, back_answered, back_refused, date_given, given_date}
use Rattle.months.proofs.dates.day_at.Goals as goal

-- the day that the code computes is the date's
day_is : (n p m h f : ℕ) → h ≡ head (calendar shoushi) n → f ≡ first_day shoushi (h + p) → f + (m - 1) ≡ day_of_date n p m
day_is n p m h f eh ef = ap (λ (x : ℕ). x + (m - 1)) (ef ∙ ap (λ (x : ℕ). first_day shoushi (x + p)) eh)

in_reach : (n p h : ℕ) → n ≤ last_year → p < 13 → h ≡ head (calendar shoushi) n → h + p ≤ suc last_lunation
in_reach n p h admitted few e = omega (arith, place_most n p admitted few)

-- what the test of the reply says of the date
module _ (n p m d : ℕ) (r : Result Month Refusal) (admitted : n ≤ last_year) (e : d ≡ day_of_date n p m) (reply : month_answer_said r ≡ day_reply shoushi d) where
  found : has_date (month_answer_said r) n p m ≡ true → answer d ≡ back_reply shoushi n p m
  found t =
      let x : Dated (calendar shoushi) d (date n p m) = given_date n p m d (rw reply at t) in
      ap answer e ∙ sym (back_answered n p m admitted (rw e at x))

  not_found : has_date (month_answer_said r) n p m ≡ false → refused outside ≡ back_reply shoushi n p m
  not_found t =
      sym (back_refused n p m admitted λ x. false≢true (sym (rw reply at t) ∙ date_given n p m d admitted (rw e x)))

pub returns-then-n-gt-LAST_YEAR : goal.returns-then-n-gt-LAST_YEAR
returns-then-n-gt-LAST_YEAR c =
    sym (back_no_year _ _ _ c.if-n-gt-LAST_YEAR.true)

pub returns-then-p-ge-MOST_MONTHS : goal.returns-then-p-ge-MOST_MONTHS
returns-then-p-ge-MOST_MONTHS c =
    sym (back_refused _ _ _ c.if-n-gt-LAST_YEAR.false (λ x. omega (arith, date_small _ _ _ x, c.then-p-ge-MOST_MONTHS.either)))

pub overflow_add-head_of : goal.overflow_add-head_of
overflow_add-head_of c =
    omega (arith, in_reach _ _ _ c.if-n-gt-LAST_YEAR.false c.if-p-ge-MOST_MONTHS.false c.head_of.ensures)

pub first_day-requires : goal.first_day-requires
first_day-requires c =
    omega (arith, in_reach _ _ _ c.if-n-gt-LAST_YEAR.false c.if-p-ge-MOST_MONTHS.false c.head_of.ensures)

pub overflow_add-d : goal.overflow_add-d
overflow_add-d c =
    omega (
      arith,
      day_is _ _ c.args.m _ _ c.head_of.ensures c.first_day.ensures,
      first_most _ (place_most c.args.n c.args.p (omega arith) (omega arith)),
    )

pub returns-then-has_date : goal.returns-then-has_date
returns-then-has_date c =
    found _ _ _ _ c.month_of.result c.if-n-gt-LAST_YEAR.false
    (day_is _ _ _ _ _ c.head_of.ensures c.first_day.ensures) c.month_of.ensures
    (sym c.has_date.ensures ∙ c.if-has_date.true)

pub returns-else-has_date : goal.returns-else-has_date
returns-else-has_date c =
    not_found _ _ _ _ c.month_of.result c.if-n-gt-LAST_YEAR.false
    (day_is _ _ _ _ _ c.head_of.ensures c.first_day.ensures) c.month_of.ensures
    (sym c.has_date.ensures ∙ c.if-has_date.false)
