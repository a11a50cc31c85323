-- `frames::put_month_name` meets its contract. Assumes nothing.
use mathlib.Core.Path.{◌≡◌, ◌∙◌, refl, ap}
use mathlib.Core.List.{◌++◌}
use Prim.Native.Nat.{ℕ}
use native.Mathlib.Omega.{arith}
use lib.ListN.{length, length-append}
use Rattle.rows.specs.Row.{over}
use Rattle.months.specs.Month.{month_said}
use Rattle.frames.specs.Digits.{digits_of}
use Rattle.frames.specs.MonthLine.{shown}
use Rattle.frames.proofs.DigitLaws.{length_digits}
use Rattle.frames.proofs.RowLaws.{first_digits, more_digits}
use Rattle.frames.proofs.put_month_name.Goals as goal

to_mark : (y n : ℕ) → length (digits_of 3 y ++ digits_of 1 n) ≡ 4
to_mark y n = simp (length-append, length_digits)

pub returns : goal.returns
returns c =
    let out = c.args.out.now in
    let y = digits_of 3 c.args.m.year in
    let z = y ++ digits_of 1 c.month_number.result in
    let year = first_digits out _ c.args.m.year 3 (omega arith) c.put_digits.ensures in
    let number = more_digits y out _ _ 3 c.month_number.result 1 1 year (length_digits 3 c.args.m.year) (omega arith) refl c.put_digits-2.ensures in
    more_digits z out _ _ 4 c.leap_mark.result 1 1 number (to_mark c.args.m.year c.month_number.result) (omega arith) refl c.put_digits-3.ensures
    ∙ ap (λ (x : ℕ). over (y ++ digits_of 1 x ++ digits_of 1 c.leap_mark.result) out) c.month_number.ensures
    ∙ ap (λ (x : ℕ). over (y ++ digits_of 1 (shown (month_said c.args.m)).number ++ digits_of 1 x) out) c.leap_mark.ensures
