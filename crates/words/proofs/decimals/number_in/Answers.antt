-- `decimals::number_in` meets its contract. Assumes nothing.
use Rattle.std.proofs.Common.{◌∙◌, refl, sym, get_or, arith}
use Rattle.words.specs.Number.{digits, value}
use lib.Dec.{lit<}
use Rattle.words.proofs.Digits.{a_digit, value_more, large}
use Rattle.words.proofs.decimals.number_in.Goals as goal

pub loop-b-init : goal.loop-b-init
unfolding digits value
loop-b-init c = (refl, refl, lit< tt)

pub returns-in_err-checked_mul : goal.returns-in_err-checked_mul
returns-in_err-checked_mul c =
    let s = c.args.s.now in
    let i = c.loop-b.b-index in
    c.from_residual-in_err-checked_mul.ensures
    ∙ sym (large s i (omega arith) (omega (arith, value_more s i, c.loop-b.invariant.1, c.in_err-checked_mul.ensures)))

pub returns-in_err-v : goal.returns-in_err-v
returns-in_err-v c =
    let s = c.args.s.now in
    let i = c.loop-b.b-index in
    let d = a_digit (get_or s i 0) c.in_ok-d.d (sym c.digit_of.ensures ∙ c.in_ok-d.was) in
    c.from_residual-in_err-v.ensures
    ∙ sym (large s i (omega arith) (omega (arith, value_more s i, c.loop-b.invariant.1, c.in_ok-checked_mul.ensures, c.in_err-v.ensures, d.1)))
