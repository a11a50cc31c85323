-- `frames::number_spelled` meets its contract. Assumes nothing.
use Rattle.std.specs.Prelude.{Option, None}
use Rattle.std.specs.Option.{ok_or}
use mathlib.Core.Path.{◌≡◌, ◌∙◌, sym, ap}
use mathlib.Core.List.{[]}
use Prim.Native.Nat.{ℕ, ◌+◌, ◌*◌, ◌^◌}
use native.Mathlib.Nat.{pow-suc}
use native.Mathlib.Numerals.{add-one}
use native.Mathlib.Omega.{arith}
use lib.ListN.{get_or, drop, drop_of_length-le}
use Rattle.rows.specs.Reply.{answer, bad_line, answer_said}
use Rattle.rows.specs.declared.Refusal.TheVariants.{BadLine}
use Rattle.rows.proofs.Refused.{handed_on}
use Rattle.frames.specs.Digits.{Digit, worth, no_digit, digit_of, digit_said, with_digit, spelled}
use Rattle.frames.proofs.DigitLaws.{small, spelled_refused, spelled_step, power_most}
use Rattle.frames.proofs.number_spelled.Goals as goal
use Rattle.frames.proofs.number_spelled.Goals.{In_ok-n}

-- the digit that was read
read_is : (c : In_ok-n) → digit_of (get_or c.args.digits.now c.loop-b.b-index 0) ≡ worth c.in_ok-n.field-0
read_is c = sym c.digit_of.ensures ∙ ap digit_said c.in_ok-n.ensures.ok_part

pub returns-in_err-n : goal.returns-in_err-n
returns-in_err-n c =
    let i = c.loop-b.b-index in
    let none : c.digit_of.result ≡ None = c.in_err-n.ensures.ok_part in
    let e : digit_of (get_or c.args.digits.now i 0) ≡ no_digit = sym c.digit_of.ensures ∙ ap digit_said none in
    let told = c.in_err-n.ensures.value ∙ ap (λ (d : Option ℕ). ok_or d BadLine) none in
    ap answer_said (handed_on _ c.from_residual.result c.from_residual.ensures.1 ∙ told)
    ∙ sym
    (c.loop-b.invariant.0
    ∙ spelled_step (answer c.loop-b.n) c.args.digits.now i (omega arith)
    ∙ ap (λ (d : Digit). spelled (with_digit (answer c.loop-b.n) d) (drop (i + 1) c.args.digits.now)) e
    ∙ spelled_refused bad_line (drop (i + 1) c.args.digits.now))

pub overflow_mul-n : goal.overflow_mul-n
overflow_mul-n c =
    omega (arith, power_most c.loop-b.b-index (omega arith))

pub overflow_add-n : goal.overflow_add-n
overflow_add-n c =
    omega (arith, power_most c.loop-b.b-index (omega arith), small _ _ (read_is (goal.at.overflow_add-n c).In_ok-n))

pub loop-b-preserved : goal.loop-b-preserved
loop-b-preserved c =
    let i = c.loop-b.b-index in
    let read = read_is (goal.at.loop-b-preserved c).In_ok-n in
    let w : 16 ^ (i + 1) ≡ 16 ^ i * 16 = ap (λ (k : ℕ). 16 ^ k) (add-one i) ∙ pow-suc 16 i in (
      c.loop-b.invariant.0
          ∙ spelled_step (answer c.loop-b.n) c.args.digits.now i (omega arith)
          ∙ ap (λ (d : Digit). spelled (with_digit (answer c.loop-b.n) d) (drop (i + 1) c.args.digits.now)) read,
      omega (arith, small _ _ read),
    )

pub returns : goal.returns
unfolding spelled
returns c =
    let end : drop c.loop-b.b-index c.args.digits.now ≡ [] = drop_of_length-le c.args.digits.now {i = c.loop-b.b-index} (omega arith) in
    sym (c.loop-b.invariant.0 ∙ ap (spelled (answer c.loop-b.n)) end)
