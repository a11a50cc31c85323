-- `frames::put_digits` meets its contract. Assumes nothing.
use mathlib.Core.Path.{◌≡◌, ◌∙◌, refl, sym, ap}
use Prim.Native.Nat.{ℕ, suc, ◌-◌, ◌/◌, ◌%◌}
use native.Mathlib.Omega.{arith}
use lib.ListN.{length, set, length-set}
use Rattle.rows.specs.Row.{over}
use Rattle.frames.specs.Digits.{digit_byte, digits_of}
use Rattle.frames.proofs.DigitLaws.{length_digits}
use Rattle.frames.proofs.RowLaws.{put_before, over_all}
use Rattle.frames.proofs.put_digits.Goals as goal

pub loop-i-init : goal.loop-i-init
loop-i-init c = (refl, over_all (digits_of (length c.args.out.now) c.args.n) c.args.out.now (length_digits (length c.args.out.now) c.args.n))

pub loop-i-preserved : goal.loop-i-preserved
unfolding digits_of
loop-i-preserved c =
    let l = c.loop-i in
    let k = l.i - 1 in
    let s : l.i ≡ suc k = omega arith in
    let more : over (digits_of k (l.high / 16)) (set l.out k (digit_byte (l.high % 16))) ≡ over (digits_of (suc k) l.high) l.out =
    put_before (digits_of k (l.high / 16)) l.out (digit_byte (l.high % 16)) k (length_digits k (l.high / 16)) (omega arith) in (
      simp length-set l.invariant.0,
      ap (λ (b : ℕ). over (digits_of k (l.high / 16)) (set l.out k b)) c.digit_byte.ensures
          ∙ more ∙ ap (λ (m : ℕ). over (digits_of m l.high) l.out) (sym s) ∙ l.invariant.1,
    )

pub returns : goal.returns
unfolding over digits_of
returns c =
    let none : c.loop-i.i ≡ 0 = omega arith in
    sym (sym c.loop-i.invariant.1 ∙ ap (λ (m : ℕ). over (digits_of m c.loop-i.high) c.loop-i.out) none)
