-- `lines::blocks::answer_whole_lines` meets its contract. Assumes nothing.
use mathlib.Core.Bool.{Bool, true, false}
use mathlib.Core.Path.{◌≡◌, ◌∙◌, refl, sym, ap}
use mathlib.Core.List.{List, ◌++◌, append-nil}
use Prim.Native.Nat.{ℕ, ◌-◌, ◌≤◌, ◌<◌}
use native.Mathlib.Omega.{arith}
use borrow.Author.Tests.{eqb-true, eqb-false}
use borrow.Rule.Slice.PartMut.{same_len_mid}
use lib.ListN.{length, take, length-take, length-drop}
use lib.Seq.{length-take-le}
use Rattle.rows.specs.Choice.{◌=?◌}
use Rattle.rows.specs.Row.{over}
use Rattle.measure.specs.Epoch.{shoushi}
use Rattle.frames.proofs.LineEndLaws.{length_most, rest_length}
use Rattle.lines.specs.Line.{output}
use Rattle.lines.proofs.LineLaws.{room_left, no_line, turn}
use Rattle.lines.proofs.blocks.answer_whole_lines.Goals as goal

-- bytes are left, or none
some_left : (left : List ℕ) (none : Bool) → none ≡ (length left =? 0) → none ≡ false → 0 < length left
some_left left none e t = let h = eqb-false (length left) 0 (sym e ∙ t) in omega arith

none_left : (left : List ℕ) (none : Bool) → none ≡ (length left =? 0) → none ≡ true → length left ≤ 0
none_left left none e t = omega (arith, eqb-true (length left) 0 (sym e ∙ t))

pub loop-left-init : goal.loop-left-init
unfolding over
loop-left-init c =
    (omega arith, refl, refl, refl)

pub slice_bounds-put_reply_line-end : goal.slice_bounds-put_reply_line-end
slice_bounds-put_reply_line-end c =
    let h : c.line_len-n.result ≤ length c.loop-left.left.now = omega (arith, length_most c.loop-left.left.now) in
    sym (length-take-le _ c.loop-left.left.now h)

pub put_reply_line-used-requires : goal.put_reply_line-used-requires
put_reply_line-used-requires c =
    let some = some_left c.loop-left.left.now _ c.is_empty.ensures c.loop-left-test.true in
    let room = room_left shoushi c.loop-left.left.now c.line_len-n.result c.line_len-n.ensures some in
    simp (length-take, length-drop) (omega arith)

pub overflow_add-used : goal.overflow_add-used
overflow_add-used c =
    omega (
      arith,
      room_left shoushi c.loop-left.left.now c.line_len-n.result c.line_len-n.ensures
          (some_left c.loop-left.left.now _ c.is_empty.ensures c.loop-left-test.true),
      c.put_reply_line-used.ensures.value,
    )

pub loop-left-smaller : goal.loop-left-smaller
loop-left-smaller c =
    omega (arith, ap length c.rest-left.ensures, rest_length c.line_len-n.result c.loop-left.left.now, some_left c.loop-left.left.now _ c.is_empty.ensures c.loop-left-test.true)

pub loop-left-preserved : goal.loop-left-preserved
loop-left-preserved c =
    let some = some_left c.loop-left.left.now _ c.is_empty.ensures c.loop-left-test.true in
    let e =
    turn shoushi c.args.input.now c.loop-left.left.now c.rest-left.result.now c.args.out.now c.loop-left.out c.put_reply_line-used.new.out c.loop-left.used
    c.line_len-n.result c.put_reply_line-used.result (omega arith) c.loop-left.invariant.2 c.loop-left.invariant.3 some c.line_len-n.ensures
    c.put_reply_line-used.ensures.value c.put_reply_line-used.ensures.writes c.rest-left.ensures in (
      omega (arith, room_left shoushi c.loop-left.left.now c.line_len-n.result c.line_len-n.ensures some, c.put_reply_line-used.ensures.value, ap length c.rest-left.ensures),
      same_len_mid {X = ℕ} c.loop-left.used (length c.loop-left.out - c.loop-left.used) c.loop-left.out c.put_reply_line-used.new.out c.put_reply_line-used.auto.out ∙ c.loop-left.invariant.1,
      e.0,
      e.1,
    )

pub returns : goal.returns
returns c =
    let p = take c.loop-left.used c.loop-left.out in
    let z : output shoushi c.args.input.now ≡ p =
    c.loop-left.invariant.2 ∙ ap (λ (l : List ℕ). p ++ l) (no_line shoushi _ (none_left c.loop-left.left.now _ c.is_empty.ensures c.loop-left-test.false)) ∙ append-nil p in
    let h : c.loop-left.used ≤ length c.loop-left.out = omega arith in
    record { value = sym (ap length z ∙ length-take-le _ _ h); writes = c.loop-left.invariant.3 ∙ ap (λ (l : List ℕ). over l c.args.out.now) (sym z) }
