-- `texts::fill` meets its contract. Assumes nothing.
use Rattle.std.proofs.Common.{◌≡◌, ◌∙◌, sym, ap, ℕ, ◌+◌, List, [], ◌∷◌, ◌++◌, ◌<◌, length, get_or, set, take, drop, length-take-le, length-append, append_assoc, arith}
use Rattle.std.specs.Slice.Iter.{iter_rest}
use Rattle.rows.specs.Row.{over}
use Rattle.rows.proofs.Row.{put, written, more_written}
use Rattle.texts.specs.Text.{decimal, filled}
use Rattle.std.proofs.lemmas.Grind.{common_steps}
use Rattle.texts.proofs.TextLaws.{filled_none, filled_hole, filled_byte, next_number}
use Rattle.texts.proofs.fill.Goals as goal
use Rattle.texts.proofs.fill.Goals.{then-b-eq-HOLE, else-b-eq-HOLE}

-- one byte is put where a part of a whole ends
module _ (all left row now : List ℕ) (b used : ℕ) (long : length now ≡ length row) (fits : used < length now)
    (whole : all ≡ take used now ++ ((b ∷ []) ++ left)) (held : now ≡ over (take used now) row) where
  put_row : set now used b ≡ over (take used now ++ (b ∷ [])) row
  put_row = put (take used now) row now b used held (length-take-le used now (omega arith)) (omega arith)

  put_taken : take (used + 1) (set now used b) ≡ take used now ++ (b ∷ [])
  put_taken =
      written (take used now ++ (b ∷ [])) row (set now used b) (used + 1)
      (omega (arith, length-append (take used now) (b ∷ []), length-take-le used now (omega arith))) put_row

  more_put : (all ≡ take (used + 1) (set now used b) ++ left) × (set now used b ≡ over (take (used + 1) (set now used b)) row)
  more_put = (
    whole ∙ sym (append_assoc (take used now) (b ∷ []) left) ∙ ap (λ (l : List ℕ). l ++ left) (sym put_taken),
    put_row ∙ ap (λ (l : List ℕ). over l row) (sym put_taken),
  )

pub loop-b-preserved : goal.loop-b-preserved
loop-b-preserved c =
    let t = c.args.template.now in
    let row = c.loop-b.row in
    let i : ℕ = c.loop-b.b-index in
    let more : i < length t = omega arith in
    elim c.if-b-eq-HOLE.branch [
      | then-b-eq-HOLE w ↦
          let n = next_number w.next.result c.loop-b.left w.next.new.self w.next.ensures.steps in
          let number : w.unwrap_or.result ≡ get_or (iter_rest c.loop-b.left) 0 0 = w.unwrap_or.ensures ∙ rw w.copied.ensures n.0 in
          let e = more_written (filled t c.args.numbers.now) (decimal w.unwrap_or.result) (filled (drop (i + 1) t) (iter_rest w.next.new.self)) c.args.row.now row
          w.put_number-used.new.row c.loop-b.used w.put_number-used.result (omega arith)
          (c.loop-b.invariant.1 ∙ ap (λ (l : List ℕ). take c.loop-b.used row ++ l) (rw (number, n.1) (filled_hole t (iter_rest c.loop-b.left) i more w.if-b-eq-HOLE.true)))
          c.loop-b.invariant.2 w.put_number-used.ensures.value w.put_number-used.ensures.writes in
          rw (w.row-is, w.used-is, w.left-is) (omega (arith, w.put_number-used.ensures.within), e.0, e.1)
      | else-b-eq-HOLE w ↦
          let e = more_put (filled t c.args.numbers.now) (filled (drop (i + 1) t) (iter_rest c.loop-b.left)) c.args.row.now row (get_or t i 0) c.loop-b.used
          c.loop-b.auto.row (omega arith)
          (c.loop-b.invariant.1 ∙ ap (λ (l : List ℕ). take c.loop-b.used row ++ l) (filled_byte t (iter_rest c.loop-b.left) i more w.if-b-eq-HOLE.false))
          c.loop-b.invariant.2 in
          rw (w.row-is, w.used-is, w.left-is) (omega arith, e.0, e.1)
    ]

pub returns-clause-value : goal.returns-clause-value
returns-clause-value c = grind (arith, common_steps, filled_none, length-take-le)
