-- `blocks::answer_block` meets its contract. Assumes nothing.
use mathlib.Core.List.{List}
use mathlib.Core.Path.{◌∙◌, ap}
use Prim.Native.Nat.{ℕ, ◌≤◌}
use native.Mathlib.Omega.{arith}
use lib.ListN.{length}
use lib.Seq.{length-take-le}
use Rattle.rows.specs.Row.{over}
use Rattle.measure.specs.Epoch.{shoushi}
use Rattle.lines.specs.Line.{output}
use Rattle.lines.proofs.Kept.{moved, lines_are, kept_is, kept_long}
use Rattle.lines.proofs.blocks.answer_block.Goals as goal

pub returns : goal.returns
returns c =
    let buf = c.args.buf.now in
    let have = c.args.have in
    let whole = c.whole_lines-whole in
    let kept = c.min-kept in
    let fits : have ≤ length buf = omega arith in
    let are = lines_are buf have whole.result kept.result fits whole.ensures.value kept.ensures in
    let is = kept_is buf have whole.result kept.result fits whole.ensures.value kept.ensures in
    let long = kept_long buf have whole.result kept.result fits whole.ensures.value kept.ensures in
    let count = c.answer_whole_lines-written.ensures.value ∙ ap (λ (l : List ℕ). length (output shoushi l)) are in
    record {
      value = λ i. record { written = count i; kept = long i };
      writes = c.answer_whole_lines-written.ensures.writes ∙ ap (λ (l : List ℕ). over (output shoushi l) c.args.out.now) are;
      buf_after = c.copy_within.ensures.after ∙ moved buf whole.result kept.result (omega (arith, length-take-le have buf fits))
          ∙ ap (λ (l : List ℕ). over l buf) is;
    }
