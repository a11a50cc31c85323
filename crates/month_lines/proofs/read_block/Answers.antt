-- `month_lines::read_block` meets its contract: the bytes that the number tells are those that the read took. Assumes nothing.
use Rattle.std.proofs.Common.{◌∙◌, ap, length, ℤ, w64, arith}
use Rattle.std.proofs.Math.Facts.{to_z_pos}
use Rattle.reads.specs.Given.{given}
use Rattle.reads.proofs.Consumed.{some_told, none_told}
use Rattle.month_lines.proofs.read_block.Goals as goal
use Rattle.month_lines.proofs.read_block.Goals.{in-Ok, in-Err}

pub returns-clause-consumes : goal.returns-clause-consumes
returns-clause-consumes g c =
    let room = length c.read.new.buf in
    elim c.match-read.branch [
      | in-Ok w ↦
          let fits = w.in-Ok.ensures.bound.0 in
          some_told _ _ c.read.result c.given.result w.in-Ok.n c.read.new.buf w.in-Ok.is fits
          (c.given.ensures.value ∙ ap (λ (z : ℤ). given z room) (w.answered-is ∙ to_z_pos w64 (omega (arith, fits))))
          c.read.ensures.bytes
      | in-Err w ↦
          none_told _ _ c.read.result c.given.result _ 0 c.read.new.buf w.in-Err.is
          (c.given.ensures.value ∙ ap (λ (z : ℤ). given z room) w.answered-is)
          c.read.ensures.bytes
    ]
