-- `frames::put_refusal_line` meets its contract. Assumes nothing.
use mathlib.Core.Path.{refl}
use native.Mathlib.Omega.{arith}
use Rattle.rows.proofs.Row.{put}
use Rattle.frames.specs.LineEnds.{line_end}
use Rattle.frames.specs.Digits.{digits_of}
use Rattle.frames.specs.MonthLine.{refusal_line}
use Rattle.frames.proofs.DigitLaws.{length_digits}
use Rattle.frames.proofs.MonthLineLaws.{refusal_length}
use Rattle.frames.proofs.RowLaws.{first_digits, more_digits}
use Rattle.frames.proofs.put_refusal_line.Goals as goal

pub returns : goal.returns
unfolding refusal_line
returns c =
    let out = c.args.out.now in
    let mark = first_digits out _ 0xE 1 (omega arith) c.put_digits.ensures in
    record {
      value = refl;
      writes = put (refusal_line c.args.k) out _ line_end 2
          (more_digits (digits_of 1 0xE) out _ _ 1 c.args.k 1 1 mark (length_digits 1 0xE) (omega arith) refl c.put_digits-2.ensures)
          (refusal_length c.args.k) (omega arith);
    }
