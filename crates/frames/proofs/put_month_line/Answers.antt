-- `frames::put_month_line` meets its contract. Assumes nothing.
use mathlib.Core.Path.{◌≡◌}
use mathlib.Core.List.{◌++◌}
use Prim.Native.Nat.{ℕ, ◌+◌, ◌-◌}
use native.Mathlib.Omega.{arith}
use lib.ListN.{length, length-append}
use Rattle.rows.proofs.Row.{put}
use Rattle.months.specs.Month.{month_said}
use Rattle.frames.specs.LineEnds.{line_end}
use Rattle.frames.specs.Digits.{digits_of}
use Rattle.frames.specs.MonthLine.{shown, month_line}
use Rattle.frames.proofs.DigitLaws.{length_digits}
use Rattle.frames.proofs.MonthLineLaws.{line_length_lem}
use Rattle.frames.proofs.RowLaws.{more_digits}
use Rattle.frames.proofs.put_month_line.Goals as goal

-- how long the parts before each field are
module _ (y n m w f : ℕ) where
  to_first : length (digits_of 3 y ++ digits_of 1 n ++ digits_of 1 m) ≡ 5
  to_first = simp (length-append, length_digits)

  to_length : length (digits_of 3 y ++ digits_of 1 n ++ digits_of 1 m ++ digits_of w f) ≡ 5 + w
  to_length = simp (length-append, length_digits)

pub returns : goal.returns
unfolding month_line
returns c =
    let f = shown (month_said c.args.m) in
    let w = c.args.w in
    let out = c.args.out.now in
    let name = digits_of 3 f.year ++ digits_of 1 f.number ++ digits_of 1 f.mark in
    let first =
    more_digits name out _ _ 5 f.first (5 + w - 5) w c.put_month_name.ensures (to_first f.year f.number f.mark w f.first) (omega arith) (omega arith)
    c.put_digits.ensures in
    record {
      value = omega arith;
      writes = put (name ++ digits_of w f.first ++ digits_of 2 f.length) out _ line_end (5 + w + 2)
          (more_digits (name ++ digits_of w f.first) out _ _ (5 + w) f.length (5 + w + 2 - (5 + w)) 2 first
          (to_length f.year f.number f.mark w f.first) (omega arith) (omega arith) c.put_digits-2.ensures)
          (line_length_lem w f) (omega arith);
    }
