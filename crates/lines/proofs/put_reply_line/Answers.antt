-- `lines::put_reply_line` meets its contract. Assumes nothing.
use mathlib.Core.Path.{◌∙◌, sym, ap, subst}
use native.Mathlib.Omega.{arith}
use lib.ListN.{length}
use Rattle.rows.specs.Reply.{number_of}
use Rattle.measure.specs.Epoch.{shoushi}
use Rattle.months.specs.Month.{month_said, month_answer_said}
use Rattle.frames.specs.DayLine.{day_digits}
use Rattle.frames.specs.MonthLine.{line_of}
use Rattle.frames.proofs.MonthLineLaws.{month_line_length, refusal_line_length}
use Rattle.frames.proofs.FitLaws.{LineFits}
use Rattle.lines.proofs.LineLaws.{line_fits, written_as}
use Rattle.lines.proofs.put_reply_line.Goals as goal

pub put_refusal_line-requires : goal.put_refusal_line-requires
put_refusal_line-requires c =
    let none = sym c.month_asked.ensures ∙ ap month_answer_said c.in-Err.is in (
      omega (arith, ap length (written_as shoushi _ _ none), refusal_line_length day_digits (number_of c.in-Err.r)),
      rw c.number.ensures (subst (LineFits day_digits) none (line_fits _)),
    )

pub put_month_line-requires : goal.put_month_line-requires
put_month_line-requires c =
    let month = sym c.month_asked.ensures ∙ ap month_answer_said c.in-Ok.is in (
      omega (arith, ap length (written_as shoushi _ _ month), month_line_length day_digits (month_said c.in-Ok.month)),
      subst (LineFits day_digits) month (line_fits _),
    )

pub returns-in-Err : goal.returns-in-Err
unfolding line_of
returns-in-Err c =
    let none = sym c.month_asked.ensures ∙ ap month_answer_said c.in-Err.is in
    record { value = rw (written_as shoushi _ _ none) (c.put_refusal_line.ensures.value ∙ sym (refusal_line_length day_digits (number_of c.in-Err.r))); writes = rw (written_as shoushi _ _ none) (rw c.number.ensures at c.put_refusal_line.ensures.writes) }

pub returns-in-Ok : goal.returns-in-Ok
unfolding line_of
returns-in-Ok c =
    let month = sym c.month_asked.ensures ∙ ap month_answer_said c.in-Ok.is in
    record { value = rw (written_as shoushi _ _ month) (c.put_month_line.ensures.value ∙ sym (month_line_length day_digits (month_said c.in-Ok.month))); writes = rw (written_as shoushi _ _ month) (c.put_month_line.ensures.writes) }
