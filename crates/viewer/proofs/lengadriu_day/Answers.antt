-- `viewer::lengadriu_day` meets its contract: the reply that it gets is told as it stands, and fits. Assumes nothing.
use mathlib.Core.Path.{◌≡◌, ◌∙◌, sym, ap, subst}
use Prim.Native.Nat.{ℕ}
use Rattle.measure.specs.Epoch.{shoushi}
use Rattle.months.specs.Month.{day_reply, month_answer_said}
use Rattle.std.specs.Prelude.{Result}
use Rattle.rows.specs.declared.Refusal.{Refusal}
use Rattle.months.specs.declared.Month.{Month}
use Rattle.viewer.proofs.Fitting.{ReplyFits, reply_fits}
use Rattle.viewer.proofs.lengadriu_day.Goals as goal

-- the reply that was got, once its case is known
module _ (d : ℕ) (got known : Result Month Refusal) (ensured : month_answer_said got ≡ day_reply shoushi d) (case : got ≡ known) where
  said : month_answer_said known ≡ day_reply shoushi d
  said = sym (ap month_answer_said case) ∙ ensured

  fits : ReplyFits (month_answer_said known)
  fits = subst ReplyFits (sym said) (reply_fits d)

pub month_told-requires : goal.month_told-requires
month_told-requires c =
    (fits c.args.d c.month_of.result _ c.month_of.ensures c.in-Ok.is).0
