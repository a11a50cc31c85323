-- `motions::whole_law` meets its contract. Assumes nothing.
use mathlib.Core.Path.{◌∙◌, ap}
use native.Mathlib.Omega.{arith}
use lib.Dec.{lit≤}
use Rattle.inequalities.specs.Law.{law_moon, exact}
use Rattle.inequalities.proofs.Evaluation.{inner_le, nested}
use Rattle.inequalities.proofs.NearerEnd.{nearer_reach, whole_nearer}
use Rattle.inequalities.proofs.motions.whole_law.Goals as goal

pub overflow_mul-result : goal.overflow_mul-result
overflow_mul-result c =
    omega (arith, nearer_reach _ c.from_nearer_end-k.ensures)

pub overflow_add-result : goal.overflow_add-result
overflow_add-result c =
    omega (arith, nearer_reach _ c.from_nearer_end-k.ensures)

pub overflow_mul-result-2 : goal.overflow_mul-result-2
overflow_mul-result-2 c =
    omega (arith, inner_le law_moon _ (lit≤ tt) (nearer_reach _ c.from_nearer_end-k.ensures))

pub overflow_sub-result : goal.overflow_sub-result
overflow_sub-result c =
    inner_le law_moon _ (lit≤ tt) (nearer_reach _ c.from_nearer_end-k.ensures)

pub returns : goal.returns
returns c =
    nested law_moon _ (lit≤ tt) (nearer_reach _ c.from_nearer_end-k.ensures) ∙ ap (exact law_moon) c.from_nearer_end-k.ensures ∙ whole_nearer _
