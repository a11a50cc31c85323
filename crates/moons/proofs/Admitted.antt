-- Which lunations and quarters are asked about, and what is told of each.
-- Assumes nothing.
use mathlib.Core.Bool.{Bool, true, false}
use mathlib.Core.Path.{◌≡◌, ◌∙◌, refl, ap}
use Prim.Native.Nat.{ℕ}
use Rattle.rows.specs.Choice.{◌<?◌}
use Rattle.rows.specs.Reply.{Reply, answer, refused, outside, refuse_if}
use Rattle.rows.proofs.Choice.{refuse_cases}
use Rattle.measure.specs.Epoch.{Epoch}
use Rattle.moons.specs.Lunation.{last_lunation, last_quarter, of_quarter}
use Rattle.moons.specs.TrueMoon.{true_moon, true_reply}

-- what is told of a quarter, once it is known whether it is admitted
abbrev pub of_both : {A : Type 0} → (ℕ → ℕ → A) → Reply (ℕ × ℕ) → Reply A
of_both f (answer at) = answer (f at.0 at.1)
of_both f (refused k) = refused k

pub asked_as : {A : Type 0} (f : ℕ → ℕ → A) (l q : ℕ) (said : Reply (ℕ × ℕ)) → said ≡ of_quarter l q (l, q) → of_both f said ≡ of_quarter l q (f l q)
asked_as f l q said e = ap (of_both f) e ∙ moved (last_lunation <? l) (last_quarter <? q)
  where
    moved : (s t : Bool) → of_both f (refuse_if s outside (refuse_if t outside (answer (l, q)))) ≡ refuse_if s outside (refuse_if t outside (answer (f l q)))
    moved true t = refl
    moved false true = refl
    moved false false = refl

-- what holds of the refusal and of the true moon holds of every reply about one
pub true_cases : (P : Reply ℕ → Type 0) (e : Epoch) (l q : ℕ) → P (refused outside) → P (answer (true_moon e l q)) → P (true_reply e l q)
unfolding true_reply
true_cases P e l q none some =
    refuse_cases P (last_lunation <? l) outside _ none λ _. refuse_cases P (last_quarter <? q) outside _ none λ _. some
