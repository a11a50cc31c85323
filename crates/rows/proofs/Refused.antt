-- What a `?` hands on: it leaves with the refusal that it was given.
-- Assumes nothing.
use mathlib.Core.Path.{◌≡◌, ap}
use Rattle.std.specs.Prelude.{Result, Ok, Err}
use Rattle.std.specs.Result.{IsErrAnd}
use Rattle.rows.specs.declared.Refusal.{Refusal}

pub handed_on : {A : Type 0} (given : Refusal) (r : Result A Refusal) → IsErrAnd r (λ (left : Refusal). left ≡ given) → r ≡ Err given
handed_on given (Ok it) left = absurd left
handed_on given (Err r) left = ap Err left
