-- What a benchmark is told says the whole reply: since no refusal has the number 0, none can be taken for an answer.
-- Assumes nothing.
use Rattle.std.specs.Prelude.{if◌then◌else◌}
use mathlib.Core.Path.{◌≡◌, refl}
use Prim.Native.Nat.{ℕ, suc}
use native.Mathlib.Omega.{arith}
use borrow.Author.Tests.{ne_eqb}
use Rattle.rows.specs.Choice.{◌=?◌}
use Rattle.rows.specs.Reply.{Reply, answer, refused}
use Rattle.measure.specs.Epoch.{shoushi}
use Rattle.seasons.specs.Terms.{terms_reply}
use Rattle.seasons.proofs.TermLaws.{terms_cases}
use Rattle.moons.specs.TrueMoon.{true_reply}
use Rattle.moons.proofs.Admitted.{true_cases}
use Rattle.lists.specs.Lists.{run_reply}
use Rattle.lists.proofs.Asked.{run_cases}
use Rattle.timing.specs.Timed.{number_told}
use Rattle.timing.specs.declared.Timed.{Timed}

-- what a struct says
unfoldable pub number_read : Timed → Reply ℕ
number_read t = if t.refused =? 0 then answer t.number else refused t.refused

-- a reply that is read back as it was
abbrev Back : Reply ℕ → Type 0
Back r = number_read (number_told r) ≡ r

answered_back : (n : ℕ) → Back (answer n)
unfolding number_read
answered_back n = refl

refused_back : (k : ℕ) → Back (refused (suc k))
unfolding number_read
refused_back k = rw (ne_eqb (suc k) 0 (λ e. omega arith))

pub true_moon_back : (l q : ℕ) → Back (true_reply shoushi l q)
true_moon_back l q = true_cases Back shoushi l q (refused_back 1) (answered_back _)

pub terms_back : (n room : ℕ) → Back (terms_reply n room)
terms_back n room = terms_cases Back n room (refused_back 0) (refused_back 3) (answered_back _)

pub run_back : (n k room : ℕ) → Back (run_reply shoushi n k room)
run_back n k room = run_cases Back shoushi n room (refused_back 0) (refused_back 3) k λ _ _. answered_back _
