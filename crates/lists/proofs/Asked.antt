-- The cases of the replies to a list and to a run, what a run's refusals say of its years and of its row, and a year's list as the run of
-- that one year.
-- Assumes nothing.
use mathlib.Core.Logic.{◌⊎◌, inl, inr}
use mathlib.Core.Path.{◌≡◌, ◌∙◌, sym, ap}
use Prim.Native.Nat.{ℕ, suc, ◌+◌, ◌-◌, ◌*◌, ◌≤◌, ◌<◌}
use native.Mathlib.Nat.{add-zero, zero-add}
use native.Mathlib.Omega.{arith}
use borrow.Author.Tests.{eq-eqb, ne_eqb, lt-ltb, le-ltb, ltb-false}
use Rattle.rows.specs.Choice.{◌<?◌, ◌=?◌}
use Rattle.rows.specs.Reply.{Reply, answer, refused, no_year, short_row, answer_said}
use Rattle.measure.specs.Units.{last_year}
use Rattle.measure.specs.Epoch.{Epoch}
use Rattle.std.specs.Prelude.{Result}
use Rattle.rows.specs.declared.Refusal.{Refusal}
use Rattle.rows.proofs.Choice.{lt_or_ge, refuse_cases}
use Rattle.month_law.specs.Calendar.{Calendar, months_in}
use Rattle.edition.specs.Edition.{calendar}
use Rattle.lists.specs.Records.{year_room, records_of}
use Rattle.lists.specs.Lists.{run_of, months_in_run, run_asked, list_reply, run_reply}

-- what holds of both refusals, and of the answer where the years and the row are admitted, holds of every reply
module _ (P : Reply ℕ → Type 0) (e : Epoch) (n room : ℕ) (late : P (refused no_year)) (short : P (refused short_row)) where
  pub run_cases : (k : ℕ) → (n + k ≤ suc last_year → year_room * k ≤ room → P (answer (months_in_run (calendar e) n k)))
      → P (run_reply e n k room)
  unfolding run_reply run_asked
  run_cases k listed =
      refuse_cases P (k =? 0) no_year _ late λ some.
      refuse_cases P (last_year <? n) no_year _ late λ h.
      refuse_cases P (suc last_year - n <? k) no_year _ late λ g.
      refuse_cases P (room <? year_room * k) short_row _ short λ r.
      listed (omega (arith, ltb-false last_year n h, ltb-false (suc last_year - n) k g)) (ltb-false _ _ r)

  pub list_cases : (n ≤ last_year → year_room ≤ room → P (answer (months_in (calendar e) n))) → P (list_reply e n room)
  unfolding list_reply
  list_cases listed =
      refuse_cases P (last_year <? n) no_year _ late λ h.
      refuse_cases P (room <? year_room) short_row _ short λ r.
      listed (ltb-false _ _ h) (ltb-false _ _ r)

-- the three replies to a list
module _ (e : Epoch) (n room : ℕ) where
  pub list_late : last_year < n → list_reply e n room ≡ refused no_year
  unfolding list_reply
  list_late h = rw (lt-ltb last_year n h)

  pub list_short : n ≤ last_year → room < year_room → list_reply e n room ≡ refused short_row
  unfolding list_reply
  list_short h g = rw (le-ltb last_year n h, lt-ltb room year_room g)

  pub list_answered : n ≤ last_year → year_room ≤ room → list_reply e n room ≡ answer (months_in (calendar e) n)
  unfolding list_reply
  list_answered h g = rw (le-ltb last_year n h, le-ltb room year_room g)

-- and it is the same in every row that has room
pub list_in_room : (e : Epoch) (n a b : ℕ) → year_room ≤ a → year_room ≤ b → list_reply e n a ≡ list_reply e n b
unfolding list_reply
list_in_room e n a b h g = rw (le-ltb a year_room h, le-ltb b year_room g)

-- what a reply says, once its case is known
pub said_as : {reply : Reply ℕ} (got known : Result ℕ Refusal) → answer_said got ≡ reply → got ≡ known → answer_said known ≡ reply
said_as got known says case = sym (ap answer_said case) ∙ says

-- a run is refused whatever its answer would be, or it lies in the admitted years and has room
data Outcome (n k room : ℕ) : Type 0 where
  no : (m : ℕ) → ((later : Reply ℕ) → run_asked n k room later ≡ refused m) → Outcome n k room
  yes : ((later : Reply ℕ) → run_asked n k room later ≡ later) → n + k ≤ suc last_year → year_room * k ≤ room → Outcome n k room

module _ (n k room : ℕ) where
  outcome : Outcome n k room
  unfolding run_asked
  outcome = some (lt_or_ge 0 k)
    where
      fits : 0 < k → n ≤ last_year → k ≤ suc last_year - n → (room < year_room * k) ⊎ (year_room * k ≤ room) → Outcome n k room
      fits s f l (inl h) =
          no short_row (λ later. simp (ne_eqb k 0 (λ (e : k ≡ 0). omega arith), le-ltb _ _ f, le-ltb _ _ l, lt-ltb _ _ h))
      fits s f l (inr h) =
          yes (λ later. simp (ne_eqb k 0 (λ (e : k ≡ 0). omega arith), le-ltb _ _ f, le-ltb _ _ l, le-ltb _ _ h)) (omega arith) h

      last : 0 < k → n ≤ last_year → (suc last_year - n < k) ⊎ (k ≤ suc last_year - n) → Outcome n k room
      last s f (inl h) = no no_year (λ later. simp (ne_eqb k 0 (λ (e : k ≡ 0). omega arith), le-ltb _ _ f, lt-ltb _ _ h))
      last s f (inr h) = fits s f h (lt_or_ge room (year_room * k))

      first : 0 < k → (last_year < n) ⊎ (n ≤ last_year) → Outcome n k room
      first s (inl h) = no no_year (λ later. simp (ne_eqb k 0 (λ (e : k ≡ 0). omega arith), lt-ltb _ _ h))
      first s (inr h) = last s h (lt_or_ge (suc last_year - n) k)

      some : (0 < k) ⊎ (k ≤ 0) → Outcome n k room
      some (inl h) = first h (lt_or_ge last_year n)
      some (inr h) = let none : k ≡ 0 = omega arith in no no_year (λ later. simp (eq-eqb k 0 none))

  module _ (e : Epoch) where
    -- a run that is refused is refused so, whatever it would be told
    pub run_refused : (m x : ℕ) → refused m ≡ run_asked n k room (answer x) → refused m ≡ run_reply e n k room
    unfolding run_reply
    run_refused m x h = by outcome
      where
        by : Outcome n k room → refused m ≡ run_reply e n k room
        by (no j f) = h ∙ f (answer x) ∙ sym (f _)
        by (yes f _ _) = let fact = f (answer x) in cc

  -- and one that is answered is answered with its months
  pub record Admitted : Type 0 where
    pub answered : (later : Reply ℕ) → run_asked n k room later ≡ later
    pub within : n + k ≤ suc last_year
    pub fits : year_room * k ≤ room

  pub run_admitted : (x y : ℕ) → answer y ≡ run_asked n k room (answer x) → Admitted
  run_admitted x y h = by outcome
    where
      by : Outcome n k room → Admitted
      by (no j f) =
          let fact = f (answer x) in
          let never : ◌≡◌ {A = ℕ} 0 1 = cc in
          record { answered = λ later. absurd (omega arith); within = omega arith; fits = omega arith }
      by (yes f within fits) = record { answered = f; within = within; fits = fits }

-- so its reply is the number of them
pub run_answered : (e : Epoch) (n k room : ℕ) → Admitted n k room → run_reply e n k room ≡ answer (months_in_run (calendar e) n k)
unfolding run_reply
run_answered e n k room ok = ok.answered _

-- a year's list is the run of that year
pub reply_of_one : (e : Epoch) (n room : ℕ) → run_reply e n 1 room ≡ list_reply e n room
unfolding run_reply run_asked list_reply months_in_run
reply_of_one e n room = by (lt_or_ge last_year n)
  where
    by : (last_year < n) ⊎ (n ≤ last_year) → run_reply e n 1 room ≡ list_reply e n room
    by (inl h) = simp (lt-ltb _ _ h)
    by (inr h) =
        let one : 1 ≤ suc last_year - n = omega arith in
        simp (le-ltb _ _ h, le-ltb _ _ one, add-zero n, zero-add)

pub run_of_one : (c : Calendar) (n : ℕ) → run_of c n 1 ≡ records_of c n (months_in c n)
unfolding run_of
run_of_one c n = rw add-zero
