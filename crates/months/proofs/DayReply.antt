-- The cases of a reply about a day: a month from the earliest day to the latest, else the one refusal.
-- Assumes nothing.
use mathlib.Core.Logic.{◌⊎◌, inl, inr, ⊎_elim}
use mathlib.Core.Path.{◌≡◌, refl}
use Prim.Native.Nat.{ℕ, ◌≤◌, ◌<◌}
use native.Mathlib.Omega.{arith}
use borrow.Author.Tests.{lt-ltb, le-ltb, ltb-false}
use Rattle.rows.specs.Choice.{◌<?◌}
use Rattle.rows.specs.Reply.{Reply, answer, refused, no_day}
use Rattle.measure.specs.Epoch.{Epoch}
use Rattle.rows.proofs.Choice.{refuse_cases}
use Rattle.edition.specs.Edition.{calendar}
use Rattle.months.specs.Month.{MonthOfDay, earliest, latest, month_of_day, day_reply}

module _ (e : Epoch) (d : ℕ) where
  pub day_answered : earliest ≤ d → d ≤ latest → day_reply e d ≡ answer (month_of_day (calendar e) d)
  unfolding day_reply
  day_answered since until = simp (le-ltb d earliest since, le-ltb latest d until)

  pub day_early : d < earliest → day_reply e d ≡ refused no_day
  unfolding day_reply
  day_early h = simp (lt-ltb d earliest h)

  pub day_late : earliest ≤ d → latest < d → day_reply e d ≡ refused no_day
  unfolding day_reply
  day_late since h = simp (le-ltb d earliest since, lt-ltb latest d h)

  -- what holds of the month of an admitted day and of the refusal holds of every reply
  pub day_cases : (P : Reply MonthOfDay → Type 0)
      → (earliest ≤ d → d ≤ latest → P (answer (month_of_day (calendar e) d)))
      → P (refused no_day)
      → P (day_reply e d)
  unfolding day_reply
  day_cases P month none =
      refuse_cases P (d <? earliest) no_day _ none λ since.
      refuse_cases P (latest <? d) no_day _ none λ until.
      month (ltb-false _ _ since) (ltb-false _ _ until)

  -- so it is a day of the calendar, or it is refused
  pub in_or_refused : ((earliest ≤ d) × (d ≤ latest)) ⊎ (day_reply e d ≡ refused no_day)
  in_or_refused =
      day_cases (λ (r : Reply MonthOfDay). ((earliest ≤ d) × (d ≤ latest)) ⊎ (r ≡ refused no_day)) (λ since until. inl (since, until))
      (inr refl)

  -- and no other day is answered
  pub answered_in : (m : MonthOfDay) → day_reply e d ≡ answer m → (earliest ≤ d) × (d ≤ latest)
  answered_in m r =
      ⊎_elim (λ (h : (earliest ≤ d) × (d ≤ latest)). h)
      (λ (no : day_reply e d ≡ refused no_day). let z : ◌≡◌ {A = ℕ} 0 1 = cc in omega arith) in_or_refused
