-- What demand 3 speaks of: that just one thing is such, the date of a day, and a month without a middle term.
-- Assumes nothing.
use Rattle.std.specs.Prelude.{◌≡◌, ℕ, ◌+◌, ◌-◌, ◌≤◌, ◌<◌}
use Rattle.month_law.specs.Calendar.{Calendar, length_of, head, months_in, held}

-- one thing is such, and no other
pub record JustOne {A : Type 0} (P : A → Type 0) : Type 0 where
  pub it : A
  pub such : P it
  pub only : (x : A) → P x → x ≡ it

-- a year, a place in its list, counted from 0, and a day of the month there, counted from 1
pub record Date : Type 0 where
  pub year : ℕ
  pub place : ℕ
  pub day : ℕ

-- running day d has the date t: the list has the place, the month has the day, and d is counted on from the month's first day
pub record Dated (c : Calendar) (d : ℕ) (t : Date) : Type 0 where
  pub listed : t.place < months_in c t.year
  pub since : 1 ≤ t.day
  pub until : t.day ≤ length_of c (head c t.year + t.place)
  pub counted : d ≡ c.first (head c t.year + t.place) + (t.day - 1)

-- the month at place p of year n's list holds none of the year's middle terms
pub record EmptyAt (c : Calendar) (n p : ℕ) : Type 0 where
  pub listed : p < months_in c n
  pub none : held c n (head c n + p) ≡ 0
