-- Each question's contract determines its reply.
-- Assumes nothing.
use mathlib.Core.Path.{◌≡◌, refl, ap}
use Prim.Native.Nat.{ℕ}
use Rattle.std.specs.Prelude.{Option, Some, None, Result, Ok, Err}
use Rattle.rows.specs.Reply.{Reply, answer, refused}
use Rattle.rows.specs.declared.Refusal.{Refusal}
use Rattle.rows.proofs.Determined.{OneReply, read_back, refusal_of, refusal_back}
use Rattle.remainders.specs.Hours.{hour_said}
use Rattle.remainders.specs.ExtraDays.{Found, none, days_on, days_said}
use Rattle.remainders.specs.declared.Hour.{Hour}
use Rattle.remainders.proofs as own

pub hour_meant : Reply (ℕ × ℕ) → Result Hour Refusal
hour_meant (answer h) = Ok (record { double_hour = h.0; ke = h.1 })
hour_meant (refused k) = Err (refusal_of k)

pub hour_back : (r : Result Hour Refusal) → hour_meant (hour_said r) ≡ r
unfolding hour_meant
hour_back (Ok h) = refl
hour_back (Err r) = ap Err (refusal_back r)

pub double_hour_unique : OneReply own.double_hour.Kinds.ps own.double_hour.Kinds.r own.double_hour.Reads.Post
double_hour_unique κs a x y s t p q = read_back hour_said hour_meant hour_back x y _ p q

pub days_meant : Reply Found → Result (Option ℕ) Refusal
days_meant (answer none) = Ok None
days_meant (answer (days_on n)) = Ok (Some n)
days_meant (refused k) = Err (refusal_of k)

pub days_back : (r : Result (Option ℕ) Refusal) → days_meant (days_said r) ≡ r
unfolding days_meant
days_back (Ok (Some n)) = refl
days_back (Ok None) = refl
days_back (Err r) = ap Err (refusal_back r)

pub extra_day_unique : OneReply own.extra_day.Kinds.ps own.extra_day.Kinds.r own.extra_day.Reads.Post
extra_day_unique κs a x y s t p q = read_back days_said days_meant days_back x y _ p q

pub vanishing_day_unique : OneReply own.vanishing_day.Kinds.ps own.vanishing_day.Kinds.r own.vanishing_day.Reads.Post
vanishing_day_unique κs a x y s t p q = read_back days_said days_meant days_back x y _ p q
