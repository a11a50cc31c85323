-- Demand 3 holds of any lawful calendar whose questions answer between its ends, and so of the Shoushi, for the years 0 to 999.
-- Assumes nothing.
use mathlib.Core.Bool.{true}
use mathlib.Core.Path.{◌≡◌, sym}
use Prim.Native.Nat.{ℕ, ◌+◌, ◌≤◌}
use native.Mathlib.Omega.{arith}
use Rattle.measure.specs.Units.{last_year}
use Rattle.rows.specs.Reply.{answer}
use Rattle.measure.specs.Epoch.{Epoch, shoushi}
use Rattle.month_law.specs.Calendar.{Calendar, head}
use Rattle.month_law.specs.Lawful.{Lawful}
use Rattle.edition.specs.Edition.{calendar}
use Rattle.month_law.proofs.Rising.{Within}
use Rattle.month_law.proofs.Months.{first_rises, head_zero}
use Rattle.month_law.proofs.Lists.{twelve_or_thirteen, thirteen_leap, leap_thirteen}
use Rattle.month_law.proofs.Days.{length_of_lem}
use Rattle.month_law.proofs.Demand.{Ends, dates, no_others}
use Rattle.edition.proofs.Edition.{shoushi_lawful, shoushi_ends}
use Rattle.months.specs.Month.{MonthOfDay, month_of_day, day_reply}
use Rattle.months.specs.Date.{back_reply, has_date}
use Rattle.months.proofs.DayReply.{day_answered, answered_in}
use Rattle.months.proofs.RoundTrip.{day_there_and_back, place_there_and_back}
use Rattle.demand.specs.Demand.{shown_on, first_in, Demand}
use Rattle.demand.proofs.Names.{names_run}
use Rattle.demand.proofs.Listing as listed

-- what the two questions reply: the day question answers between the ends and nowhere else, and the way back is its inverse
pub record Replies (e : Epoch) (last earliest latest : ℕ) : Type 0 where
  pub answers : (d : ℕ) → earliest ≤ d → d ≤ latest → day_reply e d ≡ answer (month_of_day (calendar e) d)
  pub no_others : (d : ℕ) (m : MonthOfDay) → day_reply e d ≡ answer m → (earliest ≤ d) × (d ≤ latest)
  pub day_back : (d : ℕ) → earliest ≤ d → d ≤ latest
      → let m = month_of_day (calendar e) d in back_reply e m.year m.place m.day ≡ answer d
  pub place_back : (n p k d : ℕ) → n ≤ last → back_reply e n p k ≡ answer d → has_date (day_reply e d) n p k ≡ true

module _ (e : Epoch) (ok : Lawful (calendar e)) {last earliest latest beyond : ℕ} (ends : Ends (calendar e) last earliest latest beyond)
    (replies : Replies e last earliest latest) where
  abbrev c : Calendar
  c = calendar e

  module _ (d : ℕ) (m : MonthOfDay) (r : day_reply e d ≡ answer m) where
    day_in : (earliest ≤ d) × (d ≤ latest)
    day_in = replies.no_others d m r

    inside : Within (c.first 0) (c.first beyond) d
    inside = record { since = omega (arith, ends.first_day_lem, day_in); until = omega (arith, ends.next_day, day_in) }

    -- a reply is the month that the searches find
    month_is : month_of_day c d ≡ m
    month_is = let said = replies.answers d day_in.0 day_in.1 in cc

  pub demanded : Demand e last earliest latest beyond
  demanded =
      record {
        first_head = head_zero c ok;
        first_day_lem = ends.first_day_lem;
        next_head = ends.next_head;
        next_day = ends.next_day;
        dates = dates c ok ends;
        no_others = no_others c ok ends;
        lengths = λ n p h k. length_of_lem c ok (head c n + p);
        months = λ n h. twelve_or_thirteen c ok n;
        leap = λ n h. thirteen_leap c ok n;
        only_leap = λ n p h. leap_thirteen c ok n p;
        records = listed.records_are c ok ends;
        numbers = listed.numbers_are c ok ends;
        laid = λ n p h k. (listed.laid_before c ok ends n p h k, listed.laid_on c ok ends n p h k);
        stands = listed.one_stands c ok ends;
        days =
            λ d h k.
            listed.one_day c ok ends d (record { since = omega (arith, ends.first_day_lem); until = omega (arith, ends.next_day) });
        no_other_days = λ d i h x. omega (arith, ends, listed.day_between c ok ends d i h x);
        found = λ d h k. record { it = month_of_day c d; such = replies.answers d h k; only = λ m r. sym (month_is d m r) };
        not_found = replies.no_others;
        shown = λ d i m r h x. rw (← month_is d m r) (listed.lies_found c ok ends d i h x);
        shown_at_lem = λ d i m r h x. rw (← month_is d m r) (listed.lies_stands c ok ends d i h x);
        shown_once = λ d m r. rw (← month_is d m r) (listed.one_found c ok ends d (inside d m r));
        day_names = names_run;
        first_names = λ i h. names_run (first_in (shown_on c last i));
        names = λ n p h k. omega (arith, first_rises c ok (head c n + p));
        names_within = λ d m r. rw (← month_is d m r) (listed.named_within c ok ends d (inside d m r));
        there_and_back = λ d m r. rw (← month_is d m r) (replies.day_back d (day_in d m r).0 (day_in d m r).1);
        back_and_there = replies.place_back;
      }

shoushi_replies : Replies shoushi last_year 35 365_268
shoushi_replies =
    record {
      answers = day_answered shoushi;
      no_others = answered_in shoushi;
      day_back = day_there_and_back;
      place_back = place_there_and_back;
    }

pub demand : Demand shoushi last_year 35 365_268 12_368
demand = demanded shoushi shoushi_lawful shoushi_ends shoushi_replies
