-- Demand 3 as one statement: the lists of the years 0 to a last one, their listing end to end, what is replied about each day, the names
-- of the days, and the way back.
-- Assumes nothing.
use Rattle.std.specs.Prelude.{true, List, [], ◌∷◌, ◌⊎◌, ◌≡◌, ℕ, zero, suc, ◌+◌, ◌-◌, ◌*◌, ◌%◌, ◌≤◌, ◌<◌, length, get_or, take, drop, if◌then◌else◌}
use Rattle.rows.specs.Choice.{◌=?◌}
use Rattle.rows.specs.Reply.{answer}
use Rattle.measure.specs.Epoch.{Epoch}
use Rattle.measure.specs.Days.{sixty_name}
use Rattle.month_law.specs.Calendar.{Calendar, length_of, head, months_in}
use Rattle.month_law.specs.Demand.{JustOne, Date, Dated, EmptyAt}
use Rattle.edition.specs.Edition.{calendar}
use Rattle.months.specs.Kind.{number_in, mark_in}
use Rattle.months.specs.Month.{MonthOfDay, day_reply}
use Rattle.months.specs.Date.{back_reply, has_date}
use Rattle.lists.specs.Records.{record_width, record_at}
use Rattle.lists.specs.Lists.{run_of, months_in_run}

-- the listing of the years 0 to `last`: their lists laid end to end
abbrev pub listing : Calendar → ℕ → List ℕ
listing c last = run_of c 0 (suc last)

-- the record on place i of a listing, counted from 0
unfoldable pub record_on : List ℕ → ℕ → List ℕ
record_on numbers i = take record_width (drop (record_width * i) numbers)

abbrev pub shown_on : Calendar → ℕ → ℕ → List ℕ
shown_on c last i = record_on (listing c last) i

-- the first two numbers of a record: the month's first day and its length
abbrev pub first_in : List ℕ → ℕ
first_in four = get_or four 0 0

abbrev pub length_in : List ℕ → ℕ
length_in four = get_or four 1 0

-- day d lies in the month of a record
pub record LiesIn (four : List ℕ) (d : ℕ) : Type 0 where
  pub since : first_in four ≤ d
  pub until : d < first_in four + length_in four

-- where a month stands: its year, and the place in that year's list, counted from 0
pub record Standing : Type 0 where
  pub year : ℕ
  pub place : ℕ

-- that is place i of the listing: as many months come before the year as before its head
pub record StandsOn (c : Calendar) (last i : ℕ) (s : Standing) : Type 0 where
  pub admitted : s.year ≤ last
  pub listed : s.place < months_in c s.year
  pub counted : head c s.year + s.place ≡ i

-- what is replied about a day's month, as the record of a listing
abbrev pub record_of_month : MonthOfDay → List ℕ
record_of_month m = m.first ∷ m.length ∷ number_in m.kind ∷ mark_in m.kind ∷ []

-- the name after name k: the sixty are counted from 0, and the last is followed by the first
unfoldable pub next_name : ℕ → ℕ
next_name k = if k =? 59 then 0 else suc k

-- the running count of names: day 0 is a jiazi day, and each later day has the name after that of the day before it
unfoldable pub running_name : ℕ → ℕ
running_name zero = 0
running_name (suc d) = next_name (running_name d)

module _ (e : Epoch) where
  abbrev c : Calendar
  c = calendar e

  -- the years 0 to `last`, with the days from `earliest` to `latest` and the lunations before `beyond`
  pub record Demand (last earliest latest beyond : ℕ) : Type 0 where
    -- lunation 0 heads year 0
    pub first_head : head c 0 ≡ 0
    -- and begins on the earliest day
    pub first_day_lem : c.first 0 ≡ earliest
    -- lunation `beyond` heads the year after the last
    pub next_head : head c (suc last) ≡ beyond
    -- and begins on the day after the latest
    pub next_day : c.first beyond ≡ suc latest
    -- each of these days has just one date in the lists of these years
    pub dates : (d : ℕ) → earliest ≤ d → d ≤ latest → JustOne (λ (t : Date). (t.year ≤ last) × Dated c d t)
    -- and no other day has one
    pub no_others : (d : ℕ) (t : Date) → t.year ≤ last → Dated c d t → (earliest ≤ d) × (d ≤ latest)
    -- every month of every list has 29 days or 30
    pub lengths : (n p : ℕ) → n ≤ last → p < months_in c n
        → (length_of c (head c n + p) ≡ 29) ⊎ (length_of c (head c n + p) ≡ 30)
    -- every year has 12 months or 13
    pub months : (n : ℕ) → n ≤ last → (months_in c n ≡ 12) ⊎ (months_in c n ≡ 13)
    -- where it has 13, just one month of its list holds no middle term
    pub leap : (n : ℕ) → n ≤ last → months_in c n ≡ 13 → JustOne (EmptyAt c n)
    -- and where one holds none, it has 13
    pub only_leap : (n p : ℕ) → n ≤ last → EmptyAt c n p → months_in c n ≡ 13
    -- the listing of these years has `beyond` records
    pub records : months_in_run c 0 (suc last) ≡ beyond
    -- of four numbers each
    pub numbers : length (listing c last) ≡ record_width * beyond
    -- the month at place p of year n is shown on place head n + p
    pub laid : (n p : ℕ) → n ≤ last → p < months_in c n
        → (head c n + p < beyond) × (shown_on c last (head c n + p) ≡ record_at c n p)
    -- and on each place stands just one month
    pub stands : (i : ℕ) → i < beyond → JustOne (StandsOn c last i)
    -- each of these days lies in just one record of the listing
    pub days : (d : ℕ) → earliest ≤ d → d ≤ latest → JustOne (λ (i : ℕ). (i < beyond) × LiesIn (shown_on c last i) d)
    -- and no other day lies in one
    pub no_other_days : (d i : ℕ) → i < beyond → LiesIn (shown_on c last i) d → (earliest ≤ d) × (d ≤ latest)
    -- asked for directly, each of these days is answered with just one month
    pub found : (d : ℕ) → earliest ≤ d → d ≤ latest → JustOne (λ (m : MonthOfDay). day_reply e d ≡ answer m)
    -- and no other day is answered
    pub not_found : (d : ℕ) (m : MonthOfDay) → day_reply e d ≡ answer m → (earliest ≤ d) × (d ≤ latest)
    -- the record in which the day lies is what is replied
    pub shown : (d i : ℕ) (m : MonthOfDay) → day_reply e d ≡ answer m → i < beyond → LiesIn (shown_on c last i) d
        → shown_on c last i ≡ record_of_month m
    -- it stands at the year and the place that are replied
    pub shown_at_lem : (d i : ℕ) (m : MonthOfDay) → day_reply e d ≡ answer m → i < beyond → LiesIn (shown_on c last i) d
        → StandsOn c last i (record { year = m.year; place = m.place })
    -- and on no other place is that record shown
    pub shown_once : (d : ℕ) (m : MonthOfDay) → day_reply e d ≡ answer m
        → JustOne (λ (i : ℕ). (i < beyond) × (shown_on c last i ≡ record_of_month m))
    -- the sixty-name of every day is that of the running count
    pub day_names : (d : ℕ) → sixty_name d ≡ running_name d
    -- so is that of the first day in every record of the listing
    pub first_names : (i : ℕ) → i < beyond → sixty_name (first_in (shown_on c last i)) ≡ running_name (first_in (shown_on c last i))
    -- the names run on from month to month
    pub names : (n p : ℕ) → n ≤ last → p < months_in c n
        → sixty_name (c.first (suc (head c n + p))) ≡ (sixty_name (c.first (head c n + p)) + length_of c (head c n + p)) % 60
    -- and from the first day of a month to each of its days
    pub names_within : (d : ℕ) (m : MonthOfDay) → day_reply e d ≡ answer m → sixty_name d ≡ (sixty_name m.first + (m.day - 1)) % 60
    -- the way back from what is replied about a day leads to that day
    pub there_and_back : (d : ℕ) (m : MonthOfDay) → day_reply e d ≡ answer m → back_reply e m.year m.place m.day ≡ answer d
    -- and about the day to which a year, a place and a day of the month lead, these are replied
    pub back_and_there : (n p k d : ℕ) → n ≤ last → back_reply e n p k ≡ answer d → has_date (day_reply e d) n p k ≡ true
