-- What the viewer is told says the whole reply: months, refusals and records are read back from the structs and the bytes as they were.
-- So no refusal can be taken for a month, and no place of a number is lost.
-- Assumes nothing.
use Rattle.std.specs.Prelude.{if◌then◌else◌}
use mathlib.Core.Path.{◌≡◌, refl}
use Prim.Native.Nat.{ℕ, zero, suc, ◌+◌, ◌≤◌, ◌<◌}
use native.Mathlib.Omega.{arith}
use borrow.Author.Tests.{ne_eqb}
use Rattle.rows.specs.Choice.{◌=?◌}
use Rattle.rows.specs.Reply.{Reply, answer, refused}
use Rattle.measure.specs.Units.{last_year}
use Rattle.measure.specs.Epoch.{shoushi}
use Rattle.rows.proofs.Choice.{if_cases}
use Rattle.month_law.specs.Calendar.{Calendar, months_in, head, leap_at, leap_mark}
use Rattle.edition.specs.Edition.{calendar}
use Rattle.month_law.proofs.Rising.{rises_weakly}
use Rattle.month_law.proofs.Months.{first_rises}
use Rattle.edition.proofs.Edition.{figures, shoushi_lawful}
use Rattle.months.specs.Kind.{Kind, ordinary, leap, number_in, mark_in}
use Rattle.months.specs.Month.{MonthOfDay, day_reply}
use Rattle.lists.proofs.Asked.{list_cases}
use Rattle.lists.specs.Records.{record_at, records_of}
use Rattle.lists.specs.Lists.{list_reply}
use Rattle.months.proofs.Reach.{list_most}
use Rattle.months.proofs.Sizes.{number_most}
use Rattle.viewer.specs.Bytes.{low_first_bytes}
use Rattle.viewer.proofs.BytesBack.{numbers_read, Small, small_append, bytes_back}
use Rattle.viewer.specs.Told.{day_told, count_told}
use Rattle.viewer.specs.declared.Day.{Day}
use Rattle.viewer.specs.declared.Count.{Count}
use Rattle.viewer.proofs.Fitting.{ReplyFits, reply_fits}

-- what a struct says
abbrev kind_read : ℕ → ℕ → Kind
kind_read number mark = if mark =? 0 then ordinary number else leap number

unfoldable pub day_read : Day → Reply MonthOfDay
day_read t =
    if t.refused =? 0
    then
    answer
    (record {
      kind = kind_read t.number t.leap;
      year = t.year;
      place = t.place;
      day = t.day;
      first = t.first;
      length = t.length;
    })
    else refused t.refused

unfoldable pub count_read : Count → Reply ℕ
count_read t = if t.refused =? 0 then answer t.records else refused t.refused

kind_back : (k : Kind) → kind_read (number_in k) (mark_in k) ≡ k
kind_back (ordinary n) = refl
kind_back (leap n) = refl

told_back : (r : Reply MonthOfDay) → ReplyFits r → day_read (day_told r) ≡ r
unfolding day_read
told_back (answer m) h =
    λ i.
    answer
    (record {
      kind = kind_back m.kind i;
      year = m.year;
      place = m.place;
      day = m.day;
      first = m.first;
      length = m.length;
    })
told_back (refused k) h = rw (ne_eqb k 0 (λ e. omega arith))

-- the month of a day, or its refusal
pub day_back : (d : ℕ) → day_read (day_told (day_reply shoushi d)) ≡ day_reply shoushi d
day_back d = told_back (day_reply shoushi d) (reply_fits d)

-- where nothing is refused, the month has its days
days_told : (r : Reply MonthOfDay) → ReplyFits r → (day_told r).refused ≡ 0 → 29 ≤ (day_told r).length
days_told (answer m) h e = h.1
days_told (refused k) h e = omega arith

pub month_has_days : (d : ℕ) → (day_told (day_reply shoushi d)).refused ≡ 0 → 29 ≤ (day_told (day_reply shoushi d)).length
month_has_days d = days_told (day_reply shoushi d) (reply_fits d)

-- how many records there are, or why none
pub count_back : (n room : ℕ) → count_read (count_told (list_reply shoushi n room)) ≡ list_reply shoushi n room
unfolding count_read
count_back n room = list_cases (λ (r : Reply ℕ). count_read (count_told r) ≡ r) shoushi n room refl refl λ _ _. refl

abbrev c : Calendar
c = calendar shoushi

mark_small : (n p : ℕ) → leap_mark c n p < 2
mark_small n p = if_cases (λ (m : ℕ). m < 2) 1 0 (leap_at c n p) (λ _. omega arith) (λ _. omega arith)

module _ (n : ℕ) (year : n ≤ last_year) where
  record_small : (p : ℕ) → p < months_in c n → Small (record_at c n p)
  unfolding Small record_at
  record_small p h =
      let l = head c n + p in (
        omega (arith, figures, rises_weakly c.first (first_rises c shoushi_lawful) l 12_368 (omega (arith, list_most n year))),
        (
          omega (arith, shoushi_lawful.month_most l),
          (omega (arith, number_most (calendar shoushi) n p), (omega (arith, mark_small n p), tt)),
        ),
      )

  records_small : (k : ℕ) → k ≤ months_in c n → Small (records_of c n k)
  unfolding records_of Small
  records_small zero h = tt
  records_small (suc k) h =
      small_append (records_of c n k) (record_at c n k) (records_small k (omega arith)) (record_small k (omega arith))

  -- the records of a year
  pub records_back : numbers_read (low_first_bytes (records_of c n (months_in c n))) ≡ records_of c n (months_in c n)
  records_back = bytes_back (records_of c n (months_in c n)) (records_small (months_in c n) (omega arith))
