-- A kind is what it stands for, and each contract determines its reply.
-- Assumes nothing.
use mathlib.Core.Path.{◌≡◌, ◌∙◌, refl, sym, ap}
use Rattle.rows.proofs.Determined.{OneReply, read_back, one_answer, refusal_of, refusal_back}
use Rattle.months.specs.Kind.{Kind, ordinary, leap, kind_said}
use Rattle.months.specs.declared.kinds.Kind.{Kind as KindCase}
use Rattle.months.specs.declared.kinds.Kind.TheVariants.{Ordinary, Leap}
use Rattle.months.proofs as own
use Rattle.std.specs.Prelude.{Result, Ok, Err}
use Rattle.rows.specs.Reply.{Reply, answer, refused}
use Rattle.rows.specs.declared.Refusal.{Refusal}
use Rattle.measure.specs.Epoch.{shoushi}
use Rattle.edition.specs.Edition.{calendar}
use Rattle.edition.proofs.Edition.{shoushi_lawful}
use Rattle.months.specs.Month.{MonthOfDay, month_said, month_answer_said}
use Rattle.months.specs.declared.Month.{Month}
use Rattle.months.proofs.ByTerm.{last_before}

pub kind_meant : Kind → KindCase
kind_meant (ordinary n) = Ordinary n
kind_meant (leap n) = Leap n

pub kind_back : (k : KindCase) → kind_meant (kind_said k) ≡ k
unfolding kind_meant
kind_back (Ordinary n) = refl
kind_back (Leap n) = refl

pub month_number_unique : OneReply own.kinds.month_number.Kinds.ps own.kinds.month_number.Kinds.r own.kinds.month_number.Reads.Post
month_number_unique κs a x y s t p q = p ∙ sym q

pub leap_mark_unique : OneReply own.kinds.leap_mark.Kinds.ps own.kinds.leap_mark.Kinds.r own.kinds.leap_mark.Reads.Post
leap_mark_unique κs a x y s t p q = p ∙ sym q

pub head_unique : OneReply own.head.Kinds.ps own.head.Kinds.r own.head.Reads.Post
head_unique κs a x y s t p q = one_answer x y _ p q

pub month_meant : MonthOfDay → Month
month_meant m =
    record {
      kind = kind_meant m.kind;
      year = m.year;
      place = m.place;
      day = m.day;
      first = m.first;
      length = m.length;
    }

pub month_back : (m : Month) → month_meant (month_said m) ≡ m
unfolding month_meant
month_back m = rw (kind_back m.kind)

pub answer_meant : Reply MonthOfDay → Result Month Refusal
answer_meant (answer m) = Ok (month_meant m)
answer_meant (refused k) = Err (refusal_of k)

pub answer_back : (r : Result Month Refusal) → answer_meant (month_answer_said r) ≡ r
unfolding answer_meant
answer_back (Ok m) = rw (month_back m)
answer_back (Err r) = ap Err (refusal_back r)

pub month_of_unique : OneReply own.month_of.Kinds.ps own.month_of.Kinds.r own.month_of.Reads.Post
month_of_unique κs a x y s t p q = read_back month_answer_said answer_meant answer_back x y _ p q

pub last_term_unique : OneReply own.last_term.Kinds.ps own.last_term.Kinds.r own.last_term.Reads.Post
last_term_unique κs a x y s t p q = last_before (calendar shoushi) shoushi_lawful _ x y p q

pub head_of_unique : OneReply own.head_of.Kinds.ps own.head_of.Kinds.r own.head_of.Reads.Post
head_of_unique κs a x y s t p q = p ∙ sym q

pub head_span_unique : OneReply own.head_span.Kinds.ps own.head_span.Kinds.r own.head_span.Reads.Post
head_span_unique κs a x y s t p q = p ∙ sym q

pub kind_by_unique : OneReply own.kind_by.Kinds.ps own.kind_by.Kinds.r own.kind_by.Reads.Post
kind_by_unique κs a x y s t p q = read_back kind_said kind_meant kind_back x y _ p q

pub day_at_unique : OneReply own.dates.day_at.Kinds.ps own.dates.day_at.Kinds.r own.dates.day_at.Reads.Post
day_at_unique κs a x y s t p q = one_answer x y _ p q
