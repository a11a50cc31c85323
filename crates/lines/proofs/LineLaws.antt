-- Laws of replies to lines: what is refused, how long a reply is, and the replies to all lines of an input.
-- Assumes nothing.
use Rattle.std.specs.Prelude.{if◌then◌else◌}
use mathlib.Core.Bool.{Bool, true, false}
use mathlib.Core.Logic.{⊎_elim}
use mathlib.Core.Path.{◌≡◌, ◌∙◌, refl, ap, subst, subst⁻¹}
use mathlib.Core.List.{List, [], ◌∷◌, ◌++◌, append_assoc, append-nil}
use Prim.Native.Nat.{ℕ, zero, suc, ◌+◌, ◌-◌, ◌*◌, ◌≤◌, ◌<◌}
use native.Mathlib.Nat.{not-suc-le-zero, suc-add}
use native.Mathlib.Omega.{arith}
use borrow.Author.Tests.{eqb-true, eqb-false, le-ltb}
use borrow.Rule.Slice.PartMut.{put_mid}
use lib.ListN.{length, take, drop, replicate, length-append}
use lib.Seq.{length-take-le}
use Rattle.rows.specs.Choice.{◌=?◌}
use Rattle.rows.specs.Reply.{Reply, answer, refused, no_day, bad_line}
use Rattle.rows.specs.Row.{over}
use Rattle.measure.specs.Epoch.{Epoch, shoushi}
use Rattle.rows.proofs.Choice.{passes_or_fails}
use Rattle.rows.proofs.Row.{more_written}
use Rattle.months.specs.Month.{MonthOfDay, day_reply}
use Rattle.months.proofs.DayReply.{day_cases}
use Rattle.frames.specs.LineEnds.{line_end, line_length, rest_after}
use Rattle.frames.specs.DayLine.{day_digits, day_asked}
use Rattle.frames.specs.MonthLine.{shown, month_line, read_fields, line_of}
use Rattle.frames.proofs.LineEndLaws.{length_most, rest_length}
use Rattle.frames.proofs.DayLineLaws.{other_length, only_bad}
use Rattle.frames.proofs.MonthLineLaws.{month_line_length, refusal_line_length, written_read}
use Rattle.frames.proofs.FitLaws.{LineFits, reply_fits}
use Rattle.lines.specs.Line.{line_reply, reply_line, last_line, output_from, output, reply_room, output_reply}

-- what is refused: a line that asks for no day
pub bad_line_lem : (e : Epoch) (line : List ℕ) (k : ℕ) → day_asked day_digits line ≡ refused k → line_reply e line ≡ refused bad_line
unfolding line_reply
bad_line_lem e line k h = rw h (ap refused (only_bad day_digits line k h))

-- and a day outside the calendar
pub asked_reply : (e : Epoch) (line : List ℕ) (d : ℕ) → day_asked day_digits line ≡ answer d → line_reply e line ≡ day_reply e d
unfolding line_reply
asked_reply e line d h = rw h

pub outside_day : (e : Epoch) (line : List ℕ) (d k : ℕ) → day_asked day_digits line ≡ answer d → day_reply e d ≡ refused k
    → line_reply e line ≡ refused no_day
outside_day e line d k h g =
    asked_reply e line d h ∙ g
    ∙ ap refused (day_cases e d (λ (r : Reply MonthOfDay). r ≡ refused k → k ≡ no_day) (λ _ _ f. cc) (λ f. cc) g)

-- every reply has room in its line: no place of it is lost
pub line_fits : (line : List ℕ) → LineFits day_digits (line_reply shoushi line)
unfolding line_reply
line_fits line = fits (day_asked day_digits line) refl
  where
    fits : (r : Reply ℕ) → day_asked day_digits line ≡ r → LineFits day_digits (line_reply shoushi line)
    fits (answer d) h = subst⁻¹ (LineFits day_digits) (asked_reply shoushi line d h) (reply_fits d)
    fits (refused k) h = subst⁻¹ (LineFits day_digits) (bad_line_lem shoushi line k h) (omega arith)

-- what is written for a line whose reply is known
pub written_as : (e : Epoch) (line : List ℕ) (r : Reply MonthOfDay) → line_reply e line ≡ r → reply_line e line ≡ line_of day_digits r
unfolding reply_line
written_as e line r h = ap (line_of day_digits) h

-- what is written for a month reads back to its fields
pub reply_back : (line : List ℕ) (m : MonthOfDay) → line_reply shoushi line ≡ answer m
    → (reply_line shoushi line ≡ month_line day_digits (shown m) ++ (line_end ∷ []))
    × (read_fields day_digits (month_line day_digits (shown m)) ≡ answer (shown m))
unfolding line_of
reply_back line m h =
    (written_as shoushi line (answer m) h, written_read day_digits (shown m) (subst (LineFits day_digits) h (line_fits line)))

bad_length : (e : Epoch) (line : List ℕ) → line_reply e line ≡ refused bad_line → length (reply_line e line) ≡ 3
bad_length e line h = ap length (written_as e line (refused bad_line) h) ∙ refusal_line_length day_digits bad_line

-- a reply has room in three bytes for each byte of its line, and of its line end where the line is empty
pub reply_room_lem : (e : Epoch) (line : List ℕ) (n : ℕ) → length line ≤ n → 0 < n → length (reply_line e line) ≤ reply_room * n
unfolding reply_line
reply_room_lem e line n h some =
    ⊎_elim
    (λ t. omega (arith, eqb-true (length line) day_digits t, most (line_reply e line)))
    (λ t.
    let other : ¬ (length line ≡ day_digits) = eqb-false (length line) day_digits t in
    omega (arith, bad_length e line (bad_line_lem e line bad_line (other_length day_digits line other))))
    (passes_or_fails (length line =? day_digits))
  where
    most : (r : Reply MonthOfDay) → length (line_of day_digits r) ≤ 13
    most (answer m) = omega (arith, month_line_length day_digits m)
    most (refused k) = omega (arith, refusal_line_length day_digits k)

-- room is left for the replies to what is handed on
pub room_left : (e : Epoch) (left : List ℕ) (n : ℕ) → n ≡ line_length left → 0 < length left
    → length (reply_line e (take n left)) + reply_room * length (rest_after n left) ≤ reply_room * length left
room_left e left n h some =
    let k : length (rest_after n left) ≡ length left - (n + 1) = rest_length n left in
    let fits : n ≤ length left = omega (arith, length_most left) in
    omega (
      arith,
      reply_room_lem e (take n left) (length left - length (rest_after n left)) (omega (arith, length-take-le n left fits)) (omega arith),
    )

-- the first line's reply, and those of what is handed on
module _ (e : Epoch) where
  line_or_more : (t : Bool) (begun bs : List ℕ) (b : ℕ)
      → output_from e (begun ++ (b ∷ [])) bs
      ≡ reply_line e ((begun ++ (b ∷ [])) ++ take (line_length bs) bs) ++ output_from e [] (rest_after (line_length bs) bs)
      → (if t then reply_line e begun ++ output_from e [] bs else output_from e (begun ++ (b ∷ [])) bs)
      ≡ reply_line e (begun ++ take (if t then 0 else suc (line_length bs)) (b ∷ bs))
      ++ output_from e [] (rest_after (if t then 0 else suc (line_length bs)) (b ∷ bs))
  unfolding rest_after
  line_or_more true begun bs b h = rw append-nil
  line_or_more false begun bs b h = h ∙ rw (append_assoc begun (b ∷ []) (take (line_length bs) bs), suc-add (line_length bs) 1)

  from_first : (begun input : List ℕ) → 0 < length begun + length input
      → output_from e begun input
      ≡ reply_line e (begun ++ take (line_length input) input) ++ output_from e [] (rest_after (line_length input) input)
  unfolding output_from last_line rest_after line_length
  from_first [] [] h = absurd (not-suc-le-zero h)
  from_first (b ∷ bs) [] h = rw (append-nil, append-nil)
  from_first begun (b ∷ bs) h =
      line_or_more (b =? line_end) begun bs b (from_first (begun ++ (b ∷ [])) bs (omega (arith, length-append begun (b ∷ []))))

  pub first_line : (input : List ℕ) → 0 < length input
      → output e input ≡ reply_line e (take (line_length input) input) ++ output e (rest_after (line_length input) input)
  unfolding output
  first_line input h = from_first [] input (omega arith)

  pub no_line : (input : List ℕ) → length input ≤ 0 → output e input ≡ []
  unfolding output output_from last_line
  no_line [] h = refl
  no_line (b ∷ bs) h = absurd (not-suc-le-zero h)

  -- a turn: the first line of what is left is answered, and the rest is handed on
  pub turn : (input left next row now part : List ℕ) (used n r : ℕ)
      → used ≤ length now → output e input ≡ take used now ++ output e left → now ≡ over (take used now) row
      → 0 < length left → n ≡ line_length left → r ≡ length (reply_line e (take n left))
      → part ≡ over (reply_line e (take n left)) (take (length now - used) (drop used now)) → next ≡ rest_after n left
      → (output e input ≡ take (used + r) (put_mid used (length now - used) now part) ++ output e next)
      × (put_mid used (length now - used) now part ≡ over (take (used + r) (put_mid used (length now - used) now part)) row)
  turn input left next row now part used n r fits done whole some en er ep ex =
      let first : output e left ≡ reply_line e (take n left) ++ output e next = rw (ex, en) (first_line left some) in
      let all = done ∙ ap (λ (l : List ℕ). take used now ++ l) first in
      more_written (output e input) (reply_line e (take n left)) (output e next) row now part used r fits all whole er ep

  -- with room enough nothing is refused
  pub answered_whole : (input : List ℕ) (room : ℕ) → reply_room * length input ≤ room → output_reply e input room ≡ answer (length (output e input))
  unfolding output_reply
  answered_whole input room h = simp (le-ltb room (reply_room * length input) h)

  -- and the room is needed: line ends alone fill it
  pub filled : (n : ℕ) → length (output e (replicate n line_end)) ≡ reply_room * n
  unfolding output output_from last_line
  filled zero = refl
  filled (suc n) =
      let first = reply_line e [] in
      let three : length first ≡ 3 = bad_length e [] (bad_line_lem e [] bad_line (other_length day_digits [] (λ h. omega arith))) in
      length-append first (output e (replicate n line_end)) ∙ omega (arith, filled n)
