-- A year's list as it grows in a row, month after month.
-- Assumes nothing.
use mathlib.Core.List.{List, ◌++◌}
use mathlib.Core.Path.{◌≡◌, refl, ap, sym, subst, ◌∙◌}
use Prim.Native.Nat.{ℕ, suc, ◌+◌, ◌-◌, ◌*◌, ◌/◌, ◌≤◌, ◌<◌}
use native.Mathlib.Nat.{add-sub_of_le}
use native.Mathlib.Omega.{arith}
use lib.ListN.{length}
use Rattle.rows.specs.Row.{over}
use Rattle.rows.proofs.Row.{rest_from, with_rest, grow}
use Rattle.month_law.specs.Calendar.{Calendar, head, months_in}
use Rattle.month_law.specs.Lawful.{Lawful}
use Rattle.month_law.proofs.Months.{head_rises}
use Rattle.month_law.proofs.Lists.{months_in_most}
use Rattle.months.specs.Span.{span_of}
use Rattle.lists.specs.Records.{record_width, year_room, record_at, record_of, records_of}
use Rattle.months.specs.declared.Span.{Span}
use Rattle.lists.proofs.RecordLaws.{records_more, length_records, record_of_lem}

-- a span's place in the list of year n
abbrev pub place_in : Calendar → ℕ → Span → ℕ
place_in c n span = span.lunation - head c n

-- the months of year n that lie before a span's are written, in as many numbers, and the rest of the row is as it was
pub record Listing (c : Calendar) (n : ℕ) (row₀ row : List ℕ) (span : Span) (used : ℕ) : Type 0 where
  pub since : head c n ≤ span.lunation
  pub until : span.lunation ≤ head c (suc n)
  pub right : span ≡ span_of c span.lunation
  pub counted : used ≡ record_width * place_in c n span
  pub within : used ≤ length row
  pub same : length row ≡ length row₀
  pub written : row ≡ over (records_of c n (place_in c n span)) row₀

module _ (c : Calendar) (ok : Lawful c) (n : ℕ) where
  -- at the head nothing is written
  begins_at : (row : List ℕ) → Listing c n row row (span_of c (head c n)) 0
  unfolding over records_of
  begins_at row =
      let none : head c n - head c n ≡ 0 = omega arith in
      record {
        since = omega arith;
        until = omega (arith, head_rises c ok n);
        right = refl;
        counted = omega arith;
        within = omega arith;
        same = refl;
        written = rw none;
      }

  pub begins : (row : List ℕ) (span : Span) → span ≡ span_of c (head c n) → Listing c n row row span 0
  begins row span e = subst (λ (s : Span). Listing c n row row s 0) (sym e) (begins_at row)

  module _ (row₀ row : List ℕ) (span : Span) (used : ℕ) (at : Listing c n row₀ row span used) where
    abbrev place : ℕ
    place = place_in c n span

    module _ (h : span.lunation < head c (suc n)) where
      -- where a row has room for a year, it has room for a month of its list
      pub has_room : year_room ≤ length row₀ / record_width → used + record_width ≤ length row
      has_room room = omega (arith, at, months_in_most c ok n)

      one_more : records_of c n place ++ record_of c span.lunation ≡ records_of c n (suc span.lunation - head c n)
      one_more =
          let here : head c n + place ≡ span.lunation = add-sub_of_le at.since in
          let next : suc place ≡ suc span.lunation - head c n = omega (arith, at.since) in
          let of_place : record_of c span.lunation ≡ record_at c n place =
          ap (record_of c) (sym here) ∙ record_of_lem c ok n place (omega (arith, at.since)) in
          ap (λ (l : List ℕ). records_of c n place ++ l) of_place
          ∙ sym (records_more c n place)
          ∙ ap (records_of c n) next

      -- the month's record is put into the rest of the row
      module _ (room : used + record_width ≤ length row) (rest : List ℕ) (kept : length (with_rest used row rest) ≡ length row)
          (put : rest ≡ over (record_of c span.lunation) (rest_from used row)) where
        goes_on_at : Listing c n row₀ (with_rest used row rest) (span_of c (suc span.lunation)) (used + record_width)
        goes_on_at =
            record {
              since = omega (arith, at.since);
              until = h;
              right = refl;
              counted = omega (arith, at.counted, at.since);
              within = omega (arith, kept);
              same = kept ∙ at.same;
              written =
                  grow (records_of c n place) (record_of c span.lunation) row₀ row rest used at.written
                  (length_records c n place ∙ sym at.counted) put
                  ∙ ap (λ (new : List ℕ). over new row₀) one_more;
            }

        pub goes_on : (after : Span) → after ≡ span_of c (suc span.lunation)
            → Listing c n row₀ (with_rest used row rest) after (used + record_width)
        goes_on after e =
            subst (λ (s : Span). Listing c n row₀ (with_rest used row rest) s (used + record_width)) (sym e) goes_on_at

    -- at the next head all are
    pub ends : head c (suc n) ≤ span.lunation
        → (span ≡ span_of c (head c (suc n))) × (row ≡ over (records_of c n (months_in c n)) row₀)
    ends h =
        let e : span.lunation ≡ head c (suc n) = omega (arith, at.until) in (
          at.right ∙ ap (span_of c) e,
          at.written ∙ ap (λ (l : ℕ). over (records_of c n (l - head c n)) row₀) e,
        )
