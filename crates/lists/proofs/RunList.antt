-- The lists of a run as they grow in a row, year after year.
-- Assumes nothing.
use mathlib.Core.List.{List, ◌++◌}
use mathlib.Core.Path.{◌≡◌, refl, ap, sym, ◌∙◌}
use Prim.Native.Nat.{ℕ, suc, ◌+◌, ◌-◌, ◌*◌, ◌/◌, ◌≤◌, ◌<◌}
use native.Mathlib.Nat.{sub_self}
use native.Mathlib.Numerals.{add-one}
use native.Mathlib.Omega.{arith}
use lib.ListN.{length}
use Rattle.rows.specs.Row.{over}
use Rattle.rows.proofs.Row.{rest_from, with_rest, grow}
use Rattle.month_law.specs.Calendar.{Calendar, head, months_in}
use Rattle.month_law.specs.Lawful.{Lawful}
use Rattle.month_law.proofs.Lists.{months_in_most}
use Rattle.months.specs.Span.{span_of}
use Rattle.lists.specs.Records.{record_width, year_room, records_of}
use Rattle.lists.specs.Lists.{run_of, months_in_run}
use Rattle.months.specs.declared.Span.{Span}
use Rattle.months.proofs.Spans.{months_between}
use Rattle.lists.proofs.RunLaws.{run_more, months_more, length_run, months_run_most}

-- the lists of the years from n to before `year` are written, in so many records, and the rest of the row is as it was; the next list begins
-- with the span
pub record Running (c : Calendar) (n year : ℕ) (row₀ row : List ℕ) (start : Span) (months : ℕ) : Type 0 where
  pub since : n ≤ year
  pub right : start ≡ span_of c (head c year)
  pub counted : months ≡ months_in_run c n (year - n)
  pub within : months * record_width ≤ length row
  pub same : length row ≡ length row₀
  pub written : row ≡ over (run_of c n (year - n)) row₀

module _ (c : Calendar) (n : ℕ) where
  pub run_begins : (row : List ℕ) (start : Span) → start ≡ span_of c (head c n) → Running c n n row row start 0
  unfolding over run_of months_in_run
  run_begins row start e =
      record {
        since = omega arith;
        right = e;
        counted = rw sub_self;
        within = omega arith;
        same = refl;
        written = rw sub_self;
      }

module _ (c : Calendar) (ok : Lawful c) {n year : ℕ} {row₀ row : List ℕ} {start : Span} {months : ℕ}
    (at : Running c n year row₀ row start months) where
  -- where a row has room for the run, it has room for each year
  pub run_room : (count : ℕ) → year < n + count → year_room * count ≤ length row₀ / record_width
      → (months + year_room) * record_width ≤ length row
  run_room count h room = omega (arith, at.since, at.counted, at.same, months_run_most c ok n (year - n))

  module _ (end : Span) (e : end ≡ span_of c (head c (suc year))) where
    -- one list more, in the rest of the row
    pub run_goes_on : (months + year_room) * record_width ≤ length row
        → (rest : List ℕ) → length (with_rest (months * record_width) row rest) ≡ length row
        → rest ≡ over (records_of c year (months_in c year)) (rest_from (months * record_width) row)
        → Running c n (year + 1) row₀ (with_rest (months * record_width) row rest) end (months + (end.lunation - start.lunation))
    run_goes_on room rest kept put =
        let k = year - n in
        let here : n + k ≡ year = omega (arith, at.since) in
        let next : year + 1 - n ≡ k + 1 = omega (arith, at.since) in
        let run : run_of c n (year + 1 - n) ≡ run_of c n k ++ records_of c year (months_in c year) =
        ap (run_of c n) next ∙ run_more c n k ∙ ap (λ (m : ℕ). run_of c n k ++ records_of c m (months_in c m)) here in
        let told : months_in_run c n (year + 1 - n) ≡ months_in_run c n k + months_in c year =
        ap (months_in_run c n) next ∙ months_more c n k ∙ ap (λ (m : ℕ). months_in_run c n k + months_in c m) here in
        record {
          since = omega (arith, at.since);
          right = e ∙ ap (λ (m : ℕ). span_of c (head c m)) (sym (add-one year));
          counted = omega (arith, at.counted, months_between c year start end at.right e, told);
          within = omega (arith, kept, months_between c year start end at.right e, months_in_most c ok year);
          same = kept ∙ at.same;
          written =
              grow (run_of c n k) (records_of c year (months_in c year)) row₀ row rest (months * record_width) at.written
              (omega (arith, length_run c n k, at.counted)) put
              ∙ ap (λ (new : List ℕ). over new row₀) (sym run);
        }
