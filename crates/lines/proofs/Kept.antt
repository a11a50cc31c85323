-- Where the whole lines of a block end, and that they are answered and six bytes of the unfinished line kept as well as if the whole input
-- were at hand.
-- Assumes nothing.
use Rattle.std.specs.Prelude.{if◌then◌else◌}
use Rattle.std.specs.List.{copy_within}
use mathlib.Core.Bool.{Bool, true, false, false≢true}
use mathlib.Core.Logic.{⊎_elim}
use mathlib.Core.Path.{◌≡◌, ◌∙◌, refl, sym, ap}
use mathlib.Core.List.{List, [], ◌∷◌, ◌++◌}
use Prim.Native.Nat.{ℕ, zero, suc, ◌+◌, ◌-◌, ◌≤◌, ◌<◌, min}
use native.Mathlib.Nat.{zero-add}
use native.Mathlib.Omega.{arith}
use borrow.Author.Tests.{eqb-true, eq-eqb, ne_eqb, ltb-true, ltb-false}
use lib.ListN.{length, get_or, take, drop, length-take, length-drop}
use lib.Seq.{get_or-drop, take_all, take-take, take-add, drop_at, length-take-le}
use Rattle.rows.specs.Choice.{◌<?◌, ◌=?◌}
use Rattle.rows.specs.Row.{over}
use Rattle.measure.specs.Epoch.{shoushi}
use Rattle.rows.proofs.Choice.{lt_or_ge}
use Rattle.frames.specs.LineEnds.{line_end, line_length}
use Rattle.lines.specs.Line.{output}
use Rattle.lines.specs.Block.{Unfinished, NoEnd, LastEnd, whole_length, whole_lines, enough, kept_of, written}
use Rattle.lines.proofs.BlockLaws.{goes_on, unfinished_take, six_bytes, whole_lines_lem}

-- n bytes of a block are whole lines, and no line ends after them
pub record Whole (block : List ℕ) (n : ℕ) : Type 0 where
  pub within : n ≤ length block
  pub ended : 0 < n → get_or block (n - 1) 0 ≡ line_end
  pub unfinished : Unfinished (drop n block)

next_of : (b : ℕ) (bs : List ℕ) (n : ℕ) → 0 < n → get_or (b ∷ bs) n 0 ≡ get_or bs (n - 1) 0
next_of b bs zero h = absurd (omega arith)
next_of b bs (suc n) h = let e : n ≡ suc n - 1 = omega arith in ap (λ (k : ℕ). get_or bs k 0) e

-- that holds at the place after the last line end
pub whole : (block : List ℕ) → Whole block (whole_length block)
unfolding whole_length line_length
whole [] = record { within = omega arith; ended = λ h. absurd (omega arith); unfinished = refl }
whole (b ∷ bs) = by (0 <? whole_length bs) refl (b =? line_end) refl (whole bs)
  where
    by : (s : Bool) → (0 <? whole_length bs) ≡ s → (t : Bool) → (b =? line_end) ≡ t → Whole bs (whole_length bs)
        → Whole (b ∷ bs) (if s then suc (whole_length bs) else if t then 1 else 0)
    by true more t e w =
        let some : 0 < whole_length bs = ltb-true 0 (whole_length bs) more in
        let same : suc (whole_length bs) - 1 ≡ whole_length bs = omega arith in
        record {
          within = omega (arith, w.within);
          ended = λ h. ap (λ (k : ℕ). get_or (b ∷ bs) k 0) same ∙ next_of b bs (whole_length bs) some ∙ w.ended some;
          unfinished = w.unfinished;
        }
    by false more true e w =
        let none : whole_length bs ≡ 0 = omega (arith, ltb-false 0 (whole_length bs) more) in
        record {
          within = omega arith;
          ended = λ h. eqb-true b line_end e;
          unfinished = rw none at w.unfinished;
        }
    by false more false e w =
        let none : whole_length bs ≡ 0 = omega (arith, ltb-false 0 (whole_length bs) more) in
        let rest : Unfinished bs = rw none at w.unfinished in
        record {
          within = omega arith;
          ended = λ h. absurd (omega arith);
          unfinished = rw e (ap suc rest);
        }

-- no line end stands in what is unfinished
no_end : (begun : List ℕ) (i : ℕ) → Unfinished begun → i < length begun → ¬ (get_or begun i 0 ≡ line_end)
no_end [] i h k e = omega arith
no_end (b ∷ bs) zero h k e = false≢true (sym (goes_on b bs h).0 ∙ eq-eqb b line_end e)
no_end (b ∷ bs) (suc i) h k e = no_end bs i (goes_on b bs h).1 (omega arith) e

-- so it holds at no other
not_later : (block : List ℕ) (m n : ℕ) → Whole block m → Whole block n → ¬ (m < n)
not_later block m n one other h =
    let place : m + (n - 1 - m) ≡ n - 1 = omega arith in
    no_end (drop m block) (n - 1 - m) one.unfinished (omega (arith, length-drop m block, other.within))
    (get_or-drop m block (n - 1 - m) 0 ∙ ap (λ (k : ℕ). get_or block k 0) place ∙ other.ended (omega arith))

pub whole_is : (block : List ℕ) (n : ℕ) → Whole block n → n ≡ whole_length block
whole_is block n w =
    let early = not_later block n (whole_length block) w (whole block) in
    let late = not_later block (whole_length block) n (whole block) w in
    ⊎_elim (λ (h : n < whole_length block). absurd (early h))
    (λ (h : whole_length block ≤ n).
    ⊎_elim (λ (k : whole_length block < n). absurd (late k)) (λ (k : n ≤ whole_length block). omega arith) (lt_or_ge (whole_length block) n))
    (lt_or_ge n (whole_length block))

-- where no byte ends a line, none ends in them
none_ends : (begun : List ℕ) → NoEnd begun → Unfinished begun
unfolding line_length
none_ends [] h = refl
none_ends (b ∷ bs) h =
    rw (ne_eqb b line_end (h 0 (omega arith))) (ap suc (none_ends bs (λ k l. h (suc k) (omega arith))))

-- the place after the last line end, or the start where there is none
pub none_whole : (block : List ℕ) → NoEnd block → 0 ≡ whole_length block
none_whole block h = whole_is block 0 (record { within = omega arith; ended = λ l. absurd (omega arith); unfinished = none_ends block h })

pub whole_to : (block : List ℕ) (at : ℕ) → LastEnd block at → at + 1 ≡ whole_length block
whole_to block at h =
    let same : at + 1 - 1 ≡ at = omega arith in
    let after : NoEnd (drop (at + 1) block) =
    λ k l e. h.2 (at + 1 + k) (omega arith) (omega (arith, length-drop (at + 1) block)) (sym (get_or-drop (at + 1) block k 0) ∙ e) in
    whole_is block (at + 1)
    (record { within = omega (arith, h.0); ended = λ _. ap (λ (k : ℕ). get_or block k 0) same ∙ h.1; unfinished = none_ends (drop (at + 1) block) after })

-- what is kept is the beginning of an unfinished line, or enough of it
pub kept_unfinished : (block : List ℕ) → Unfinished (kept_of block)
kept_unfinished block = unfinished_take enough (drop (whole_length block) block) (whole block).unfinished

pub kept_most : (block : List ℕ) → length (kept_of block) ≤ enough
kept_most block = simp length-take (omega arith)

-- whatever follows, what is written and then the replies to what is kept are the replies to the block
pub answered : (block later : List ℕ) → output shoushi (block ++ later) ≡ written block ++ output shoushi (kept_of block ++ later)
answered block later =
    let w = whole block in
    whole_lines_lem shoushi block later (whole_length block) w.within w.ended
    ∙ ap (λ (l : List ℕ). written block ++ l) (six_bytes shoushi (drop (whole_length block) block) later w.unfinished)

-- a block in the first bytes of a buffer, as a program cuts it
take_least : (m n : ℕ) (l : List ℕ) → take m (take n l) ≡ take (min n m) l
take_least m n l =
    ⊎_elim
    (λ (few : n < m).
    let e : n ≡ min n m = omega arith in
    let fits : length (take n l) ≤ m = simp length-take (omega arith) in
    take_all m (take n l) fits ∙ ap (λ (k : ℕ). take k l) e)
    (λ (many : m ≤ n). let e : m ≡ min n m = omega arith in take-take m n l many ∙ ap (λ (k : ℕ). take k l) e)
    (lt_or_ge n m)

drop_take : (m n : ℕ) (l : List ℕ) → m ≤ n → n ≤ length l → drop m (take n l) ≡ take (n - m) (drop m l)
drop_take m n l h fits =
    let e : n ≡ m + (n - m) = omega arith in
    let short : m ≤ length l = omega arith in
    ap (λ (k : ℕ). drop m (take k l)) e
    ∙ ap (drop m) (take-add m (n - m) l)
    ∙ drop_at (take m l) (take (n - m) (drop m l)) m (length-take-le m l short)

-- bytes that are moved to a buffer's start
pub moved : (buf : List ℕ) (at k : ℕ) → at + k ≤ length buf → copy_within buf at (at + k) 0 ≡ over (take k (drop at buf)) buf
unfolding over
moved buf at k fits =
    let count : at + k - at ≡ k = omega arith in
    let long : length (take k (drop at buf)) ≡ k = length-take-le k (drop at buf) (omega (arith, length-drop at buf)) in
    simp (count, zero-add, long)

module _ (buf : List ℕ) (have lines kept : ℕ) (fits : have ≤ length buf) (cut : lines ≡ whole_length (take have buf))
    (least : kept ≡ min (have - lines) enough) where
  pub lines_within : lines ≤ have
  lines_within = omega (arith, (whole (take have buf)).within, length-take-le have buf fits)

  pub lines_are : take lines buf ≡ whole_lines (take have buf)
  lines_are = sym (take-take lines have buf lines_within) ∙ ap (λ (k : ℕ). take k (take have buf)) cut

  pub kept_is : take kept (drop lines buf) ≡ kept_of (take have buf)
  kept_is =
      ap (λ (k : ℕ). take k (drop lines buf)) least
      ∙ sym (take_least enough (have - lines) (drop lines buf))
      ∙ ap (take enough) (sym (drop_take lines have buf lines_within fits))
      ∙ ap (λ (k : ℕ). take enough (drop k (take have buf))) cut

  pub kept_long : kept ≡ length (kept_of (take have buf))
  kept_long =
      let room : kept ≤ length (drop lines buf) = omega (arith, lines_within, length-drop lines buf) in
      sym (length-take-le kept (drop lines buf) room) ∙ ap length kept_is
