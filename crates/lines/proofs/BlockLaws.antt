-- Laws of an input that comes in blocks: whole lines can be answered before what follows them is known, and of an unfinished line
-- six bytes are enough.
-- Assumes nothing.
use Rattle.std.specs.Prelude.{if◌then◌else◌}
use mathlib.Core.Bool.{Bool, true, false}
use mathlib.Core.Logic.{⊎_elim}
use mathlib.Core.Path.{◌≡◌, ◌∙◌, refl, sym, ap}
use mathlib.Core.List.{List, [], ◌∷◌, ◌++◌, append_assoc, append-nil}
use Prim.Native.Nat.{ℕ, zero, suc, ◌-◌, ◌≤◌, ◌<◌}
use native.Mathlib.Omega.{arith}
use lib.ListN.{length, get_or, take, drop}
use lib.Seq.{take_all, take-suc, split_at, length-take-le}
use Rattle.rows.specs.Choice.{◌=?◌}
use Rattle.rows.specs.Reply.{refused, bad_line}
use Rattle.measure.specs.Epoch.{Epoch}
use Rattle.rows.proofs.Choice.{lt_or_ge}
use Rattle.frames.specs.LineEnds.{line_end, line_length}
use Rattle.frames.specs.DayLine.{day_digits}
use Rattle.frames.specs.MonthLine.{line_of}
use Rattle.frames.proofs.DayLineLaws.{other_length}
use Rattle.lines.specs.Line.{line_reply, reply_line, last_line, output_from, output}
use Rattle.lines.proofs.LineLaws.{bad_line_lem}
use Rattle.lines.specs.Block.{enough, Unfinished}

long : (e : Epoch) (line : List ℕ) → day_digits < length line → line_reply e line ≡ refused bad_line
long e line h = bad_line_lem e line bad_line (other_length day_digits line (λ k. omega arith))

take_of_take : (n : ℕ) (a b : List ℕ) → take n (take n a ++ b) ≡ take n (a ++ b)
take_of_take zero a b = refl
take_of_take (suc n) [] b = refl
take_of_take (suc n) (x ∷ a) b = ap (λ (l : List ℕ). x ∷ l) (take_of_take n a b)

pub goes_on : (b : ℕ) (bs : List ℕ) → Unfinished (b ∷ bs) → ((b =? line_end) ≡ false) × Unfinished bs
unfolding line_length
goes_on b bs h = by (b =? line_end) h
  where
    by : (t : Bool) → (if t then 0 else suc (line_length bs)) ≡ suc (length bs) → (t ≡ false) × Unfinished bs
    by true f = absurd (omega arith)
    by false f = (refl, omega arith)

-- nor in the first of them
pub unfinished_take : (n : ℕ) (begun : List ℕ) → Unfinished begun → Unfinished (take n begun)
unfolding line_length
unfinished_take zero begun h = refl
unfinished_take (suc n) [] h = refl
unfinished_take (suc n) (b ∷ bs) h = rw (goes_on b bs h).0 (ap suc (unfinished_take n bs (goes_on b bs h).1))

module _ (e : Epoch) where
  reply_six : (line : List ℕ) → line_reply e line ≡ line_reply e (take enough line)
  reply_six line =
      ⊎_elim
      (λ (few : length line < 7). ap (line_reply e) (sym (take_all enough line (omega arith))))
      (λ (many : 7 ≤ length line).
      long e line (omega arith)
      ∙ sym (long e (take enough line) (omega (arith, length-take-le enough line (omega arith)))))
      (lt_or_ge (length line) 7)

  line_six : (line : List ℕ) → reply_line e line ≡ reply_line e (take enough line)
  unfolding reply_line
  line_six line = ap (line_of day_digits) (reply_six line)

  last_six : (begun : List ℕ) → last_line e begun ≡ last_line e (take enough begun)
  unfolding last_line
  last_six [] = refl
  last_six (b ∷ bs) = line_six (b ∷ bs)

  from_six : (begun later : List ℕ) → output_from e begun later ≡ output_from e (take enough begun) later
  unfolding output_from
  from_six begun [] = last_six begun
  from_six begun (b ∷ bs) =
      by (b =? line_end)
      (from_six (begun ++ (b ∷ [])) bs
      ∙ ap (λ (l : List ℕ). output_from e l bs) (sym (take_of_take enough begun (b ∷ [])))
      ∙ sym (from_six (take enough begun ++ (b ∷ [])) bs))
    where
      by : (t : Bool) → output_from e (begun ++ (b ∷ [])) bs ≡ output_from e (take enough begun ++ (b ∷ [])) bs
          → (if t then reply_line e begun ++ output_from e [] bs else output_from e (begun ++ (b ∷ [])) bs)
          ≡ (if t then reply_line e (take enough begun) ++ output_from e [] bs else output_from e (take enough begun ++ (b ∷ [])) bs)
      by true h = ap (λ (l : List ℕ). l ++ output_from e [] bs) (line_six begun)
      by false h = h

  from_begun : (before begun later : List ℕ) → Unfinished begun → output_from e before (begun ++ later) ≡ output_from e (before ++ begun) later
  unfolding output_from
  from_begun before [] later h = rw append-nil
  from_begun before (b ∷ bs) later h =
      rw (goes_on b bs h).0
      (from_begun (before ++ (b ∷ [])) bs later (goes_on b bs h).1
      ∙ ap (λ (l : List ℕ). output_from e l later) (append_assoc before (b ∷ []) bs))

  -- six bytes of an unfinished line are as good as all
  pub six_bytes : (begun later : List ℕ) → Unfinished begun → output e (begun ++ later) ≡ output e (take enough begun ++ later)
  unfolding output
  six_bytes begun later h =
      from_begun [] begun later h ∙ from_six begun later ∙ sym (from_begun [] (take enough begun) later (unfinished_take enough begun h))

  from_whole : (before lines later : List ℕ)
      → output_from e before (lines ++ (line_end ∷ later)) ≡ output_from e before (lines ++ (line_end ∷ [])) ++ output_from e [] later
  unfolding output_from last_line
  from_whole before [] later = rw append-nil
  from_whole before (b ∷ bs) later = by (b =? line_end) (from_whole [] bs later) (from_whole (before ++ (b ∷ [])) bs later)
    where
      by : (t : Bool)
          → output_from e [] (bs ++ (line_end ∷ later)) ≡ output_from e [] (bs ++ (line_end ∷ [])) ++ output_from e [] later
          → output_from e (before ++ (b ∷ [])) (bs ++ (line_end ∷ later))
          ≡ output_from e (before ++ (b ∷ [])) (bs ++ (line_end ∷ [])) ++ output_from e [] later
          → (if t then reply_line e before ++ output_from e [] (bs ++ (line_end ∷ later))
          else output_from e (before ++ (b ∷ [])) (bs ++ (line_end ∷ later)))
          ≡ (if t then reply_line e before ++ output_from e [] (bs ++ (line_end ∷ []))
          else output_from e (before ++ (b ∷ [])) (bs ++ (line_end ∷ []))) ++ output_from e [] later
      by true h g = ap (λ (l : List ℕ). reply_line e before ++ l) h ∙ sym (append_assoc (reply_line e before) _ _)
      by false h g = g

  -- whole lines are answered by themselves
  pub whole_lines_lem : (block later : List ℕ) (n : ℕ) → n ≤ length block → (0 < n → get_or block (n - 1) 0 ≡ line_end)
      → output e (block ++ later) ≡ output e (take n block) ++ output e (drop n block ++ later)
  unfolding output output_from last_line
  whole_lines_lem block later zero fits end = refl
  whole_lines_lem block later (suc n) fits end =
      let front = take n block in
      let back = drop (suc n) block in
      let same : suc n - 1 ≡ n = omega arith in
      let last : get_or block n 0 ≡ line_end = ap (λ (k : ℕ). get_or block k 0) (sym same) ∙ end (omega arith) in
      let lines : take (suc n) block ≡ front ++ (line_end ∷ []) = take-suc block n 0 fits ∙ ap (λ (b : ℕ). front ++ (b ∷ [])) last in
      let all : block ≡ front ++ (line_end ∷ back) = split_at block n 0 fits ∙ ap (λ (b : ℕ). front ++ (b ∷ back)) last in
      ap (λ (l : List ℕ). output_from e [] (l ++ later)) all
      ∙ ap (output_from e []) (append_assoc front (line_end ∷ back) later)
      ∙ from_whole [] front (back ++ later)
      ∙ ap (λ (l : List ℕ). output_from e [] l ++ output_from e [] (back ++ later)) (sym lines)
