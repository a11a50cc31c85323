-- What was read, by its case: the replies to the last line or to a block lie in their row, and what a block leaves at the buffer's start is
-- what is kept of it.
-- Assumes nothing.
use Rattle.std.specs.Prelude.{Option, Some, None, is_some, unwrap_or, if◌then◌else◌}
use mathlib.Core.Bool.{Bool, true, false}
use mathlib.Core.Path.{◌≡◌, ◌∙◌, sym, ap, subst⁻¹}
use mathlib.Core.List.{List, [], ◌++◌}
use Prim.Native.Nat.{ℕ, ◌+◌, ◌≤◌}
use native.Mathlib.Omega.{arith}
use lib.ListN.{length, take, drop}
use lib.Seq.{take-add}
use Rattle.rows.specs.Choice.{◌=?◌}
use Rattle.rows.specs.Row.{over}
use Rattle.measure.specs.Epoch.{shoushi}
use Rattle.rows.proofs.Row.{over_least, written as written-first}
use Rattle.frames.proofs.LineEndLaws.{length_most}
use Rattle.lines.specs.Line.{output}
use Rattle.lines.specs.Block.{Unfinished, enough, kept_of, written, block_of}
use Rattle.lines.proofs.Kept.{kept_most, kept_unfinished}
use Rattle.lines.specs.declared.blocks.Block.{Block}
use Rattle.month_lines.specs.Input.{read_of, written_for, kept_for, replies_in, turn_after, LeftOf, Left}
use Rattle.month_lines.specs.declared.Read.{Read}
use Rattle.month_lines.specs.declared.Read.TheVariants.{Last, Part}

pub replies_within : (kept : ℕ) (input row out : List ℕ) (read : Read) → out ≡ over (written_for kept input) row → read ≡ read_of kept input
    → replies_in read ≤ length out
unfolding read_of written_for
replies_within kept input row out read e h = by (length input =? kept) h e
  where
    by : (t : Bool) → read ≡ (if t then Last (length (output shoushi input)) else Part (block_of input))
        → out ≡ over (if t then output shoushi input else written input) row
        → replies_in read ≤ length out
    by true g f = omega (arith, ap replies_in g, over_least (output shoushi input) row, ap length f)
    by false g f = omega (arith, ap replies_in g, over_least (written input) row, ap length f)

-- the block is what was kept and then what was read
part_left : (kept have : ℕ) (more : ℕ) (begun row buf : List ℕ) (b : Block) → have ≡ kept + more → take kept row ≡ begun
    → Part b ≡ read_of kept (take have row) → buf ≡ over (kept_for kept (take have row)) row → LeftOf begun (take b.kept buf)
unfolding read_of kept_for
part_left kept have more begun row buf b e f h g = by (length (take have row) =? kept) h g
  where
    input : take have row ≡ begun ++ take more (drop kept row)
    input = ap (λ (n : ℕ). take n row) e ∙ take-add kept more row ∙ ap (λ (l : List ℕ). l ++ take more (drop kept row)) f

    by : (t : Bool) → Part b ≡ (if t then Last (length (output shoushi (take have row))) else Part (block_of (take have row)))
        → buf ≡ over (if t then [] else kept_of (take have row)) row
        → LeftOf begun (take b.kept buf)
    by true p q = let never : ◌≡◌ {A = ℕ} 0 1 = cc in absurd (omega arith)
    by false p q =
        let same : b ≡ block_of (take have row) = cc in
        let long : b.kept ≡ length (kept_of (take have row)) = ap (λ (x : Block). x.kept) same in
        record { more = take more (drop kept row); left = written-first (kept_of (take have row)) row buf b.kept (sym long) q ∙ ap kept_of input }

part_most : (kept : ℕ) (input : List ℕ) (b : Block) → Part b ≡ read_of kept input → b.kept ≤ enough
unfolding read_of
part_most kept input b h = by (length input =? kept) h
  where
    by : (t : Bool) → Part b ≡ (if t then Last (length (output shoushi input)) else Part (block_of input)) → b.kept ≤ enough
    by true p = let never : ◌≡◌ {A = ℕ} 0 1 = cc in absurd (omega arith)
    by false p =
        let same : b ≡ block_of input = cc in
        omega (arith, ap (λ (x : Block). x.kept) same, kept_most input)

-- so a turn that goes on has kept what its block leaves
pub turn_left : (kept have more : ℕ) (begun row buf : List ℕ) (read : Read) (went : Bool) (turn : Option ℕ) → turn ≡ turn_after read went
    → have ≡ kept + more → take kept row ≡ begun → read ≡ read_of kept (take have row) → buf ≡ over (kept_for kept (take have row)) row
    → Left (is_some turn) begun (take (unwrap_or turn 0) buf)
turn_left kept have more begun row buf read went turn t e f h g =
    subst⁻¹ (λ (x : Option ℕ). Left (is_some x) begun (take (unwrap_or x 0) buf)) t (by read went h)
  where
    by : (r : Read) (w : Bool) → r ≡ read_of kept (take have row)
        → Left (is_some (turn_after r w)) begun (take (unwrap_or (turn_after r w) 0) buf)
    by (Last n) w p = tt
    by (Part b) true p = part_left kept have more begun row buf b e f p g
    by (Part b) false p = tt

-- which is an unfinished line, or enough of it
pub left_unfinished : (begun after : List ℕ) → LeftOf begun after → Unfinished after
left_unfinished begun after l = subst⁻¹ Unfinished l.left (kept_unfinished (begun ++ l.more))

pub turn_most : (kept : ℕ) (input : List ℕ) (read : Read) (went : Bool) (turn : Option ℕ) → turn ≡ turn_after read went → read ≡ read_of kept input
    → unwrap_or turn 0 ≤ enough
turn_most kept input read went turn t h = subst⁻¹ (λ (x : Option ℕ). unwrap_or x 0 ≤ enough) t (by read went h)
  where
    by : (r : Read) (w : Bool) → r ≡ read_of kept input → unwrap_or (turn_after r w) 0 ≤ enough
    by (Last n) w p = omega arith
    by (Part b) true p = part_most kept input b p
    by (Part b) false p = omega arith

pub none_unfinished : Unfinished []
none_unfinished = omega (arith, length_most [])

pub turn_unfinished : (begun buf : List ℕ) (turn : Option ℕ) → Left (is_some turn) begun (take (unwrap_or turn 0) buf)
    → Unfinished (take (unwrap_or turn 0) buf)
turn_unfinished begun buf None l = none_unfinished
turn_unfinished begun buf (Some n) l = left_unfinished begun (take n buf) l
