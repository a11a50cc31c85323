-- A line is written into the row in whose front it stands.
-- Assumes nothing.
use mathlib.Core.List.{List, ◌++◌, append_assoc}
use mathlib.Core.Path.{◌≡◌, ◌∙◌, sym, ap}
use Prim.Native.Nat.{ℕ, ◌≤◌}
use native.Mathlib.Omega.{arith}
use lib.ListN.{length, take, drop, take-append-drop}
use lib.Seq.{length-take-le, drop-append-le}
use Rattle.rows.specs.Row.{over}
use Rattle.rows.proofs.Row.{over_is}
use Rattle.replies.specs.LineText.{line_room}

pub over_line : (text row : List ℕ) → length text ≤ line_room → line_room ≤ length row
    → over text row ≡ over text (take line_room row) ++ drop line_room row
over_line text row fits long =
    let short : length text ≤ length (take line_room row) = omega (arith, length-take-le line_room row long) in
    over_is text row
    ∙ ap (λ (l : List ℕ). text ++ drop (length text) l) (sym (take-append-drop line_room row))
    ∙ ap (λ (l : List ℕ). text ++ l) (drop-append-le (length text) (take line_room row) (drop line_room row) short)
    ∙ sym (append_assoc text (drop (length text) (take line_room row)) (drop line_room row))
    ∙ ap (λ (l : List ℕ). l ++ drop line_room row) (sym (over_is text (take line_room row)))
