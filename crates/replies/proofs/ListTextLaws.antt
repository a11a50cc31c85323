-- Laws of the lines of lists: what is written is the text, one item more, the line end, and none; and the room that a list's line has.
-- Assumes nothing.
use mathlib.Core.List.{List, [], ◌∷◌, ◌++◌}
use mathlib.Core.Path.{◌≡◌, ◌∙◌, refl, sym, ap}
use Prim.Native.Nat.{ℕ, zero, suc, ◌+◌, ◌-◌, ◌*◌, ◌/◌, ◌≤◌, ◌<◌}
use native.Mathlib.Nat.{mul-zero, mul-suc, mul-pos, mul-div_cancel_left, mul-le-mul_left}
use native.Mathlib.Numerals.{add-one}
use native.Mathlib.Omega.{arith}
use lib.ListN.{length, take, drop, length-drop, take-append-drop}
use lib.Seq.{length-take-le, take_all, drop_at, drop-drop}
use Rattle.rows.specs.Reply.{Reply, answer, refused}
use Rattle.rows.specs.Row.{over}
use Rattle.words.specs.Ascii.{bytes_of}
use Rattle.texts.specs.Text.{piece, numbers_taken, holes, filled}
use Rattle.texts.proofs.TextLaws.{holes_append, filled_append, filled_enough}
use Rattle.questions.specs.DeskReply.{Few}
use Rattle.replies.specs.LineText.{item_at, items_of}
use Rattle.replies.specs.ListText.{items_text, ItemsTake, HasRoom}

-- what is written is the text
pub told_so : {new text now : List ℕ} {r : ℕ} (row : List ℕ) → new ≡ text → (r ≡ length new) × (now ≡ over new row)
    → (r ≡ length text) × (now ≡ over text row)
told_so row e h = (h.0 ∙ ap length e, h.1 ∙ ap (λ (l : List ℕ). over l row) e)

-- a template takes no more numbers than it has holes
filled_first : (t ns : List ℕ) (k : ℕ) → holes t ≤ k → k ≤ length ns → filled t ns ≡ filled t (take k ns)
filled_first t ns k few fits =
    ap (filled t) (sym (take-append-drop k ns)) ∙ filled_enough t (take k ns) (drop k ns) (omega (arith, length-take-le k ns fits))

-- which item is written
pub first_item : (item : List ℕ) (i : ℕ) → i ≡ 0 → take (length item - 1) (drop 1 item) ≡ item_at item i
unfolding item_at
first_item item i e = rw e (take_all (length item - 1) (drop 1 item) (omega (arith, length-drop 1 item)))

pub later_item : (item : List ℕ) (i : ℕ) → (i ≡ 0 → ⊥) → item ≡ item_at item i
unfolding item_at
later_item item zero h = absurd (h refl)
later_item item (suc i) h = refl

-- one item more, and that it has room where all have
pub one_more : (each i : ℕ) → each * (i + 1) ≡ each * i + each
one_more each i = rw (add-one i, mul-suc each i)

pub next_item : (each i k : ℕ) → i < k → each * i + each ≤ each * k
next_item each i k h = omega (arith, mul-suc each i, mul-le-mul_left each h)

-- a template takes as many numbers with its blank as without it
pub item_takes : (item : List ℕ) (w : ℕ) → holes item ≡ w → holes (drop 1 item) ≡ w → ItemsTake item w
unfolding item_at
item_takes item w all rest zero = rest
item_takes item w all rest (suc i) = all

module _ (item : List ℕ) (w : ℕ) (takes : ItemsTake item w) where
  items_take : (k : ℕ) → holes (items_of item k) ≡ w * k
  unfolding items_of holes
  items_take zero = omega arith
  items_take (suc k) = holes_append (items_of item k) (item_at item k) ∙ omega (arith, items_take k, takes k, mul-suc w k)

  -- so many items and the next
  pub item_more : (i : ℕ) (ns : List ℕ) → filled (items_of item (i + 1)) ns ≡ filled (items_of item i) ns ++ filled (item_at item i) (drop (w * i) ns)
  unfolding items_of
  item_more i ns =
      rw add-one
      (filled_append (items_of item i) (item_at item i) ns
      ∙ ap (λ (j : ℕ). filled (items_of item i) ns ++ filled (item_at item i) (drop j ns)) (items_take i))

  -- the numbers of an item are its own, and those after them the next one's
  pub own_item : (i : ℕ) (ns own left : List ℕ) → drop (w * i) ns ≡ own ++ left → length own ≡ w
      → (filled (item_at item i) own ≡ filled (item_at item i) (drop (w * i) ns)) × (left ≡ drop (w * (i + 1)) ns)
  own_item i ns own left e n = (
    sym (ap (filled (item_at item i)) e ∙ filled_enough (item_at item i) own left (omega (arith, takes i))),
    sym (drop_at own left w n) ∙ ap (drop w) (sym e) ∙ drop-drop w (w * i) ns ∙ ap (λ (j : ℕ). drop j ns) (sym (one_more w i)),
  )

  some_items : (l : List ℕ) → 0 < length l → items_text item w l ≡ filled (items_of item (length l / w) ++ bytes_of "\n") l
  unfolding items_text
  some_items [] h = absurd (omega arith)
  some_items (n ∷ l) h = refl

  -- and the line end
  pub items_ended : (k : ℕ) (ns : List ℕ) → 0 < w → 0 < k → w * k ≤ length ns → filled (items_of item k) ns ++ (10 ∷ []) ≡ items_text item w (take (w * k) ns)
  unfolding filled piece numbers_taken holes
  items_ended k ns wide some fits =
      let few : holes (items_of item k ++ bytes_of "\n") ≤ w * k = omega (arith, holes_append (items_of item k) (bytes_of "\n"), items_take k) in
      let long : length (take (w * k) ns) ≡ w * k = length-take-le (w * k) ns fits in
      let all : length (take (w * k) ns) / w ≡ k = ap (λ (n : ℕ). n / w) long ∙ mul-div_cancel_left k wide in
      sym (filled_append (items_of item k) (bytes_of "\n") ns)
      ∙ filled_first (items_of item k ++ bytes_of "\n") ns (w * k) few fits
      ∙ ap (λ (j : ℕ). filled (items_of item j ++ bytes_of "\n") (take (w * k) ns)) (sym all)
      ∙ sym (some_items (take (w * k) ns) (omega (arith, long, mul-pos wide some)))

-- none
pub no_items : (item : List ℕ) (w k : ℕ) (ns : List ℕ) → k ≡ 0 → bytes_of "none\n" ≡ items_text item w (take (w * k) ns)
unfolding items_text
no_items item w k ns e = rw (e, mul-zero w)

-- a list of not more than so many has room in a row that has room for so many
pub few_fit : (w each most : ℕ) (r : Reply ℕ) (numbers bytes : ℕ) → Few w most r numbers → each * most + 100 ≤ bytes → HasRoom w each r numbers bytes
few_fit w each most (answer k) numbers bytes few room = (few.1, omega (arith, mul-le-mul_left each few.0))
few_fit w each most (refused k) numbers bytes few room = tt
