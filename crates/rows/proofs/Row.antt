-- Laws of lists and lent rows: one place more of a list, and one store or one list more after what is written already.
-- Assumes nothing.
use mathlib.Core.Path.{◌≡◌, ◌∙◌, refl, sym, ap}
use mathlib.Core.List.{List, [], ◌∷◌, ◌++◌, append_assoc, append-nil}
use Prim.Native.Nat.{ℕ, zero, suc, ◌+◌, ◌-◌, ◌≤◌, ◌<◌}
use native.Mathlib.Nat.{zero-add, add-zero, suc-add, add-suc, le_of_suc-le-suc, not-suc-le-zero}
use native.Mathlib.Numerals.{add-one}
use native.Mathlib.Omega.{arith}
use lib.ListN.{length, get_or, take, drop, set, length-append, length-drop}
use lib.Seq.{drop-cons, set_at, take_at, drop_at, take-length, drop-length, drop-drop, length-take-le}
use borrow.Rule.Slice.PartMut.{put_mid}
use Rattle.rows.specs.Row.{listed, over}

-- what a row holds, of which a list of no places leaves all
pub over_is : {A : Type 0} (new row : List A) → over new row ≡ new ++ drop (length new) row
unfolding over
over_is new row = refl

pub listed_none : (f : ℕ → ℕ) (i : ℕ) → listed f i 0 ≡ []
unfolding listed
listed_none f i = refl

pub length_listed : (f : ℕ → ℕ) (i k : ℕ) → length (listed f i k) ≡ k
unfolding listed
length_listed f i zero = refl
length_listed f i (suc k) = ap suc (length_listed f (suc i) k)

listed_suc : (f : ℕ → ℕ) (i k : ℕ) → listed f i (suc k) ≡ listed f i k ++ (f (i + k) ∷ [])
unfolding listed
listed_suc f i zero = rw add-zero
listed_suc f i (suc k) =
    let next : suc i + k ≡ i + suc k = omega arith in
    ap (λ (l : List ℕ). f i ∷ l) (listed_suc f (suc i) k ∙ ap (λ (n : ℕ). listed f (suc i) k ++ (f n ∷ [])) next)

-- a list with one place more
pub listed_more : (f : ℕ → ℕ) (k : ℕ) → listed f 0 (k + 1) ≡ listed f 0 k ++ (f k ∷ [])
listed_more f k =
    let same : 0 + k ≡ k = omega arith in
    ap (listed f 0) (add-one k) ∙ listed_suc f 0 k ∙ ap (λ (n : ℕ). listed f 0 k ++ (f n ∷ [])) same

-- one store more, at the end of what is written
pub put : {A : Type 0} (new row now : List A) (v : A) (n : ℕ) → now ≡ over new row → length new ≡ n → n < length row
    → set now n v ≡ over (new ++ (v ∷ [])) row
unfolding over
put {A} new row now v n e k h =
    let w : suc n ≡ length (new ++ (v ∷ [])) = omega (arith, length-append new (v ∷ [])) in
    ap (λ (m : List A). set m n v)
    (e ∙ ap (λ (j : ℕ). new ++ drop j row) k ∙ ap (λ (m : List A). new ++ m) (drop-cons row n v h))
    ∙ set_at new (get_or row n v) (drop (suc n) row) v n k
    ∙ sym (append_assoc new (v ∷ []) (drop (suc n) row))
    ∙ ap (λ (j : ℕ). (new ++ (v ∷ [])) ++ drop j row) w

-- so a list grows by its next place
pub put_listed : (f : ℕ → ℕ) (row now : List ℕ) (n : ℕ) → now ≡ over (listed f 0 n) row → n < length row
    → set now n (f n) ≡ over (listed f 0 (n + 1)) row
put_listed f row now n e h =
    put (listed f 0 n) row now (f n) n e (length_listed f 0 n) h ∙ ap (λ (l : List ℕ). over l row) (sym (listed_more f n))

-- what a row holds from u on, and the row after that part is lent and comes back
abbrev pub rest_from : {A : Type 0} → ℕ → List A → List A
rest_from u row = take (length row - u) (drop u row)

abbrev pub with_rest : {A : Type 0} → ℕ → List A → List A → List A
with_rest u row rest = put_mid u (length row - u) row rest

-- more written into the rest of a row that holds `new` and then `old`
rest_written : {A : Type 0} (new more old : List A) (u : ℕ) → length new ≡ u
    → with_rest u (new ++ old) (over more (rest_from u (new ++ old))) ≡ new ++ (more ++ drop (length more) old)
unfolding over
rest_written new more old u e =
    let left : length (new ++ old) - u ≡ length old = omega (arith, length-append new old) in
    rw (left, take_at new old u e, drop_at new old u e, take-length, drop-length, append-nil)

over_append : {A : Type 0} (new more row : List A) → new ++ (more ++ drop (length more) (drop (length new) row)) ≡ over (new ++ more) row
unfolding over
over_append new more row = simp (append_assoc, length-append, drop-drop)

-- so a row grows by the list that is written into its rest
pub grow : {A : Type 0} (new more row now rest : List A) (u : ℕ) → now ≡ over new row → length new ≡ u → rest ≡ over more (rest_from u now)
    → with_rest u now rest ≡ over (new ++ more) row
unfolding over
grow new more row now rest u e k g =
    rw (g, e) (rest_written new more (drop (length new) row) u k) ∙ over_append new more row

pub length_over : {A : Type 0} (new row : List A) → length new ≤ length row → length (over new row) ≡ length row
unfolding over
length_over new row h = omega (arith, length-append new (drop (length new) row), length-drop (length new) row)

pub over_least : {A : Type 0} (new row : List A) → length new ≤ length (over new row)
unfolding over
over_least new row = omega (arith, length-append new (drop (length new) row))

-- what is taken of a row as far as it was written
pub written : {A : Type 0} (new row now : List A) (u : ℕ) → length new ≡ u → now ≡ over new row → take u now ≡ new
unfolding over
written new row now u e h = ap (take u) h ∙ take_at new (drop (length new) row) u e

-- what is written over a row's front is, with the rest after it, written over the row
pub front_over : {A : Type 0} (new row front : List A) (k : ℕ) → front ≡ over new (take k row) → length new ≡ k → k ≤ length row
    → front ++ drop k row ≡ over new row
unfolding over
front_over new row front k e long room =
    let none : drop (length new) (take k row) ≡ [] =
    ap (λ (n : ℕ). drop n (take k row)) (long ∙ sym (length-take-le k row room)) ∙ drop-length (take k row) in
    rw (e, none, append-nil) (ap (λ (n : ℕ). new ++ drop n row) (sym long))

-- a part of a whole is written into a row that holds what of the whole comes before it
pub more_written : {A : Type 0} (all more left row now part : List A) (used r : ℕ) → used ≤ length now → all ≡ take used now ++ (more ++ left)
    → now ≡ over (take used now) row → r ≡ length more → part ≡ over more (rest_from used now)
    → (all ≡ take (used + r) (with_rest used now part) ++ left)
    × (with_rest used now part ≡ over (take (used + r) (with_rest used now part)) row)
more_written {A} all more left row now part used r fits whole held er ep =
    let p = take used now in
    let after = with_rest used now part in
    let w : after ≡ over (p ++ more) row = grow p more row now part used held (length-take-le used now fits) ep in
    let l : length (p ++ more) ≡ used + r = omega (arith, length-append p more, length-take-le used now fits) in
    let f : take (used + r) after ≡ p ++ more = written (p ++ more) row after (used + r) l w in (
      whole ∙ sym (append_assoc p more left) ∙ ap (λ (x : List A). x ++ left) (sym f),
      w ∙ ap (λ (x : List A). over x row) (sym f),
    )

-- a list and the list that goes on from its end are one list
pub listed_append : (f : ℕ → ℕ) (i j k : ℕ) → listed f i j ++ listed f (i + j) k ≡ listed f i (j + k)
unfolding listed
listed_append f i zero k = rw (add-zero i, zero-add k)
listed_append f i (suc j) k =
    rw (add-suc i j, suc-add j k, ← suc-add i j) (ap (λ (l : List ℕ). f i ∷ l) (listed_append f (suc i) j k))

-- what stands at each place of a list
from : (f : ℕ → ℕ) (i k n : ℕ) → n < k → get_or (listed f i k) n 0 ≡ f (i + n)
unfolding listed
from f i zero n h = absurd (not-suc-le-zero h)
from f i (suc k) zero h = ap f (sym (add-zero i))
from f i (suc k) (suc n) h = from f (suc i) k n (le_of_suc-le-suc h) ∙ ap f (suc-add i n ∙ sym (add-suc i n))

pub listed_at : (f : ℕ → ℕ) (k n : ℕ) → n < k → get_or (listed f 0 k) n 0 ≡ f n
listed_at f k n h = from f 0 k n h ∙ ap f (zero-add n)
