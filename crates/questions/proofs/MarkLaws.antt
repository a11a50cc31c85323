-- Laws of the marks of a text: one mark more, and none left.
-- Assumes nothing.
use Rattle.std.specs.Prelude.{Option, Some, None}
use mathlib.Core.Bool.{true, false}
use mathlib.Core.List.{List, [], ◌∷◌, ◌++◌}
use mathlib.Core.Logic.{◌⊎◌, inl, inr}
use mathlib.Core.Path.{◌≡◌, ◌∙◌, refl, sym, ap}
use Prim.Native.Nat.{ℕ, zero, suc, ◌≤◌, ◌<◌}
use native.Mathlib.Omega.{arith}
use borrow.Author.Tests.{eq-eqb, ne_eqb}
use lib.ListN.{length}
use Rattle.rows.specs.Reply.{Reply, answer, refused, bad_line}
use Rattle.rows.proofs.Choice.{lt_or_ge, passes_or_fails}
use Rattle.words.specs.Text.{◌is◌}
use Rattle.words.specs.Numbers.{part_of, rest_of}
use Rattle.words.proofs.Within.{rest_shorter, rest_no_longer}
use Rattle.sheets.specs.Sheet.{blank_sheet, with_mark, with_marks}
use Rattle.sheets.specs.declared.Mark.{Mark}
use Rattle.sheets.specs.declared.Sheet.{Sheet}
use Rattle.sheets.proofs.OnSheet.{marks_snoc}
use Rattle.questions.specs.MarkWords.{mark_of, after_mark, marks_within, marks_in, sheet_read}

-- what follows a mark: it takes a byte at least
module _ (s : List ℕ) where
  pub after_leap : (part_of s is "leap") ≡ true → rest_of (rest_of s) ≡ after_mark s
  unfolding after_mark
  after_leap e = simp e

  pub after_number : (part_of s is "leap") ≡ false → rest_of (rest_of (rest_of s)) ≡ after_mark s
  unfolding after_mark
  after_number e = simp e

  pub after_shorter : 0 < length s → length (after_mark s) < length s
  after_shorter h = by (passes_or_fails (part_of s is "leap"))
    where
      by : ((part_of s is "leap") ≡ true) ⊎ ((part_of s is "leap") ≡ false) → length (after_mark s) < length s
      by (inl e) = omega (arith, ap length (after_leap e), rest_shorter s h, rest_no_longer (rest_of s))
      by (inr e) =
          omega (
            arith,
            ap length (after_number e),
            rest_shorter s h,
            rest_no_longer (rest_of s),
            rest_no_longer (rest_of (rest_of s)),
          )

-- the marks of a text that go on from others
abbrev pub marks_after : List Mark → List ℕ → Reply (List Mark)
marks_after before s = marks_within (suc (length s)) before s

module _ (before : List Mark) (s : List ℕ) where
  pub none_left : (n : ℕ) → length s ≡ 0 → marks_within (suc n) before s ≡ answer before
  unfolding marks_within
  none_left n e = simp (eq-eqb _ _ e)

  -- a text that does not start with a mark
  pub no_mark : (n : ℕ) → 0 < length s → mark_of s ≡ None → marks_within (suc n) before s ≡ refused bad_line
  unfolding marks_within
  no_mark n h e = simp (ne_eqb (length s) 0 (λ z. omega arith), e)

  a_mark : (n : ℕ) (m : Mark) → 0 < length s → mark_of s ≡ Some m
      → marks_within (suc n) before s ≡ marks_within n (before ++ (m ∷ [])) (after_mark s)
  unfolding marks_within
  a_mark n m h e = simp (ne_eqb (length s) 0 (λ z. omega arith), e)

-- how far is counted does not matter, once it is further than the text is long
enough : (m n : ℕ) (before : List Mark) (s : List ℕ) → length s < m → length s < n → marks_within m before s ≡ marks_within n before s
enough zero n before s g h = absurd (omega arith)
enough (suc m) zero before s g h = absurd (omega arith)
enough (suc m) (suc n) before s g h = by (λ b t i j. enough m n b t i j) (lt_or_ge 0 (length s)) (mark_of s) refl
  where
    by : ((b : List Mark) (t : List ℕ) → length t < m → length t < n → marks_within m b t ≡ marks_within n b t)
        → (0 < length s) ⊎ (length s ≤ 0)
        → (r : Option Mark) → mark_of s ≡ r
        → marks_within (suc m) before s ≡ marks_within (suc n) before s
    by later (inr z) r e =
        let empty : length s ≡ 0 = omega arith in
        none_left before s m empty ∙ sym (none_left before s n empty)
    by later (inl l) None e = no_mark before s m l e ∙ sym (no_mark before s n l e)
    by later (inl l) (Some k) e =
        a_mark before s m k l e
        ∙ later (before ++ (k ∷ [])) (after_mark s) (omega (arith, after_shorter s l)) (omega (arith, after_shorter s l))
        ∙ sym (a_mark before s n k l e)

-- one mark more
pub mark_more : (before : List Mark) (s : List ℕ) (m : Mark) → 0 < length s → mark_of s ≡ Some m
    → marks_after before s ≡ marks_after (before ++ (m ∷ [])) (after_mark s)
mark_more before s m h e =
    a_mark before s (length s) m h e
    ∙ enough (length s) (suc (length (after_mark s))) (before ++ (m ∷ [])) (after_mark s) (after_shorter s h) (omega arith)

-- what was read of a text: the marks before what is left, and the sheet with them
pub record ReadTo (text left : List ℕ) (sheet : Sheet) : Type 0 where
  pub before : List Mark
  pub whole : marks_in text ≡ marks_after before left
  pub folded : sheet ≡ with_marks blank_sheet before

pub nothing_read : (text : List ℕ) (sheet : Sheet) → sheet ≡ blank_sheet → ReadTo text text sheet
unfolding marks_in with_marks
nothing_read text sheet e = record { before = []; whole = refl; folded = e }

pub read_more : (text left rest : List ℕ) (sheet next : Sheet) (m : Mark) → ReadTo text left sheet → 0 < length left → mark_of left ≡ Some m
    → rest ≡ after_mark left → next ≡ with_mark sheet m → ReadTo text rest next
read_more text left rest sheet next m r h e f g =
    record {
      before = r.before ++ (m ∷ []);
      whole = r.whole ∙ mark_more r.before left m h e ∙ ap (marks_after (r.before ++ (m ∷ []))) (sym f);
      folded = g ∙ ap (λ (s : Sheet). with_mark s m) r.folded ∙ sym (marks_snoc blank_sheet r.before m);
    }

module _ (text left : List ℕ) (sheet : Sheet) (r : ReadTo text left sheet) where
  pub all_read : length left ≡ 0 → Some sheet ≡ sheet_read (marks_in text)
  all_read e = ap Some r.folded ∙ ap sheet_read (sym (r.whole ∙ none_left r.before left (length left) e))

  pub not_read : 0 < length left → mark_of left ≡ None → None ≡ sheet_read (marks_in text)
  not_read h e = ap sheet_read (sym (r.whole ∙ no_mark r.before left (length left) h e))

-- marks that are not read are refused with one number
only_bad : (n : ℕ) (before : List Mark) (s : List ℕ) (k : ℕ) → marks_within n before s ≡ refused k → k ≡ bad_line
unfolding marks_within
only_bad zero before s k f = cc
only_bad (suc n) before s k f = by (λ b t g. only_bad n b t k g) (lt_or_ge 0 (length s)) (mark_of s) refl
  where
    by : ((b : List Mark) (t : List ℕ) → marks_within n b t ≡ refused k → k ≡ bad_line)
        → (0 < length s) ⊎ (length s ≤ 0)
        → (r : Option Mark) → mark_of s ≡ r
        → k ≡ bad_line
    by later (inr z) r e =
        let told = none_left before s n (omega arith) in
        let no : ◌≡◌ {A = ℕ} 0 1 = cc in
        absurd (omega arith)
    by later (inl l) None e = let told = no_mark before s n l e in cc
    by later (inl l) (Some m) e = later (before ++ (m ∷ [])) (after_mark s) (sym (a_mark before s n m l e) ∙ f)

pub refused_so : (s : List ℕ) (k : ℕ) → marks_in s ≡ refused k → k ≡ bad_line
unfolding marks_in
refused_so s k e = only_bad (suc (length s)) [] s k e
