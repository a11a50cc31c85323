-- A month's line, by the width of its day: what is written is read back to the same fields, and a line that reads to fields is the line
-- that is written of them.
-- Assumes nothing.
use Rattle.std.specs.Prelude.{if◌then◌else◌}
use mathlib.Core.Bool.{Bool, true, false}
use mathlib.Core.Path.{◌≡◌, ◌∙◌, refl, sym, ap}
use mathlib.Core.List.{List, ◌++◌}
use Prim.Native.Nat.{ℕ, ◌+◌, ◌*◌, ◌/◌, ◌%◌, ◌^◌, ◌<◌}
use native.Mathlib.Nat.{one-le-pow, mul-add-div_right, mul-add-mod_self_right, div-eq_of_lt, mod-eq_of_lt}
use native.Mathlib.Omega.{arith}
use borrow.Author.Tests.{eq-eqb, eqb-true}
use lib.Dec.{lit<}
use lib.ListN.{length, length-append}
use Rattle.rows.specs.Choice.{◌=?◌}
use Rattle.rows.specs.Reply.{Reply, answer, refused, bad_line}
use Rattle.months.specs.Month.{MonthOfDay}
use Rattle.frames.specs.Digits.{digits_of, spelled, number_spelled}
use Rattle.frames.specs.MonthLine.{Fields, shown, month_line, month_digits, fields_in, fields_of, read_fields, Fits, refusal_line, line_of}
use Rattle.frames.proofs.DigitLaws.{length_digits, spelled_append, digits_read, number_back, digits_split, digits_last, digits_back}

-- the fields as one number; p is 16 ^ w
abbrev pub packed : ℕ → Fields → ℕ
packed p f = (((f.year * 16 + f.number) * 16 + f.mark) * p + f.first) * 256 + f.length

pub line_length_lem : (w : ℕ) (f : Fields) → length (month_line w f) ≡ month_digits w
unfolding month_line
line_length_lem w f = simp (length-append, length_digits) (omega arith)

pub refusal_length : (k : ℕ) → length (refusal_line k) ≡ 2
unfolding refusal_line
refusal_length k = simp (length-append, length_digits)

-- how long the line of a reply is
pub month_line_length : (w : ℕ) (m : MonthOfDay) → length (line_of w (answer m)) ≡ month_digits w + 1
unfolding line_of
month_line_length w m = simp length-append (omega (arith, line_length_lem w (shown m)))

pub refusal_line_length : (w k : ℕ) → length (line_of w (refused k)) ≡ 3
unfolding line_of
refusal_line_length w k = simp length-append (omega (arith, refusal_length k))

-- one field more
read_on : (xs : List ℕ) (m w n : ℕ) → number_spelled xs ≡ answer m → n < 16 ^ w → number_spelled (xs ++ digits_of w n) ≡ answer (m * 16 ^ w + n)
read_on xs m w n e h =
    spelled_append (answer 0) xs (digits_of w n) ∙ ap (λ (r : Reply ℕ). spelled r (digits_of w n)) e ∙ digits_read w n m h

-- a line of fields that have room in it spells that number
pub line_number : (w : ℕ) (f : Fields) → Fits w f → number_spelled (month_line w f) ≡ answer (packed (16 ^ w) f)
unfolding month_line
line_number w f fits =
    read_on _ _ 2 f.length
    (read_on _ _ w f.first
    (read_on _ _ 1 f.mark (read_on _ _ 1 f.number (number_back 3 f.year fits.year) fits.number) fits.mark) fits.first)
    fits.length

-- the number's parts are the fields
module _ (p : ℕ) (some : 0 < p) where
  over_part : (x y : ℕ) → y < p → (x * p + y) / p ≡ x
  over_part x y h = mul-add-div_right {m = p} some x y ∙ omega (arith, div-eq_of_lt {n = y} {m = p} h)

  rest_part : (x y : ℕ) → y < p → (x * p + y) % p ≡ y
  rest_part x y h = mul-add-mod_self_right x p y ∙ mod-eq_of_lt {n = y} {m = p} h

  pub fields_in_lem : (f : Fields) → f.number < 16 → f.mark < 16 → f.first < p → f.length < 256 → fields_in p (packed p f) ≡ f
  unfolding fields_in
  fields_in_lem f number mark first length =
      let high = (f.year * 16 + f.number) * 16 + f.mark in
      let low : packed p f / 256 ≡ high * p + f.first = omega arith in
      let top : packed p f / 256 / p ≡ high = ap (λ (x : ℕ). x / p) low ∙ over_part high f.first first in
      λ i.
      record {
        year = (ap (λ (x : ℕ). x / 256) top ∙ year_of_lem) i;
        number = (ap (λ (x : ℕ). x / 16 % 16) top ∙ number_of) i;
        mark = (ap (λ (x : ℕ). x % 16) top ∙ mark_of) i;
        first = (ap (λ (x : ℕ). x % p) low ∙ rest_part high f.first first) i;
        length = length_of_lem i;
      }
    where
      year_of_lem : ((f.year * 16 + f.number) * 16 + f.mark) / 256 ≡ f.year
      year_of_lem = omega arith

      number_of : ((f.year * 16 + f.number) * 16 + f.mark) / 16 % 16 ≡ f.number
      number_of = omega arith

      mark_of : ((f.year * 16 + f.number) * 16 + f.mark) % 16 ≡ f.mark
      mark_of = omega arith

      length_of_lem : packed p f % 256 ≡ f.length
      length_of_lem = omega arith

-- what is written is read back to the same fields
pub written_read : (w : ℕ) (f : Fields) → Fits w f → read_fields w (month_line w f) ≡ answer f
unfolding read_fields
written_read w f fits =
    simp (eq-eqb (length (month_line w f)) (month_digits w) (line_length_lem w f))
    (ap (fields_of (16 ^ w)) (line_number w f fits)
    ∙ ap answer
    (fields_in_lem (16 ^ w) (one-le-pow w 16 (lit< tt)) f (omega (arith, fits.number)) (omega (arith, fits.mark)) fits.first
    (omega (arith, fits.length))))

-- the line of a number's fields is that number's digits
pub number_line : (w n : ℕ) → month_line w (fields_in (16 ^ w) n) ≡ digits_of (month_digits w) n
unfolding month_line fields_in
number_line w n =
    let low = n / 256 in
    let top = low / 16 ^ w in
    sym
    (digits_split (5 + w) 2 n
    ∙ ap (λ (l : List ℕ). l ++ digits_of 2 n) (digits_split 5 w low)
    ∙ ap (λ (l : List ℕ). (l ++ digits_of w low) ++ digits_of 2 n) (digits_split 4 1 top)
    ∙ ap (λ (l : List ℕ). ((l ++ digits_of 1 top) ++ digits_of w low) ++ digits_of 2 n) (digits_split 3 1 (top / 16))
    ∙ ap (λ (x : ℕ). (((digits_of 3 x ++ digits_of 1 (top / 16)) ++ digits_of 1 top) ++ digits_of w low) ++ digits_of 2 n) (sixteens top)
    ∙ ap (λ (l : List ℕ). (((digits_of 3 (top / 256) ++ l) ++ digits_of 1 top) ++ digits_of w low) ++ digits_of 2 n) (sym (digits_last 1 (top / 16)))
    ∙ ap (λ (l : List ℕ). (((digits_of 3 (top / 256) ++ digits_of 1 (top / 16 % 16)) ++ l) ++ digits_of w low) ++ digits_of 2 n) (sym (digits_last 1 top))
    ∙ ap (λ (l : List ℕ). (((digits_of 3 (top / 256) ++ digits_of 1 (top / 16 % 16)) ++ digits_of 1 (top % 16)) ++ l) ++ digits_of 2 n) (sym (digits_last w low))
    ∙ ap (λ (l : List ℕ). (((digits_of 3 (top / 256) ++ digits_of 1 (top / 16 % 16)) ++ digits_of 1 (top % 16)) ++ digits_of w (low % 16 ^ w)) ++ l) (sym (digits_last 2 n)))
  where
    sixteens : (x : ℕ) → x / 16 / 16 ≡ x / 256
    sixteens x = omega arith

-- only a line of the right length and of digits is read
pub record ReadAs (w : ℕ) (line : List ℕ) (f : Fields) : Type 0 where
  pub number : ℕ
  pub sized : length line ≡ month_digits w
  pub spells : number_spelled line ≡ answer number
  pub fields : f ≡ fields_in (16 ^ w) number

pub read_as : (w : ℕ) (line : List ℕ) (f : Fields) → read_fields w line ≡ answer f → ReadAs w line f
unfolding read_fields
read_as w line f e = sized (length line =? month_digits w) refl e
  where
    spells : length line ≡ month_digits w → (r : Reply ℕ) → number_spelled line ≡ r → fields_of (16 ^ w) r ≡ answer f → ReadAs w line f
    spells h (answer n) g d = record { number = n; sized = h; spells = g; fields = cc }
    spells h (refused k) g d = let z : ◌≡◌ {A = ℕ} 0 1 = cc in absurd (never z)
      where
        never : ◌≡◌ {A = ℕ} 0 1 → ⊥
        never z = omega arith

    sized : (t : Bool) → (length line =? month_digits w) ≡ t → (if t then fields_of (16 ^ w) (number_spelled line) else refused bad_line) ≡ answer f
        → ReadAs w line f
    sized true t g = spells (eqb-true (length line) (month_digits w) t) (number_spelled line) refl g
    sized false t g = let z : ◌≡◌ {A = ℕ} 0 1 = cc in absurd (never z)
      where
        never : ◌≡◌ {A = ℕ} 0 1 → ⊥
        never z = omega arith

-- a line that reads to fields is the line that is written of them
pub read_written : (w : ℕ) (line : List ℕ) (f : Fields) → read_fields w line ≡ answer f → line ≡ month_line w f
read_written w line f e =
    let r = read_as w line f e in
    sym
    (ap (month_line w) r.fields
    ∙ number_line w r.number
    ∙ ap (λ (k : ℕ). digits_of k r.number) (sym r.sized)
    ∙ digits_back r.number line r.spells)
