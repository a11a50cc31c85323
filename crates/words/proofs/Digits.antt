-- Laws of numbers in decimal digits: when a reader may stop, and what it has then. Assumes nothing.
use mathlib.Core.Path.{◌≡◌, ◌∙◌, sym, ap}
use mathlib.Core.List.{List}
use mathlib.Core.Bool.{true, false, ◌&&◌, and-false}
use Prim.Native.Nat.{ℕ, zero, suc, ◌+◌, ◌-◌, ◌*◌, ◌^◌, ◌≤◌, ◌<◌}
use native.Mathlib.Nat.{add-zero, add-suc, le_refl}
use native.Mathlib.Numerals.{add-one}
use native.Mathlib.Omega.{arith}
use borrow.Author.Tests.{le-leb, lt-leb, lt-ltb, le-ltb}
use lib.ListN.{length, get_or}
use Rattle.std.specs.Prelude.{Some, None}
use Rattle.std.proofs.lemmas.Option.{cond_some}
use Rattle.words.specs.Number.{is_digit, digit_of, digits, value, is_number, number_of}

-- what a digit that was read says of its byte
pub a_digit : (b d : ℕ) → digit_of b ≡ Some d → (is_digit b ≡ true) × (b - 48 ≡ d)
a_digit b d e = cond_some (is_digit b) (b - 48) d e

-- one digit more
pub digits_more : (s : List ℕ) (i : ℕ) → digits s (i + 1) ≡ (digits s i && is_digit (get_or s i 0))
unfolding digits
digits_more s i = ap (digits s) (add-one i)

pub value_more : (s : List ℕ) (i : ℕ) → value s (i + 1) ≡ value s i * 10 + (get_or s i 0 - 48)
unfolding value
value_more s i = ap (value s) (add-one i)

-- a byte that is no digit is not mended by what follows
digits_stop : (s : List ℕ) (i k : ℕ) → digits s i ≡ false → digits s (i + k) ≡ false
unfolding digits
digits_stop s i zero e = rw add-zero e
digits_stop s i (suc k) e = rw (add-suc, digits_stop s i k e)

-- more digits write no less
value_grows : (s : List ℕ) (i k : ℕ) → value s i ≤ value s (i + k)
unfolding value
value_grows s i zero = rw add-zero (le_refl _)
value_grows s i (suc k) = rw add-suc (omega (arith, value_grows s i k))

module _ (s : List ℕ) where
  pub empty : length s ≡ 0 → number_of s ≡ None
  unfolding number_of is_number
  empty e = rw e

  pub long : 20 < length s → number_of s ≡ None
  unfolding number_of is_number
  long h = simp (lt-leb (length s) 20 h, and-false)

  pub no_digit : (i : ℕ) → i < length s → is_digit (get_or s i 0) ≡ false → number_of s ≡ None
  unfolding number_of is_number
  no_digit i h e =
      let k : i + 1 + (length s - (i + 1)) ≡ length s = omega arith in
      let w : digits s (i + 1) ≡ false = digits_more s i ∙ simp (e, and-false) in
      let z : digits s (length s) ≡ false = ap (digits s) (sym k) ∙ digits_stop s (i + 1) (length s - (i + 1)) w in
      simp (z, and-false)

  pub large : (i : ℕ) → i < length s → 2 ^ 64 ≤ value s (i + 1) → number_of s ≡ None
  unfolding number_of is_number
  large i h w =
      let k : i + 1 + (length s - (i + 1)) ≡ length s = omega arith in
      let g : value s (i + 1) ≤ value s (length s) = rw k at (value_grows s (i + 1) (length s - (i + 1))) in
      simp (le-ltb (value s (length s)) (2 ^ 64) (omega arith), and-false)

  pub whole : 0 < length s → length s ≤ 20 → digits s (length s) ≡ true → value s (length s) < 2 ^ 64 → number_of s ≡ Some (value s (length s))
  unfolding number_of is_number
  whole h m d v = simp (le-leb 1 (length s) h, le-leb (length s) 20 m, d, lt-ltb (value s (length s)) (2 ^ 64) v)
