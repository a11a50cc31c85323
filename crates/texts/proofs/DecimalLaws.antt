-- Laws of decimal digits: that they are what the library writes of a number of 64 bits, how many there are, and that they spell it.
-- Assumes nothing.
use mathlib.Core.Path.{◌≡◌, refl, sym}
use mathlib.Core.List.{List, [], ◌∷◌, ◌++◌}
use Prim.Native.Nat.{ℕ, zero, suc, ◌+◌, ◌-◌, ◌*◌, ◌/◌, ◌%◌, ◌^◌, ◌≤◌, ◌<◌}
use native.Mathlib.Nat.{pow-zero, pow-suc}
use native.Mathlib.Omega.{arith}
use borrow.Author.Tests.{lt-ltb}
use lib.ListN.{length, length-append}
use Rattle.std.specs.Fmt.{decimal as written}
use Rattle.std.proofs.lemmas.Fmt.{decimal_digit, decimal_step}
use Rattle.rows.specs.Choice.{◌<?◌}
use Rattle.rows.proofs.Choice.{if_cases, if_lt}
use Rattle.texts.specs.Text.{digit, decimal_in, decimal, most_digits}

-- what the library writes of a number
written_in : (k n : ℕ) → n < 10 ^ suc k → n < 2 ^ 64 → decimal_in (suc k) n ≡ written n
unfolding decimal_in
written_in zero n h fits = let small : n < 10 = omega (arith, pow-suc 10 0) in rw (lt-ltb n 10 small, decimal_digit n small)
written_in (suc k) n h fits =
    if_lt (λ (l : List ℕ). l ≡ written n) (digit n ∷ []) (decimal_in (suc k) (n / 10) ++ (digit (n % 10) ∷ [])) n 10
    (λ small. sym (decimal_digit n small))
    (λ large. rw (decimal_step n large fits, written_in k (n / 10) (omega (arith, pow-suc 10 (suc k))) (omega arith)))

pub decimal_written : (n : ℕ) → n < 2 ^ 64 → written n ≡ decimal n
unfolding decimal
decimal_written n h = sym (written_in 19 n (omega arith) h)

-- there are never more than are asked for
in_most : (k n : ℕ) → length (decimal_in k n) ≤ k
unfolding decimal_in
in_most zero n = omega arith
in_most (suc k) n =
    if_cases (λ (l : List ℕ). length l ≤ suc k) (digit n ∷ []) (decimal_in k (n / 10) ++ (digit (n % 10) ∷ [])) (n <? 10)
    (λ _. omega arith)
    (λ _. omega (arith, length-append (decimal_in k (n / 10)) (digit (n % 10) ∷ []), in_most k (n / 10)))

pub decimal_most : (n : ℕ) → length (decimal n) ≤ most_digits
unfolding decimal
decimal_most n = in_most most_digits n

-- what digits spell, after what was read before them
unfoldable pub spelled : ℕ → List ℕ → ℕ
spelled n [] = n
spelled n (b ∷ bs) = spelled (n * 10 + (b - digit 0)) bs

spelled_last : (n b : ℕ) (bs : List ℕ) → spelled n (bs ++ (b ∷ [])) ≡ spelled n bs * 10 + (b - digit 0)
unfolding spelled
spelled_last n b [] = refl
spelled_last n b (a ∷ bs) = spelled_last (n * 10 + (a - digit 0)) b bs

-- the digits of a number spell it
in_spells : (k n : ℕ) → n < 10 ^ k → spelled 0 (decimal_in k n) ≡ n
unfolding decimal_in spelled
in_spells zero n h = omega (arith, pow-zero 10)
in_spells (suc k) n h =
    if_lt (λ (l : List ℕ). spelled 0 l ≡ n) (digit n ∷ []) (decimal_in k (n / 10) ++ (digit (n % 10) ∷ [])) n 10
    (λ _. omega arith)
    (λ _.
    omega (
      arith,
      spelled_last 0 (digit (n % 10)) (decimal_in k (n / 10)),
      in_spells k (n / 10) (omega (arith, pow-suc 10 k)),
    ))

pub decimal_spells : (n : ℕ) → n < 2 ^ 64 → spelled 0 (decimal n) ≡ n
unfolding decimal
decimal_spells n h = in_spells most_digits n (omega arith)
