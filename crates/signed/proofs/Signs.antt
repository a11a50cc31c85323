-- What a program's test of a 64-bit number against 0 says of the number.
-- Assumes nothing.
use mathlib.Core.Bool.{true, false, false≢true}
use mathlib.Core.Path.{◌≡◌, refl, sym}
use Prim.Native.Nat.{ℕ}
use native.Mathlib.Nat.{not-suc-le-zero}
use borrow.Author.Tests.{ltb-true}
use lib.IntN.{ℤ, pos, negsuc}
use lib.Signed.{lt_z}
use mir.Syntax.{w64}
use mir.Val.{SFits, of_z, to_z}
use mir.Facts.{to_z-of_z}

-- below 0, and from 0 on
pub record Below (z : ℤ) : Type 0 where
  pub past : ℕ
  pub is : z ≡ negsuc past

pub record From (z : ℤ) : Type 0 where
  pub size : ℕ
  pub is : z ≡ pos size

below : (z : ℤ) → lt_z z (pos 0) ≡ true → Below z
below (pos n) e = absurd (not-suc-le-zero (ltb-true n 0 e))
below (negsuc n) e = record { past = n; is = refl }

from : (z : ℤ) → lt_z z (pos 0) ≡ false → From z
from (pos n) e = record { size = n; is = refl }
from (negsuc n) e = absurd (false≢true (sym e))

-- the number is held in bits, and is tested as it is read back off them
module _ (z : ℤ) (f : SFits w64 z) where
  pub below_zero : lt_z (to_z w64 (of_z w64 z)) (to_z w64 (of_z w64 (pos 0))) ≡ true → Below z
  below_zero e = below z (simp (to_z-of_z f) at e)

  pub from_zero : lt_z (to_z w64 (of_z w64 z)) (to_z w64 (of_z w64 (pos 0))) ≡ false → From z
  from_zero e = from z (simp (to_z-of_z f) at e)
