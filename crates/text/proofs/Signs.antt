-- A negative number's distance from 0, as 64 bits hold it. Assumes nothing.
use mathlib.Core.Path.{◌≡◌, ap, subst}
use mathlib.Core.Bool.{Bool, true, false}
use Prim.Native.Nat.{ℕ}
use native.Mathlib.Omega.{arith}
use borrow.Author.Tests.{ltb-true}
use lib.IntN.{ℤ, pos, negsuc, nat_abs}
use lib.Signed.{lt_z}
use mathlib.Core.List.{◌∷◌}
use mir.Syntax.{w64}
use mir.Val.{SFits, to_z, of_z}
use mir.ValLaws.{to_z-of_z}
use Rattle.text.specs.Text.{decimal, signed}

-- The text of a number by its sign and its distance from 0.
pub negative : (z : ℤ) (d : ℕ) → lt_z z (pos 0) ≡ true → d ≡ nat_abs z → 45 ∷ decimal d ≡ signed z
unfolding signed
negative (pos n) d e h = absurd (omega (arith, ltb-true n 0 e))
negative (negsuc n) d e h = ap (λ (k : ℕ). 45 ∷ decimal k) h

pub natural : (z : ℤ) (d : ℕ) → lt_z z (pos 0) ≡ false → d ≡ nat_abs z → decimal d ≡ signed z
unfolding signed
natural (pos n) d e h = ap decimal h
natural (negsuc n) d e h = let z : ◌≡◌ {A = ℕ} 0 1 = cc in absurd (omega arith)

module _ (n : ℤ) (fits : SFits w64 n) where
  -- A test of the bits is a test of the number.
  pub tested : (b : Bool) → lt_z (to_z w64 (of_z w64 n)) (pos 0) ≡ b → lt_z n (pos 0) ≡ b
  tested b e = subst (λ (z : ℤ). lt_z z (pos 0) ≡ b) (to_z-of_z w64 n fits) e
