-- Two functions that agree on a position's addresses have the same candidates and the same rewrite there.
use Prim.Native.Nat.{ℕ, zero, suc, ◌+◌, ◌^◌}
use mathlib.Core.Path.{◌≡◌, ap, ap₂}
use mathlib.Core.List.{List}
use native.Mathlib.Omega.{arith}
use Rattle.theory.specs.Results.{In, leaf, combine, sets, ortc}
use Rattle.theory.specs.Routes.{Answer}
use Rattle.theory.proofs.Blocks.{in_left, in_right}

-- f and g agree on the position (n, a)
abbrev pub Agree : (ℕ → Answer) → (ℕ → Answer) → ℕ → ℕ → Type 0
Agree f g n a = (x : ℕ) → In n a x → f x ≡ g x

module _ (f g : ℕ → Answer) where
  pub sets-agree : (n a : ℕ) → Agree f g n a → sets f n a ≡ sets g n a
  unfolding sets
  sets-agree zero a h = ap leaf (h a (omega arith))
  sets-agree (suc n) a h =
      ap₂ combine (sets-agree n a (λ x i. h x (in_left n a x i)))
      (sets-agree n (a + 2 ^ n) (λ x i. h x (in_right n a x i)))

  module _ (choose : List ℕ → ℕ) (w : ℕ) where
    pub ortc-agree : (n a : ℕ) (above : Answer) → Agree f g n a → ortc choose w f n a above ≡ ortc choose w g n a above
    unfolding ortc
    ortc-agree zero a above h = rw (sets-agree zero a h)
    ortc-agree (suc n) a above h =
        rw (
          sets-agree (suc n) a h,
          ortc-agree n a _ (λ x i. h x (in_left n a x i)),
          ortc-agree n (a + 2 ^ n) _ (λ x i. h x (in_right n a x i)),
        )
