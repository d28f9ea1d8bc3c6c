-- Where every address of a position has one answer, its candidates are that answer's.
use Prim.Native.Nat.{ℕ, zero, suc, ◌+◌, ◌^◌}
use mathlib.Core.Path.{◌≡◌, refl, ap, ap₂, ◌∙◌}
use native.Mathlib.Omega.{arith}
use borrow.Author.Tests.{eq-eqb}
use Rattle.theory.specs.Results.{In, leaf, combine, sets}
use Rattle.theory.specs.Routes.{Answer, none, via}
use Rattle.theory.proofs.Blocks.{in_left, in_right}

combine_same : (v : Answer) → combine (leaf v) (leaf v) ≡ leaf v
combine_same none = refl
combine_same (via h) = rw (eq-eqb h h refl)

pub sets_uniform : (f : ℕ → Answer) (v : Answer) (n a : ℕ) → ((x : ℕ) → In n a x → f x ≡ v) → sets f n a ≡ leaf v
unfolding sets
sets_uniform f v zero a h = ap leaf (h a (omega arith))
sets_uniform f v (suc n) a h =
    ap₂ combine (sets_uniform f v n a (λ x i. h x (in_left n a x i)))
    (sets_uniform f v n (a + 2 ^ n) (λ x i. h x (in_right n a x i)))
    ∙ combine_same v
