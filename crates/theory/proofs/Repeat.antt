-- Two tables have equal rewrites exactly when they answer alike; a rewrite's own rewrite is the same list.
use Prim.Native.Nat.{ℕ}
use mathlib.Core.Path.{◌≡◌, refl, sym, ap, ◌∙◌}
use mathlib.Core.Logic.{◌↔◌}
use mathlib.Core.List.{List}
use native.Mathlib.Omega.{arith}
use Rattle.theory.specs.Results.{Chooses, whole}
use Rattle.theory.specs.Routes.{Route, Answer, none, via, answer, or_default, filled, Alike}
use Rattle.theory.proofs.Agree.{ortc-agree}
use Rattle.theory.proofs.Preserve.{answers}

module _ (choose : List ℕ → ℕ) (w : ℕ) where
  module _ (law : Chooses choose) where
    pub alike : (f g : ℕ → Answer) → (whole choose w f ≡ whole choose w g) ↔ Alike w f g
    alike f g = (
      λ e x lt. sym (answers choose w law f x lt) ∙ ap (λ (t : List Route). answer w t x) e ∙ answers choose w law g x lt,
      λ h. ortc-agree f g choose w w 0 none (λ x i. h x (omega arith)),
    )

    pub again : (f : ℕ → Answer) → whole choose w (answer w (whole choose w f)) ≡ whole choose w f
    again f = (alike (answer w (whole choose w f)) f).1 (λ x lt. answers choose w law f x lt)

    filled_twice : (d : ℕ) (v : Answer) → or_default d (or_default d v) ≡ or_default d v
    filled_twice d none = refl
    filled_twice d (via h) = refl

    pub again_filled : (d : ℕ) (f : ℕ → Answer) → whole choose w (filled d (answer w (whole choose w (filled d f)))) ≡ whole choose w (filled d f)
    again_filled d f =
        (alike (filled d (answer w (whole choose w (filled d f)))) (filled d f)).1
        (λ x lt. ap (or_default d) (answers choose w law (filled d f) x lt) ∙ filled_twice d (f x))
