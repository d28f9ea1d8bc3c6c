-- Modes 1, 4 and 5 give the shortest lists: no valid routes that say the same of every address, in whatever order and with whatever hops, are fewer. Over every
-- width and every lawful choice of a hop.
-- The idea is Least's, position by position from the single addresses up: of all hops that routes could hand down to the two halves of a position, the one that
-- the rewrite assigns is missing from the fewest of their candidates, and a hop that is missing costs an entry.
use Prim.Native.Nat.{ℕ, ◌≤◌}
use mathlib.Core.Path.{◌≡◌, ap, ◌∙◌}
use mathlib.Core.Bool.{Bool}
use mathlib.Core.List.{List}
use native.Mathlib.Nat.{le_refl}
use native.Mathlib.Omega.{arith}
use lib.ListN.{length}
use Rattle.theory.specs.Shapes.{Within}
use Rattle.theory.specs.Results.{In, unhopped, maximal, smallest, Chooses, whole, Mode, result}
use Rattle.theory.specs.Routes.{Route, held, Answer, none, answer, filled, Alike, Aligned, Valid, All}
use Rattle.theory.specs.Shortest.{Shortens, of_set, of_drop, of_fill, NoFewer}
use Rattle.theory.proofs.Blocks.{aligned-zero}
use Rattle.theory.proofs.Chosen.{smallest_chooses}
use Rattle.theory.proofs.Computed.{valid-unhopped}
use Rattle.theory.proofs.Least.{least}
use Rattle.theory.proofs.Lists.{all_map}
use Rattle.theory.proofs.Maximal.{maximal_is_ortc}
use Rattle.theory.proofs.Order.{valid-within}
use Rattle.theory.proofs.Routed.{marked, answer-bare, all_unhopped, held-unhopped, length-unhopped}

-- ---- Mode 1's prefixes are the rewrite of a map with the one hop 0.

-- What a table's prefixes say as a set, by the addresses that it holds.
pub answer-unhopped : (w x : ℕ) (u : List Route) → answer w (unhopped u) x ≡ marked (held w u x)
answer-unhopped w x u = answer-bare w x (all_unhopped u) ∙ ap marked (held-unhopped w x u)

-- No routes that hold what passes p in a position are fewer than its maximal prefixes.
pub fewest : (w : ℕ) (p : ℕ → Bool) (n a : ℕ) {t : List Route} → n ≤ w → Aligned n a → All (Within w n a) t
    → ((x : ℕ) → In n a x → answer w t x ≡ marked (p x)) → length (maximal w p n a) ≤ length t
fewest w p n a {t} le d tw sem =
    omega (
      arith,
      ap length (maximal_is_ortc smallest smallest_chooses w p n a),
      least smallest smallest_chooses w (λ x. marked (p x)) n a none none t le d tw sem,
    )

-- ---- The modes.

module _ (choose : List ℕ → ℕ) (law : Chooses choose) (w : ℕ) where
  -- No valid routes that answer as f are fewer than its rewrite.
  rewrite_shortest : (f : ℕ → Answer) {u : List Route} → All (Valid w) u → Alike w (answer w u) f → length (whole choose w f) ≤ length u
  rewrite_shortest f {u} valid same =
      omega (arith, least choose law w f w 0 none none u (le_refl w) (aligned-zero w) (all_map (valid-within w) valid) (λ x i. same x (omega arith)))

  -- So of the modes.
  pub result_shortest : {mode : Mode} → Shortens mode → (t : List Route) → NoFewer w mode t (length (result choose w mode t))
  unfolding result
  result_shortest of_set t u ok =
      omega (
        arith,
        fewest w (held w t) w 0 (le_refl w) (aligned-zero w) (all_map (valid-within w) (valid-unhopped ok.valid))
            (λ x i. answer-unhopped w x u ∙ ap marked (ok.keeps x (omega arith))),
        length-unhopped u,
      )
  result_shortest of_drop t u ok = rewrite_shortest (answer w t) ok.valid ok.keeps
  result_shortest (of_fill d) t u ok = rewrite_shortest (filled d (answer w t)) ok.valid ok.keeps
