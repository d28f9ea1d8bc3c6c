-- A table that answers as f has at least as many routes as f's rewrite.
use Prim.Native.Nat.{ℕ, zero, suc, ◌+◌, ◌-◌, ◌^◌, ◌≤◌}
use mathlib.Core.Path.{◌≡◌, ◌∙◌}
use mathlib.Core.List.{List, [], ◌∷◌, ◌++◌}
use native.Mathlib.Omega.{arith}
use lib.ListN.{length, length-append}
use Rattle.theory.specs.Shapes.{Within}
use Rattle.theory.specs.Results.{In, Cand, hole, of, sets, Chooses, assigned, here, ortc}
use Rattle.theory.specs.Routes.{Route, Match, miss, hit, lookup, Answer, none, under, Aligned, All}
use Rattle.theory.proofs.Blocks.{aligned-left, aligned-right}
use Rattle.theory.proofs.Count.{missing, missing_most, missing_leaf, here-length, assigned-best}
use Rattle.theory.proofs.Halves.{is_low, tops, below, lefts, rights, handed, left, right, below_sem, left_sem, right_sem}
use Rattle.theory.proofs.Hops.{Held, sets-held}
use Rattle.theory.proofs.Parts.{of_len, length_parts}

-- What a hop misses, the hop that routes hand down in its place misses too, unless there is such a route.
missing_under : (w x : ℕ) (g : Answer) (S : Cand) (t : List Route) → missing g S ≤ length t + missing (under g (lookup w t x)) S
missing_under w x g S [] = omega arith
missing_under w x g S (r ∷ t) = omega (arith, missing_most g S)

-- An address without a route has none above it.
none_under : (g : Answer) (m : Match) → under g m ≡ none → g ≡ none
none_under g miss e = e
none_under g (hit k h) e = let z : ◌≡◌ {A = ℕ} 0 1 = cc in absurd (omega arith)

module _ (choose : List ℕ → ℕ) (law : Chooses choose) (w : ℕ) (f : ℕ → Answer) where
  -- Where the routes t of a position answer as f under g, the rewrite under `above` has no more, but for what `above` misses and g does not.
  pub least : (n a : ℕ) (g above : Answer) (t : List Route) → n ≤ w → Aligned n a → All (Within w n a) t
      → ((x : ℕ) → In n a x → under g (lookup w t x) ≡ f x)
      → length (ortc choose w f n a above) + missing g (sets f n a) ≤ length t + missing above (sets f n a)
  unfolding sets ortc
  least zero a g above t le d tw sem =
      let e : missing (under g (lookup w t a)) (sets f zero a) ≡ 0 = rw (sem a (omega arith)) (missing_leaf (f a)) in
      omega (arith, here-length choose w (sets f zero a) zero a above, missing_under w a g (sets f zero a) t)
  least (suc n) a g above t le d tw sem =
      let S : Cand = sets f n a in
      let R : Cand = sets f n (a + 2 ^ n) in
      let u : Answer = assigned choose (sets f (suc n) a) above in
      let v : Answer = handed w n a g t in
      let l : List Route = ortc choose w f n a u in
      let r : List Route = ortc choose w f n (a + 2 ^ n) u in
      let e : List Route = here choose w (sets f (suc n) a) (suc n) a above in
      omega (
        arith,
        length-append e (l ++ r),
        length-append l r,
        here-length choose w (sets f (suc n) a) (suc n) a above,
        length_parts (of_len (w - suc n)) t,
        length_parts (is_low n a) (below w n t),
        least n a v u (lefts w n a t) (omega arith) (aligned-left n a d) (left w n a le d t tw) (left_sem w n a le d t tw f g sem),
        least n (a + 2 ^ n) v u (rights w n a t) (omega arith) (aligned-right n a d) (right w n a le d t tw) (right_sem w n a le d t tw f g sem),
        missing_under w a g (sets f (suc n) a) (tops w n t),
        assigned-best choose law f (suc n) a S R above v (sets-held f (suc n) a) (no_hop (sets f (suc n) a) (sets-held f (suc n) a)),
      )
    where
      -- No hop is handed down to a hole.
      no_hop : (S : Cand) → Held f (suc n) a S → S ≡ hole → handed w n a g t ≡ none
      no_hop hole h e =
          none_under (handed w n a g t) (lookup w (below w n t) h.0) (below_sem w n a le d t tw f g sem h.0 h.1.0 ∙ h.1.1)
      no_hop (of s) h e = let z : ◌≡◌ {A = ℕ} 0 1 = cc in absurd (omega arith)
