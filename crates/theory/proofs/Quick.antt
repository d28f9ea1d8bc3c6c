-- The rewrite of a table by its list of routes, which stops where no route is left: it can be computed, at 32 and at 64 bits.
use Prim.Native.Nat.{ℕ, zero, suc, ◌+◌, ◌^◌, ◌≤◌}
use mathlib.Core.Path.{◌≡◌, refl, sym, ap, ap₂}
use mathlib.Core.List.{List, [], ◌∷◌, ◌++◌, append-nil}
use native.Mathlib.Omega.{arith}
use borrow.Author.Tests.{eq-eqb}
use Rattle.theory.specs.Shapes.{Within}
use Rattle.theory.specs.Results.{In, Cand, leaf, combine, sets, Chooses, assigned, here, ortc}
use Rattle.theory.specs.Routes.{Route, lookup, Answer, none, via, under, Aligned, All}
use Rattle.theory.proofs.Blocks.{aligned-left, aligned-right, in_left, in_right}
use Rattle.theory.proofs.Halves.{lefts, rights, handed, left, right, left_sem, right_sem}
use Rattle.theory.proofs.Preserve.{leaf-assigned}
use Rattle.theory.proofs.Uniform.{sets_uniform}

-- The candidates of a position with the routes t in it, where `cover` answers for the rest.
unfoldable pub sets_of : ℕ → ℕ → ℕ → Answer → List Route → Cand
sets_of w zero a cover t = leaf (under cover (lookup w t a))
sets_of w (suc n) a cover [] = leaf cover
sets_of w (suc n) a cover (r ∷ t) =
    combine (sets_of w n a (handed w n a cover (r ∷ t)) (lefts w n a (r ∷ t)))
    (sets_of w n (a + 2 ^ n) (handed w n a cover (r ∷ t)) (rights w n a (r ∷ t)))

module _ (choose : List ℕ → ℕ) (w : ℕ) where
  unfoldable pub ortc_of : ℕ → ℕ → Answer → Answer → List Route → List Route
  ortc_of zero a cover above t = here choose w (sets_of w zero a cover t) zero a above
  ortc_of (suc n) a cover above [] = here choose w (leaf cover) (suc n) a above
  ortc_of (suc n) a cover above (r ∷ t) =
      let S : Cand = sets_of w (suc n) a cover (r ∷ t) in
      let g : Answer = handed w n a cover (r ∷ t) in
      here choose w S (suc n) a above
      ++ (ortc_of n a g (assigned choose S above) (lefts w n a (r ∷ t))
      ++ ortc_of n (a + 2 ^ n) g (assigned choose S above) (rights w n a (r ∷ t)))

  here-taken : (v : Answer) (n a : ℕ) → here choose w (leaf v) n a v ≡ []
  here-taken none n a = refl
  here-taken (via h) n a = rw (eq-eqb h h refl)

  -- Where every address has one answer, a rewrite has at most the position's own entry.
  pub ortc_uniform : Chooses choose → (f : ℕ → Answer) (v : Answer) (n a : ℕ) (above : Answer) → ((x : ℕ) → In n a x → f x ≡ v)
      → ortc choose w f n a above ≡ here choose w (leaf v) n a above
  unfolding ortc
  ortc_uniform law f v zero a above h = rw (sets_uniform f v zero a h)
  ortc_uniform law f v (suc n) a above h =
      rw (
        sets_uniform f v (suc n) a h,
        leaf-assigned choose w law v above,
        ortc_uniform law f v n a v (λ x i. h x (in_left n a x i)),
        ortc_uniform law f v n (a + 2 ^ n) v (λ x i. h x (in_right n a x i)),
        here-taken v n a,
        here-taken v n (a + 2 ^ n),
      )
      (append-nil (here choose w (leaf v) (suc n) a above))

  module _ (f : ℕ → Answer) where
    pub sets_quick : (n a : ℕ) (cover : Answer) (t : List Route) → n ≤ w → Aligned n a → All (Within w n a) t
        → ((x : ℕ) → In n a x → under cover (lookup w t x) ≡ f x) → sets f n a ≡ sets_of w n a cover t
    unfolding sets sets_of
    sets_quick zero a cover t le d tw sem = ap leaf (sym (sem a (omega arith)))
    sets_quick (suc n) a cover [] le d tw sem = unfold sets in sets_uniform f cover (suc n) a (λ x i. sym (sem x i))
    sets_quick (suc n) a cover (r ∷ t) le d tw sem =
        ap₂ combine
        (sets_quick n a (handed w n a cover (r ∷ t)) (lefts w n a (r ∷ t)) (omega arith) (aligned-left n a d) (left w n a le d (r ∷ t) tw)
        (left_sem w n a le d (r ∷ t) tw f cover sem))
        (sets_quick n (a + 2 ^ n) (handed w n a cover (r ∷ t)) (rights w n a (r ∷ t)) (omega arith) (aligned-right n a d)
        (right w n a le d (r ∷ t) tw) (right_sem w n a le d (r ∷ t) tw f cover sem))

    pub ortc_quick : Chooses choose → (n a : ℕ) (cover above : Answer) (t : List Route) → n ≤ w → Aligned n a → All (Within w n a) t
        → ((x : ℕ) → In n a x → under cover (lookup w t x) ≡ f x) → ortc choose w f n a above ≡ ortc_of n a cover above t
    unfolding ortc ortc_of
    ortc_quick law zero a cover above t le d tw sem = rw (sets_quick zero a cover t le d tw sem)
    ortc_quick law (suc n) a cover above [] le d tw sem = ortc_uniform law f cover (suc n) a above (λ x i. sym (sem x i))
    ortc_quick law (suc n) a cover above (r ∷ t) le d tw sem =
        let S : Cand = sets_of w (suc n) a cover (r ∷ t) in
        let g : Answer = handed w n a cover (r ∷ t) in
        rw (
          sets_quick (suc n) a cover (r ∷ t) le d tw sem,
          ortc_quick law n a g (assigned choose S above) (lefts w n a (r ∷ t)) (omega arith) (aligned-left n a d) (left w n a le d (r ∷ t) tw)
              (left_sem w n a le d (r ∷ t) tw f cover sem),
          ortc_quick law n (a + 2 ^ n) g (assigned choose S above) (rights w n a (r ∷ t)) (omega arith) (aligned-right n a d)
              (right w n a le d (r ∷ t) tw) (right_sem w n a le d (r ∷ t) tw f cover sem),
        )
