-- The rewrite is in table order, its routes are well formed, and its hops are hops of f.
use Prim.Native.Nat.{ℕ, zero, suc, ◌+◌, ◌-◌, ◌^◌, ◌≤◌, ◌<◌}
use mathlib.Core.Path.{◌≡◌, refl, sym, ap₂, ◌∙◌}
use mathlib.Core.Bool.{Bool, true, false, cond}
use mathlib.Core.List.{List, [], ◌∷◌, ◌++◌}
use mathlib.Core.Logic.{◌↔◌, ◌⊎◌, inl, inr, ⊎_elim}
use native.Mathlib.Nat.{eq-or-lt_of_le}
use native.Mathlib.Omega.{arith}
use native.Mathlib.Nat.{le_refl}
use Rattle.theory.specs.Shapes.{Within}
use Rattle.theory.specs.Results.{In, Cand, hole, of, sets, allowed, Chooses, assigned, here, ortc, whole}
use Rattle.theory.specs.Routes.{Route, Answer, none, via, Aligned, Valid, All, nil, cons, Before, Ascending, empty, first, Member, head, later}
use Rattle.theory.proofs.Blocks.{pow_pos, aligned-zero, aligned-left, aligned-right, in_left, in_right, aligned_down, next-block}
use Rattle.theory.proofs.Hops.{some-chosen, Held, sets-held}
use Rattle.theory.proofs.Lists.{all_append, all_map, all_member, member-cons}
use Rattle.theory.proofs.Ordered.{not_both, ascending_ordered, ordered_ascending, ordered_append}
use Rattle.theory.proofs.Preserve.{ortc-within}

-- Table order is transitive.
pub before_trans : (r s u : Route) → Before r s → Before s u → Before r u
before_trans r s u (inl a) (inl b) = inl (omega arith)
before_trans r s u (inl a) (inr b) = inl (omega arith)
before_trans r s u (inr a) (inl b) = inl (omega arith)
before_trans r s u (inr a) (inr b) = inr (a.0 ∙ b.0, omega arith)

-- Lists in table order with the same routes are the same.
pub same_routes : {s t : List Route} → Ascending s → Ascending t → ((r : Route) → Member r s ↔ Member r t) → s ≡ t
same_routes empty empty k = refl
same_routes empty (first {r = q} c o) k = absurd (all_member {P = λ x. ⊥} nil ((k q).1 head))
same_routes (first {r = r} b o) empty k = absurd (all_member {P = λ x. ⊥} nil ((k r).0 head))
same_routes (first {r = r} {t = s} b o) (first {r = q} {t = t} c u) k =
    ap₂ ◌∷◌ same
    (same_routes o u
    (λ x. (λ m. behind (rw same at (all_member b m)) ((k x).0 (later m)), λ m. behind (rw (← same) at (all_member c m)) ((k x).1 (later m)))))
  where
    same : r ≡ q
    same = go (member-cons ((k r).0 head)) (member-cons ((k q).1 head))
      where
        go : (r ≡ q) ⊎ Member r t → (q ≡ r) ⊎ Member q s → r ≡ q
        go (inl e) m = e
        go (inr m) (inl e) = sym e
        go (inr m) (inr n) = absurd (not_both q r (all_member c m) (all_member b n))

    -- What stands behind a route is not the route.
    behind : {a x : Route} {l : List Route} → Before a x → Member x (a ∷ l) → Member x l
    behind {a} {x} {l} h m = ⊎_elim (λ e. let z : Before a a = rw e at h in absurd (not_both a a z z)) (λ n. n) (member-cons m)

pub valid-within : (w : ℕ) (r : Route) → Valid w r → Within w w 0 r
valid-within w r v =
    record {
      low = omega arith;
      high =
          omega (
            arith,
            next-block (w - r.len) r.addr (2 ^ w) v.clean
                (aligned_down (w - r.len) w (2 ^ w) (omega arith) (1, omega arith)) v.small,
          );
      deep = omega arith;
      short = v.short;
      aligned = v.clean;
    }

pub within-valid : (w : ℕ) (r : Route) → Within w w 0 r → Valid w r
within-valid w r i = record { short = i.short; clean = i.aligned; small = omega (arith, pow_pos (w - r.len)) }

pub ascending_append : {s t : List Route} → Ascending s → Ascending t → All (λ r. All (Before r) t) s → Ascending (s ++ t)
ascending_append s q p = ordered_ascending (ordered_append Before (ascending_ordered s) (ascending_ordered q) p)

all_every : {P : Route → Type 0} → ((r : Route) → P r) → (t : List Route) → All P t
all_every k [] = nil
all_every k (r ∷ t) = cons (k r) (all_every k t)

module _ (choose : List ℕ → ℕ) (w : ℕ) where
  here_ascending : (S : Cand) (n a : ℕ) (above : Answer) → Ascending (here choose w S n a above)
  here_ascending hole n a above = empty
  here_ascending (of s) n a above = go (allowed above s)
    where
      go : (b : Bool) → Ascending (cond b [] (record { addr = a; len = w - n; hop = choose s } ∷ []))
      go true = empty
      go false = first nil empty

  here-before : (S : Cand) (n a : ℕ) (above : Answer) (t : List Route)
      → ((h : ℕ) → All (Before (record { addr = a; len = w - n; hop = h })) t) → All (λ r. All (Before r) t) (here choose w S n a above)
  here-before hole n a above t p = nil
  here-before (of s) n a above t p = go (allowed above s)
    where
      go : (b : Bool) → All (λ r. All (Before r) t) (cond b [] (record { addr = a; len = w - n; hop = choose s } ∷ []))
      go true = nil
      go false = cons (p (choose s)) nil

  before-left : (n a h : ℕ) → suc n ≤ w → (r : Route) → Within w n a r → Before (record { addr = a; len = w - suc n; hop = h }) r
  before-left n a h le r i = go (eq-or-lt_of_le i.low)
    where
      go : (a ≡ r.addr) ⊎ (a < r.addr) → Before (record { addr = a; len = w - suc n; hop = h }) r
      go (inl e) = inr (e, omega arith)
      go (inr lt) = inl lt

  before-right : (n a h : ℕ) (r : Route) → Within w n (a + 2 ^ n) r → Before (record { addr = a; len = w - suc n; hop = h }) r
  before-right n a h r i = inl (omega (arith, pow_pos n))

  before_across : (n a : ℕ) (r s : Route) → Within w n a r → Within w n (a + 2 ^ n) s → Before r s
  before_across n a r s i j = inl (omega (arith, pow_pos (w - r.len)))

  pub ascending : (f : ℕ → Answer) (n a : ℕ) (above : Answer) → n ≤ w → Aligned n a → Ascending (ortc choose w f n a above)
  unfolding ortc
  ascending f zero a above le d = here_ascending (sets f zero a) zero a above
  ascending f (suc n) a above le d =
      let g : Answer = assigned choose (sets f (suc n) a) above in
      let l : All (Within w n a) (ortc choose w f n a g) = ortc-within choose w f n a g (omega arith) (aligned-left n a d) in
      let r : All (Within w n (a + 2 ^ n)) (ortc choose w f n (a + 2 ^ n) g) =
      ortc-within choose w f n (a + 2 ^ n) g (omega arith) (aligned-right n a d) in
      ascending_append (here_ascending (sets f (suc n) a) (suc n) a above)
      (ascending_append (ascending f n a g (omega arith) (aligned-left n a d))
      (ascending f n (a + 2 ^ n) g (omega arith) (aligned-right n a d))
      (all_map (λ s i. all_map (λ u j. before_across n a s u i j) r) l))
      (here-before (sets f (suc n) a) (suc n) a above _
      (λ h. all_append (all_map (before-left n a h le) l) (all_map (before-right n a h) r)))

  -- Each hop is that of an address of the position.
  abbrev pub HopOf : (ℕ → Answer) → ℕ → ℕ → Route → Type 0
  HopOf f n a r = (x : ℕ) × (In n a x × (f x ≡ via r.hop))

  module _ (law : Chooses choose) (f : ℕ → Answer) where
    here-hops : (S : Cand) (n a : ℕ) (above : Answer) → Held f n a S → All (HopOf f n a) (here choose w S n a above)
    here-hops hole n a above p = nil
    here-hops (of s) n a above p = go (allowed above s)
      where
        go : (b : Bool) → All (HopOf f n a) (cond b [] (record { addr = a; len = w - n; hop = choose s } ∷ []))
        go true = nil
        go false = cons (p.1 (choose s) (some-chosen choose law s p.0)) nil

    pub hops : (n a : ℕ) (above : Answer) → All (HopOf f n a) (ortc choose w f n a above)
    unfolding ortc
    hops zero a above = here-hops (sets f zero a) zero a above (sets-held f zero a)
    hops (suc n) a above =
        let g : Answer = assigned choose (sets f (suc n) a) above in
        all_append (here-hops (sets f (suc n) a) (suc n) a above (sets-held f (suc n) a))
        (all_append (all_map (λ r z. (z.0, (in_left n a z.0 z.1.0, z.1.1))) (hops n a g))
        (all_map (λ r z. (z.0, (in_right n a z.0 z.1.0, z.1.1))) (hops n (a + 2 ^ n) g)))

  -- A rewrite is a table: its routes are valid and in order.
  pub whole-valid : (f : ℕ → Answer) → All (Valid w) (whole choose w f)
  whole-valid f = all_map (within-valid w) (ortc-within choose w f w 0 none (le_refl w) (aligned-zero w))

  pub whole_ascending : (f : ℕ → Answer) → Ascending (whole choose w f)
  whole_ascending f = ascending f w 0 none (le_refl w) (aligned-zero w)
