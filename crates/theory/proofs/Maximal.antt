-- Mode 1: what a position's cover means, which prefixes are maximal, and that they are the rewrite of a map with the one hop 0.
use Prim.Native.Nat.{ℕ, zero, suc, ◌+◌, ◌-◌, ◌^◌, ◌≤◌, ◌<◌}
use mathlib.Core.Path.{◌≡◌, refl, sym, ap, ap₂, ◌∙◌}
use mathlib.Core.Bool.{Bool, true, false, cond, ◌&&◌, true≢false, Bool-set, and-eq-true_iff}
use mathlib.Core.List.{List, [], ◌∷◌, ◌++◌}
use mathlib.Core.Logic.{◌↔◌, ◌⊎◌, inl, inr, ⊎_elim}
use native.Mathlib.Nat.{le_refl, eq-or-lt_of_le}
use mathlib.Core.HLevel.{hedberg}
use native.Mathlib.Decide.{ℕ_discrete}
use native.Mathlib.Omega.{arith}
use Rattle.theory.specs.Shapes.{routed}
use Rattle.theory.specs.Results.{In, throughout, prefix, maximal, start_of, Maximal, unhopped, leaf, combine, sets, smallest, Chooses, here, ortc, whole, aggregate_set, aggregate_map_drop, result}
use Rattle.theory.specs.Routes.{Route, matches, held, Answer, none, via, answer, Aligned, Valid, All, nil, cons, Table, Member, head}
use Rattle.theory.proofs.Agree.{ortc-agree}
use Rattle.theory.proofs.Blocks.{pow_pos, aligned-zero, aligned-left, aligned-right, in_left, in_right, in_halves, start_is, same_start, in_nested}
use Rattle.theory.proofs.Chosen.{smallest_chooses}
use Rattle.theory.proofs.Lists.{all_append, all_map, all_member, member-left, member_right}
use Rattle.theory.proofs.Order.{hops, whole-valid, whole_ascending}
use Rattle.theory.proofs.Preserve.{has_one, back, answers}
use Rattle.theory.proofs.Quick.{ortc_uniform}
use Rattle.theory.proofs.Routed.{valid_prop, matches_in, held-answer, marked, routed-marked, Bare, answer-bare, all_unhopped, unhopped-bare, held-unhopped}

-- ---- Covered: each of the position's addresses.

module _ (p : ℕ → Bool) where
  throughout→each : (n a : ℕ) → throughout p n a ≡ true → (x : ℕ) → In n a x → p x ≡ true
  unfolding throughout
  throughout→each zero a e x i = ap p (omega arith) ∙ e
  throughout→each (suc n) a e x i =
      let both = (and-eq-true_iff (throughout p n a) (throughout p n (a + 2 ^ n))).0 e in
      ⊎_elim (throughout→each n a both.0 x) (throughout→each n (a + 2 ^ n) both.1 x) (in_halves n a x i)

  each→throughout : (n a : ℕ) → ((x : ℕ) → In n a x → p x ≡ true) → throughout p n a ≡ true
  unfolding throughout
  each→throughout zero a h = h a (omega arith)
  each→throughout (suc n) a h =
      (and-eq-true_iff (throughout p n a) (throughout p n (a + 2 ^ n))).1
      (each→throughout n a (λ x i. h x (in_left n a x i)), each→throughout n (a + 2 ^ n) (λ x i. h x (in_right n a x i)))

  -- A position is covered exactly when each of its addresses is.
  pub throughout-each : (n a : ℕ) → (throughout p n a ≡ true) ↔ ((x : ℕ) → In n a x → p x ≡ true)
  throughout-each n a = (throughout→each n a, each→throughout n a)

  -- A position that is not covered has an address that is not.
  pub throughout_not : (n a : ℕ) → throughout p n a ≡ false → (x : ℕ) × (In n a x × (p x ≡ false))
  unfolding throughout
  throughout_not zero a e = (a, (omega arith, e))
  throughout_not (suc n) a e = go (throughout p n a) e (throughout_not n a) (throughout_not n (a + 2 ^ n))
    where
      go : (b : Bool) → (b && throughout p n (a + 2 ^ n)) ≡ false → (b ≡ false → (x : ℕ) × (In n a x × (p x ≡ false)))
          → (throughout p n (a + 2 ^ n) ≡ false → (x : ℕ) × (In n (a + 2 ^ n) x × (p x ≡ false))) → (x : ℕ) × (In (suc n) a x × (p x ≡ false))
      go false q l r = let z = l refl in (z.0, (in_left n a z.0 z.1.0, z.1.1))
      go true q l r = let z = r q in (z.0, (in_right n a z.0 z.1.0, z.1.1))

-- A prefix is covered exactly when each address that it matches is.
pub covered-matches : (w : ℕ) (p : ℕ → Bool) {r : Route} → Valid w r
    → (throughout p (w - r.len) r.addr ≡ true) ↔ ((x : ℕ) → matches w r x ≡ true → p x ≡ true)
covered-matches w p {r} v = (
  λ e x m. (throughout-each p (w - r.len) r.addr).0 e x ((matches_in w v x).0 m),
  λ h. (throughout-each p (w - r.len) r.addr).1 (λ x i. h x ((matches_in w v x).1 i)),
)

-- ---- Tests that agree on a position's addresses have the same maximal prefixes there.

module _ (p q : ℕ → Bool) where
  pub throughout-agree : (n a : ℕ) → ((x : ℕ) → In n a x → p x ≡ q x) → throughout p n a ≡ throughout q n a
  unfolding throughout
  throughout-agree zero a h = h a (omega arith)
  throughout-agree (suc n) a h =
      ap₂ ◌&&◌ (throughout-agree n a (λ x i. h x (in_left n a x i))) (throughout-agree n (a + 2 ^ n) (λ x i. h x (in_right n a x i)))

  pub maximal-agree : (w n a : ℕ) → ((x : ℕ) → In n a x → p x ≡ q x) → maximal w p n a ≡ maximal w q n a
  unfolding maximal
  maximal-agree w zero a h = rw (h a (omega arith))
  maximal-agree w (suc n) a h =
      rw (
        throughout-agree (suc n) a h,
        maximal-agree w n a (λ x i. h x (in_left n a x i)),
        maximal-agree w n (a + 2 ^ n) (λ x i. h x (in_right n a x i)),
      )

-- ---- Maximal prefixes are the rewrite, with holes, of the map that gives each address of the set the hop 0.

marked_both : (b c : Bool) → combine (leaf (marked b)) (leaf (marked c)) ≡ leaf (marked (b && c))
marked_both true true = refl
marked_both true false = refl
marked_both false c = refl

sets-marked : (p : ℕ → Bool) (n a : ℕ) → sets (λ x. marked (p x)) n a ≡ leaf (marked (throughout p n a))
unfolding sets throughout
sets-marked p zero a = refl
sets-marked p (suc n) a =
    ap₂ combine (sets-marked p n a) (sets-marked p n (a + 2 ^ n)) ∙ marked_both (throughout p n a) (throughout p n (a + 2 ^ n))

module _ (choose : List ℕ → ℕ) (law : Chooses choose) (w : ℕ) (p : ℕ → Bool) where
  -- The one hop is chosen.
  here-marked : (b : Bool) (n a : ℕ) → here choose w (leaf (marked b)) n a none ≡ cond b (prefix w n a ∷ []) []
  here-marked true n a = rw (has_one (choose (0 ∷ [])) 0 (law 0 []))
  here-marked false n a = refl

  -- The maximal prefixes of a position are its rewrite.
  pub maximal_is_ortc : (n a : ℕ) → maximal w p n a ≡ ortc choose w (λ x. marked (p x)) n a none
  unfolding maximal ortc sets
  maximal_is_ortc zero a = sym (here-marked (p a) zero a)
  maximal_is_ortc (suc n) a = go (throughout p (suc n) a) refl (maximal_is_ortc n a) (maximal_is_ortc n (a + 2 ^ n))
    where
      f : ℕ → Answer
      f x = marked (p x)

      go : (b : Bool) → throughout p (suc n) a ≡ b → maximal w p n a ≡ ortc choose w f n a none
          → maximal w p n (a + 2 ^ n) ≡ ortc choose w f n (a + 2 ^ n) none
          → cond b (prefix w (suc n) a ∷ []) (maximal w p n a ++ maximal w p n (a + 2 ^ n)) ≡ ortc choose w f (suc n) a none
      go true e l r =
          sym (
          ortc_uniform choose w law f (via 0) (suc n) a none (λ x i. ap marked ((throughout-each p (suc n) a).0 e x i))
          ∙ here-marked true (suc n) a
          )
      go false e l r = rw (sets-marked p (suc n) a, e) (ap₂ ◌++◌ l r)

-- ---- So the laws of the rewrite are laws of mode 1; any choice serves, here the smallest.

module _ (w : ℕ) where
  -- The maximal prefixes of a set of addresses, as a rewrite.
  as_whole : (p : ℕ → Bool) → maximal w p w 0 ≡ whole smallest w (λ x. marked (p x))
  as_whole p = maximal_is_ortc smallest smallest_chooses w p w 0

  -- They hold exactly the addresses of the set.
  pub maximal_holds : (p : ℕ → Bool) (x : ℕ) → x < 2 ^ w → held w (maximal w p w 0) x ≡ p x
  maximal_holds p x lt =
      held-answer w x (maximal w p w 0)
      ∙ ap (λ (t : List Route). routed (answer w t x)) (as_whole p)
      ∙ ap routed (answers smallest w smallest_chooses (λ x. marked (p x)) x lt)
      ∙ routed-marked (p x)

  -- Two sets have the same maximal prefixes exactly when they have the same addresses.
  pub maximal_alike : (p q : ℕ → Bool) → (maximal w p w 0 ≡ maximal w q w 0) ↔ ((x : ℕ) → x < 2 ^ w → p x ≡ q x)
  maximal_alike p q = (
    λ e x lt. sym (maximal_holds p x lt) ∙ ap (λ (t : List Route). held w t x) e ∙ maximal_holds q x lt,
    λ h. maximal-agree p q w w 0 (λ x i. h x (omega arith)),
  )

  -- The maximal prefixes of the addresses that they hold are they themselves.
  pub maximal_again : (p : ℕ → Bool) → maximal w (held w (maximal w p w 0)) w 0 ≡ maximal w p w 0
  maximal_again p = (maximal_alike (held w (maximal w p w 0)) p).1 (maximal_holds p)

  -- They are a table.
  pub maximal-table : (p : ℕ → Bool) → Table w (maximal w p w 0)
  maximal-table p = rw (as_whole p) (record { valid = whole-valid smallest w _; order = whole_ascending smallest w _ })

  -- Their hops are 0.
  pub maximal-bare : (p : ℕ → Bool) → All Bare (maximal w p w 0)
  maximal-bare p =
      rw (as_whole p) (all_map (λ r z. bare (p z.0) z.1.1) (hops smallest w smallest_chooses (λ x. marked (p x)) w 0 none))
    where
      bare : (b : Bool) {h : ℕ} → marked b ≡ via h → h ≡ 0
      bare true e = cc
      bare false e = cc

  module _ (choose : List ℕ → ℕ) (law : Chooses choose) (t : List Route) where
    -- Mode 1 is mode 4 on the members with hop 0.
    pub set_is_drop : result choose w aggregate_set t ≡ result choose w aggregate_map_drop (unhopped t)
    unfolding result
    set_is_drop =
        maximal_is_ortc choose law w (held w t) w 0
        ∙ ortc-agree (λ x. marked (held w t x)) (answer w (unhopped t)) choose w w 0 none
        (λ x i. ap marked (sym (held-unhopped w x t)) ∙ sym (answer-bare w x (all_unhopped t)))

    -- On a set itself.
    pub set_is_drop_bare : All Bare t → result choose w aggregate_set t ≡ result choose w aggregate_map_drop t
    set_is_drop_bare h = set_is_drop ∙ ap (result choose w aggregate_map_drop) (unhopped-bare h)

-- ---- Which prefixes are listed.

module _ (w : ℕ) (p : ℕ → Bool) where
  -- The position (k, b) is one of (n, a), p holds throughout it, and not throughout the next larger one in (n, a).
  record Largest (n a k b : ℕ) : Type 0 where
    inside : k ≤ n
    at : In n a b
    aligned : Aligned k b
    covered : throughout p k b ≡ true
    widest : k < n → throughout p (suc k) (start_of (suc k) b) ≡ false

  -- r is the prefix of such a position.
  abbrev Found : ℕ → ℕ → Route → Type 0
  Found n a r = (k : ℕ) × ((b : ℕ) × (Largest n a k b × (r ≡ prefix w k b)))

  -- A covered position is its own largest.
  itself : (n a : ℕ) → Aligned n a → throughout p n a ≡ true → All (Found n a) (prefix w n a ∷ [])
  itself n a d e =
      cons (n, (a, (one, refl))) nil
    where
      one : Largest n a n a
      one = record { inside = le_refl n; at = omega (arith, pow_pos n); aligned = d; covered = e; widest = λ lt. absurd (omega arith) }

  -- What is found in a half of a position that is not covered is found in the position.
  outward : (n a c : ℕ) → Aligned (suc n) a → throughout p (suc n) a ≡ false → ((x : ℕ) → In n c x → In (suc n) a x)
      → (r : Route) → Found n c r → Found (suc n) a r
  outward n a c d e half r (k, (b, (l, q))) =
      (k, (b, (up, q)))
    where
      go : (k ≡ n) ⊎ (k < n) → throughout p (suc k) (start_of (suc k) b) ≡ false
      go (inl z) = rw (z, start_is (suc n) a b d (half b l.at)) e
      go (inr lt) = l.widest lt

      up : Largest (suc n) a k b
      up =
          record {
            inside = omega (arith, l.inside);
            at = half b l.at;
            aligned = l.aligned;
            covered = l.covered;
            widest = λ lt. go (eq-or-lt_of_le l.inside);
          }

  -- Every listed route is found.
  all_found : (n a : ℕ) → Aligned n a → All (Found n a) (maximal w p n a)
  unfolding maximal
  all_found zero a d = go (p a) refl
    where
      go : (b : Bool) → p a ≡ b → All (Found zero a) (cond b (prefix w zero a ∷ []) [])
      go true e = itself zero a d (unfold throughout in e)
      go false e = nil
  all_found (suc n) a d =
      go (throughout p (suc n) a) refl (all_found n a (aligned-left n a d)) (all_found n (a + 2 ^ n) (aligned-right n a d))
    where
      go : (b : Bool) → throughout p (suc n) a ≡ b → All (Found n a) (maximal w p n a) → All (Found n (a + 2 ^ n)) (maximal w p n (a + 2 ^ n))
          → All (Found (suc n) a) (cond b (prefix w (suc n) a ∷ []) (maximal w p n a ++ maximal w p n (a + 2 ^ n)))
      go true e l r = itself (suc n) a d e
      go false e l r =
          all_append (all_map (outward n a a d e (in_left n a)) l) (all_map (outward n a (a + 2 ^ n) d e (in_right n a)) r)

  -- Every position inside a covered one is covered, so none of them is a largest one.
  not_inside : (n a k b : ℕ) → Aligned n a → Largest n a k b → throughout p n a ≡ true → k < n → ⊥
  not_inside n a k b d l e lt =
      let z = throughout_not p (suc k) (start_of (suc k) b) (l.widest lt) in
      let i : In n a z.0 = in_nested (suc k) n a b z.0 lt d l.at z.1.0 in
      true≢false (sym ((throughout-each p n a).0 e z.0 i) ∙ z.1.1)

  -- A largest one of a position is one of the half that it is in.
  inward : (n a c k b : ℕ) → k ≤ n → In n c b → Largest (suc n) a k b → Largest n c k b
  inward n a c k b le i l =
      record { inside = le; at = i; aligned = l.aligned; covered = l.covered; widest = λ lt. l.widest (omega arith) }

  -- Every largest one is listed.
  listed : (n a k b : ℕ) → Aligned n a → Largest n a k b → Member (prefix w k b) (maximal w p n a)
  unfolding maximal
  listed zero a k b d l =
      let ek : k ≡ 0 = omega (arith, l.inside) in
      let eb : b ≡ a = omega (arith, l.at) in
      let e : p a ≡ true = (throughout-each p k b).0 l.covered a (omega (arith, pow_pos k)) in
      rw (ek, eb, e) head
  listed (suc n) a k b d l =
      go (throughout p (suc n) a) refl (eq-or-lt_of_le l.inside) (listed n a k b (aligned-left n a d)) (listed n (a + 2 ^ n) k b (aligned-right n a d))
    where
      same : k ≡ suc n → b ≡ a
      same q = same_start (suc n) a b d (rw q at l.aligned) l.at

      go : (c : Bool) → throughout p (suc n) a ≡ c → (k ≡ suc n) ⊎ (k < suc n) → (Largest n a k b → Member (prefix w k b) (maximal w p n a))
          → (Largest n (a + 2 ^ n) k b → Member (prefix w k b) (maximal w p n (a + 2 ^ n)))
          → Member (prefix w k b) (cond c (prefix w (suc n) a ∷ []) (maximal w p n a ++ maximal w p n (a + 2 ^ n)))
      go true e (inl q) lo hi = rw (q, same q) head
      go true e (inr lt) lo hi = absurd (not_inside (suc n) a k b d l e lt)
      go false e (inl q) lo hi = absurd (true≢false (sym (rw (q, same q) at l.covered) ∙ e))
      go false e (inr lt) lo hi =
          ⊎_elim (λ i. member-left (maximal w p n (a + 2 ^ n)) (lo (inward n a a k b (omega arith) i l)))
          (λ i. member_right (maximal w p n a) (hi (inward n a (a + 2 ^ n) k b (omega arith) i l))) (in_halves n a b l.at)

  found-maximal : (r : Route) → Found w 0 r → Maximal w p r
  found-maximal r (k, (b, (l, e))) = rw e (go (back w k l.inside))
    where
      go : w - (w - k) ≡ k → Maximal w p (prefix w k b)
      go q =
          record {
            valid = record { short = omega arith; clean = rw q l.aligned; small = omega (arith, l.at) };
            bare = refl;
            covered = rw q l.covered;
            widest = λ lt. rw q (l.widest (omega arith));
          }

  maximal-member : (r : Route) → Maximal w p r → Member r (maximal w p w 0)
  maximal-member r m =
      let e : r ≡ prefix w (w - r.len) r.addr =
      ap₂ (λ (k h : ℕ). record { addr = r.addr; len = k; hop = h }) (sym (back w r.len m.valid.short)) m.bare in
      rw e (listed w 0 (w - r.len) r.addr (aligned-zero w) one)
    where
      one : Largest w 0 (w - r.len) r.addr
      one =
          record {
            inside = omega arith;
            at = omega (arith, m.valid.small);
            aligned = m.valid.clean;
            covered = m.covered;
            widest = λ lt. m.widest (omega arith);
          }

  -- A route is listed exactly when it is a maximal prefix.
  pub maximal-listed : (r : Route) → Member r (maximal w p w 0) ↔ Maximal w p r
  maximal-listed r = (λ m. found-maximal r (all_member (all_found w 0 (aligned-zero w)) m), maximal-member r)

-- A route is maximal in one way only.
pub maximal_prop : (w : ℕ) (p : ℕ → Bool) (r : Route) → IsProp (Maximal w p r)
maximal_prop w p r l m =
    λ i.
    record {
      valid = valid_prop w r l.valid m.valid i;
      bare = hedberg ℕ_discrete r.hop 0 l.bare m.bare i;
      covered = Bool-set _ _ l.covered m.covered i;
      widest = λ lt. Bool-set _ _ (l.widest lt) (m.widest lt) i;
    }
