-- Each mode is a walk down the positions: the rewrites of modes 4 and 5, the maximal prefixes of mode 1, and the routes that mode 3 keeps.
use Prim.Native.Nat.{ℕ, zero, suc, ◌+◌, ◌-◌, ◌/◌, ◌^◌, ◌≤◌}
use mathlib.Core.Path.{◌≡◌, refl, sym, ap, ap₂, ◌∙◌}
use mathlib.Core.Bool.{Bool, true, false, cond, not, not-not}
use mathlib.Core.List.{List, [], ◌∷◌, ◌++◌}
use mathlib.Core.Logic.{inl, inr}
use native.Mathlib.Nat.{le_refl}
use native.Mathlib.Omega.{arith}
use lib.Dec.{eqb}
use borrow.Author.Tests.{lt-ltb, le-ltb, ltb-true, ltb-false}
use Rattle.theory.specs.Longest.{IsLongest}
use Rattle.theory.specs.Results.{In, throughout, prefix, maximal, sets, assigned, here, ortc, part, nearest, is_other, result, aggregate_set, aggregate_consistent_map, aggregate_map_drop, aggregate_map_fill}
use Rattle.theory.specs.Routes.{Route, Match, miss, hit, lookup, Answer, none, via, under, Aligned, held, answer, filled, Table, Member, head, Valid, matches, nil}
use Rattle.theory.proofs.Blocks.{pow_pos, aligned-zero, aligned-left, aligned-right, start_is, in→block}
use Rattle.theory.proofs.Kept.{is_shorter, is_kept, kept}
use Rattle.theory.proofs.Lists.{all_member, member_all}
use Rattle.theory.proofs.LongestMatch.{lookup_none, lookup_is, lookup-bits}
use Rattle.theory.proofs.Parts.{table-part, rest, lookup-part, member-part, member_rest, part_twice, part-whole, part_none, part-append}
use Rattle.theory.proofs.Preserve.{back}
use Rattle.theory.proofs.Routed.{matches_in}
use Rattle.positions.specs.Runs.{is_at, is_in, inside, own, or_else, cover_over}
use Rattle.positions.specs.Walk.{walk, state_of, state_at}
use Rattle.positions.specs.Walks.{ortc_out, ortc_next, maximal_out, maximal_next, is_same, entry_unless, consistent_map_out, consistent_map_next}
use Rattle.positions.proofs.Runs.{is_at_lem, is_in_lem, own_nested, AtMostOne, at_most_one, Half, half_nested, inside_splits, inside-walk}
use Rattle.positions.proofs.RunsNode.{cover-own}
use Rattle.positions.proofs.Slots.{reached_keeps, reached_nested, walk-agree, walk-nothing}

-- ---- Modes 4 and 5.

module _ (choose : List ℕ → ℕ) (w : ℕ) (f : ℕ → Answer) where
  -- A rewrite is the walk that hands down the assigned hops.
  pub ortc-walk : (n a : ℕ) (above : Answer) → ortc choose w f n a above ≡ walk (ortc_out choose w f) (ortc_next choose f) n a above
  unfolding ortc walk
  ortc-walk zero a above = refl
  ortc-walk (suc n) a above =
      let g : Answer = assigned choose (sets f (suc n) a) above in
      ap (λ (t : List Route). here choose w (sets f (suc n) a) (suc n) a above ++ t) (ap₂ ◌++◌ (ortc-walk n a g) (ortc-walk n (a + 2 ^ n) g))

-- ---- Mode 1.

module _ (w : ℕ) (p : ℕ → Bool) where
  -- The walk of mode 1.
  abbrev down : ℕ → ℕ → Bool → List Route
  down n a s = walk (maximal_out w p) (maximal_next p) n a s

  -- Below a covered position nothing is listed.
  pub maximal-covered : (n a : ℕ) → walk (maximal_out w p) (maximal_next p) n a true ≡ []
  maximal-covered n a =
      walk-nothing (maximal_out w p) (maximal_next p) n a true (λ k b u r.
      let e : u ≡ true = reached_keeps (maximal_next p) n a true (λ k b u. u ≡ true) (λ k b u q. (rw q, rw q)) refl r in
      rw e)

  -- The maximal prefixes are the walk that hands down whether a position is covered.
  pub maximal-walk : (n a : ℕ) → maximal w p n a ≡ walk (maximal_out w p) (maximal_next p) n a false
  unfolding maximal walk throughout
  maximal-walk zero a = refl
  maximal-walk (suc n) a = go (throughout p (suc n) a) (maximal-walk n a) (maximal-walk n (a + 2 ^ n))
    where
      go : (b : Bool) → maximal w p n a ≡ down n a false → maximal w p n (a + 2 ^ n) ≡ down n (a + 2 ^ n) false
          → cond b (prefix w (suc n) a ∷ []) (maximal w p n a ++ maximal w p n (a + 2 ^ n))
          ≡ cond b (prefix w (suc n) a ∷ []) [] ++ (down n a b ++ down n (a + 2 ^ n) b)
      go true l r = ap (λ (t : List Route). prefix w (suc n) a ∷ t) (sym (ap₂ ◌++◌ (maximal-covered n a) (maximal-covered n (a + 2 ^ n))))
      go false l r = ap₂ ◌++◌ l r

-- ---- Mode 3: the routes that it keeps.

-- What the routes shorter than k say of x.
abbrev pub overhead : ℕ → List Route → ℕ → ℕ → Answer
overhead w t k x = under none (lookup w (part (is_shorter k) t) x)

module _ (w : ℕ) {t : List Route} (table : Table w t) where
  -- Every route of a table lies in the position of all addresses.
  pub inside-whole : inside w w 0 t ≡ t
  inside-whole =
      part-whole (is_in w w 0) t (λ r m.
      let v : Valid w r = all_member table.valid m in
      (is_in_lem w w 0 r).1 (omega (arith, v.small)))

  module _ (n a b : ℕ) (le : suc n ≤ w) (d : Aligned (suc n) a) (h : Half n a b) where
    at_half : In (suc n) a b
    at_half = omega (arith, half_nested n a b h, pow_pos n)

    -- A route of the position's length that matches in it stands at it.
    at_match : (r : Route) → Member r t → r.len ≡ w - suc n → matches w r b ≡ true → Member r (part (is_at w (suc n) a) t)
    at_match r m e q =
        let v : Valid w r = all_member table.valid m in
        let z : w - r.len ≡ suc n = omega arith in
        let clean : Aligned (suc n) r.addr = rw z at v.clean in
        let i : In (suc n) r.addr b = rw z at ((matches_in w v b).0 q) in
        let same : r.addr ≡ a = sym (start_is (suc n) r.addr b clean i) ∙ start_is (suc n) a b d at_half in
        (member-part (is_at w (suc n) a) t).1 (m, (is_at_lem w (suc n) a r).1 (e, same))

    -- One step down: the position's own hop, or else what the shorter routes say.
    pub overhead_next : overhead w t (w - n) b ≡ or_else (own w (suc n) a t) (overhead w t (w - suc n) a)
    overhead_next = go (at_most_one w (suc n) a table)
      where
        upper : List Route
        upper = part (is_shorter (w - n)) t

        go : AtMostOne w (suc n) a (part (is_at w (suc n) a) t) → overhead w t (w - n) b ≡ or_else (own w (suc n) a t) (overhead w t (w - suc n) a)
        go (inl e) = rw e (ap (under none) (lookup-part w b (is_shorter (w - suc n)) upper free ∙ ap (λ (u : List Route). lookup w u b) twice ∙ bits))
          where
            free : lookup w (rest (is_shorter (w - suc n)) upper) b ≡ miss
            free =
                (lookup_none w (rest (is_shorter (w - suc n)) upper) b).1 (λ r m q.
                let u = member_rest (is_shorter (w - suc n)) upper m in
                let v = (member-part (is_shorter (w - n)) t).0 u.0 in
                let l : r.len ≡ w - suc n = omega (arith, ltb-false r.len (w - suc n) u.1, ltb-true r.len (w - n) v.1) in
                all_member {P = λ s. ⊥} nil (rw e at (at_match r v.0 l q)))

            twice : part (is_shorter (w - suc n)) upper ≡ part (is_shorter (w - suc n)) t
            twice = part_twice (is_shorter (w - suc n)) (is_shorter (w - n)) t (λ r q. lt-ltb r.len (w - n) (omega (arith, ltb-true r.len (w - suc n) q)))

            bits : lookup w (part (is_shorter (w - suc n)) t) b ≡ lookup w (part (is_shorter (w - suc n)) t) a
            bits =
                lookup-bits w (w - suc n) b a (member_all (part (is_shorter (w - suc n)) t) (λ r m.
                omega (arith, ltb-true r.len (w - suc n) ((member-part (is_shorter (w - suc n)) t).0 m).1)))
                (rw (back w (suc n) le) (in→block (suc n) a b d at_half))
        go (inr (r, e, l, q)) = rw e (ap (under none) (lookup_is w (table-part w (is_shorter (w - n)) table) b longest))
          where
            m : Member r t
            m = ((member-part (is_at w (suc n) a) t {r = r}).0 (rw e head)).0

            longest : IsLongest w upper b r
            longest =
                record {
                  member = (member-part (is_shorter (w - n)) t).1 (m, lt-ltb r.len (w - n) (omega arith));
                  matching = (matches_in w (all_member table.valid m) b).1 (rw (l, back w (suc n) le, q) at_half);
                  longest = λ s i z. omega (arith, ltb-true s.len (w - n) ((member-part (is_shorter (w - n)) t).0 i).1);
                }

-- A route is left out by the state exactly where it is not kept by the match that the state is of.
same_reads : (h : ℕ) (m : Match) → is_same h (under none m) ≡ not (is_other h m)
same_reads h miss = refl
same_reads h (hit k i) = sym (not-not (eqb i h))

module _ (w : ℕ) {t : List Route} (table : Table w t) where
  -- The route at a position.
  kept-own : (n a : ℕ) → part (is_kept w t) (part (is_at w n a) t) ≡ consistent_map_out w t n a (overhead w t (w - n) a)
  kept-own n a = go (at_most_one w n a table)
    where
      one : (r : Route) → r.len ≡ w - n → r.addr ≡ a
          → part (is_kept w t) (r ∷ []) ≡ entry_unless w n a (via r.hop) (overhead w t (w - n) a)
      one r l q = rw (← l, ← q, same_reads r.hop (nearest w t r)) (same (is_kept w t r))
        where
          same : (b : Bool) → cond b (r ∷ []) [] ≡ cond (not b) [] (r ∷ [])
          same true = refl
          same false = refl

      go : AtMostOne w n a (part (is_at w n a) t)
          → part (is_kept w t) (part (is_at w n a) t) ≡ consistent_map_out w t n a (overhead w t (w - n) a)
      go (inl e) = rw e
      go (inr (r, e, l, q)) = rw e (one r l q)

  -- The routes inside a position.
  kept-inside : (n a : ℕ) → n ≤ w → Aligned n a
      → part (is_kept w t) (inside w n a t) ≡ walk (consistent_map_out w t) (consistent_map_next w t) n a (overhead w t (w - n) a)
  unfolding walk
  kept-inside zero a le d =
      ap (part (is_kept w t)) (inside-walk (consistent_map_next w t) w zero a le d table none) ∙ kept-own zero a
  kept-inside (suc n) a le d =
      ap (part (is_kept w t)) (inside_splits w n a refl le d table)
      ∙ part-append (is_kept w t) (part (is_at w (suc n) a) t) (inside w n a t ++ inside w n (a + 2 ^ n) t)
      ∙ ap₂ ◌++◌ (kept-own (suc n) a)
      (part-append (is_kept w t) (inside w n a t) (inside w n (a + 2 ^ n) t)
      ∙ ap₂ ◌++◌ (kept-inside n a (omega arith) (aligned-left n a d) ∙ handed a (inl refl))
      (kept-inside n (a + 2 ^ n) (omega arith) (aligned-right n a d) ∙ handed (a + 2 ^ n) (inr refl)))
    where
      handed : (b : ℕ) → Half n a b
          → walk (consistent_map_out w t) (consistent_map_next w t) n b (overhead w t (w - n) b)
          ≡ walk (consistent_map_out w t) (consistent_map_next w t) n b (or_else (own w (suc n) a t) (overhead w t (w - suc n) a))
      handed b h = rw (overhead_next w table n a b le d h)

  -- The kept routes of a table are a walk.
  pub kept-walk : kept w t ≡ walk (consistent_map_out w t) (consistent_map_next w t) w 0 none
  kept-walk =
      ap (part (is_kept w t)) (sym (inside-whole w table)) ∙ kept-inside w 0 (le_refl w) (aligned-zero w)
      ∙ ap (walk (consistent_map_out w t) (consistent_map_next w t) w 0) nothing
    where
      nothing : overhead w t (w - w) 0 ≡ none
      nothing =
          let z : w - w ≡ 0 = omega arith in
          rw (z, part_none (is_shorter 0) t (λ r m. le-ltb r.len 0 (omega arith)))

module _ (w : ℕ) (t : List Route) (n a : ℕ) (s : Answer) where
  -- The walk reads the routes inside its position only.
  pub kept-walk-inside : walk (consistent_map_out w t) (consistent_map_next w t) n a s
      ≡ walk (consistent_map_out w (inside w n a t)) (consistent_map_next w (inside w n a t)) n a s
  kept-walk-inside =
      walk-agree (consistent_map_out w t) (consistent_map_out w (inside w n a t)) (consistent_map_next w t) (consistent_map_next w (inside w n a t)) n a s (λ k b u r.
      let e : own w k b t ≡ own w k b (inside w n a t) = sym (own_nested w (reached_nested (consistent_map_next w t) n a s r) t) in
      (rw e, rw e))

  -- With none there it is empty.
  pub kept-walk-nothing : inside w n a t ≡ [] → walk (consistent_map_out w t) (consistent_map_next w t) n a s ≡ []
  kept-walk-nothing e =
      kept-walk-inside
      ∙ ap (λ (u : List Route). walk (consistent_map_out w u) (consistent_map_next w u) n a s) e
      ∙ walk-nothing (consistent_map_out w []) (consistent_map_next w []) n a s (λ k b u r. refl)

module _ (w m a : ℕ) (t : List Route) where
  -- What it hands to a position of a node: what covers the position from above.
  pub consistent_map_state : (g : Answer) (l j : ℕ)
      → state_at (consistent_map_out w t) (consistent_map_next w t) m a g l j ≡ cover_over w m a t g l j
  unfolding state_of
  consistent_map_state g zero j = refl
  consistent_map_state g (suc l) j = rw (cover-own w m a t g l (j / 2), consistent_map_state g l (j / 2))

-- ---- The results of the modes, from the position of all addresses.

module _ (choose : List ℕ → ℕ) (w : ℕ) (t : List Route) where
  -- Mode 1.
  pub set_walk : result choose w aggregate_set t ≡ walk (maximal_out w (held w t)) (maximal_next (held w t)) w 0 false
  unfolding result
  set_walk = maximal-walk w (held w t) w 0

  -- Mode 3.
  pub consistent_map_walk : Table w t → result choose w aggregate_consistent_map t ≡ walk (consistent_map_out w t) (consistent_map_next w t) w 0 none
  unfolding result
  consistent_map_walk table = kept-walk w table

  -- Mode 4.
  pub drop-walk : result choose w aggregate_map_drop t ≡ walk (ortc_out choose w (answer w t)) (ortc_next choose (answer w t)) w 0 none
  unfolding result
  drop-walk = ortc-walk choose w (answer w t) w 0 none

  -- Mode 5.
  pub fill_walk : (d : ℕ)
      → result choose w (aggregate_map_fill d) t ≡ walk (ortc_out choose w (filled d (answer w t))) (ortc_next choose (filled d (answer w t))) w 0 none
  unfolding result
  fill_walk d = ortc-walk choose w (filled d (answer w t)) w 0 none
