-- Mode 1's result is the only set table of its addresses that is as short. Routes that are as few, in whatever order and with whatever hops, have its prefixes.
-- Over every width.
use Prim.Native.Nat.{ℕ, zero, suc, ◌+◌, ◌-◌, ◌^◌, ◌≤◌, ◌<◌}
use mathlib.Core.Path.{◌≡◌, refl, sym, ap, ◌∙◌}
use mathlib.Core.Bool.{Bool, true, false, cond, true≢false}
use mathlib.Core.List.{List, [], ◌∷◌, ◌++◌}
use mathlib.Core.Logic.Iff
use mathlib.Core.Logic.{◌↔◌, ⊎_elim}
use native.Mathlib.Nat.{le_refl}
use native.Mathlib.Decide.{dec_lt}
use native.Mathlib.Omega.{arith}
use lib.ListN.{length, length-append}
use lib.Pow.{pow-lt}
use borrow.Author.Tests.{eqb-true}
use Rattle.theory.specs.Shapes.{Within}
use Rattle.theory.specs.Results.{In, unhopped, throughout, prefix, maximal, aggregate_set, result}
use Rattle.theory.specs.Routes.{Route, matches, held, Match, miss, hit, lookup, Answer, none, via, under, answer, Aligned, All, nil, cons, Before, Ascending, empty, first, Table, Member}
use Rattle.theory.specs.Shortest.{Serves}
use Rattle.theory.proofs.Blocks.{pow_pos, aligned-zero, aligned-left, aligned-right, block→in}
use Rattle.theory.proofs.Computed.{valid-unhopped}
use Rattle.theory.proofs.Halves.{is_low, below, lefts, rights, handed, left, right, below_sem, left_sem, right_sem}
use Rattle.theory.proofs.Lists.{all_map, member-left, member_right, member-append}
use Rattle.theory.proofs.Maximal.{throughout-each, maximal-table}
use Rattle.theory.proofs.Order.{same_routes, valid-within}
use Rattle.theory.proofs.Parts.{length_parts, all_part, all_rest, member-part, member_rest, in_rest, rest_all, of_len}
use Rattle.theory.proofs.Routed.{marked, Bare, all_unhopped, length-unhopped}
use Rattle.theory.proofs.Shortest.{answer-unhopped, fewest}

-- A hop handed down answers.
handed_down : (h : ℕ) (m : Match) (b : Bool) → under (via h) m ≡ marked b → b ≡ true
handed_down h m true e = refl
handed_down h miss false e = let z : ◌≡◌ {A = ℕ} 0 1 = cc in absurd (omega arith)
handed_down h (hit k i) false e = let z : ◌≡◌ {A = ℕ} 0 1 = cc in absurd (omega arith)

alike : (r : Route) {s t : List Route} → s ≡ t → Member r s ↔ Member r t
alike r e = rw e Iff.rfl

none_left : (t : List Route) → length t ≤ 0 → t ≡ []
none_left [] le = refl
none_left (r ∷ t) le = absurd (omega arith)

module _ (w : ℕ) (p : ℕ → Bool) where
  -- One route with hop 0 that holds a whole position is the position's prefix.
  whole_only : (n a : ℕ) {t : List Route} → n ≤ w → All (Within w n a) t → All Bare t → ((x : ℕ) → In n a x → answer w t x ≡ via 0) → length t ≤ 1
      → t ≡ prefix w n a ∷ []
  whole_only n a le nil b h few = let e = h a (omega (arith, pow_pos n)) in let z : ◌≡◌ {A = ℕ} 0 1 = cc in absurd (omega arith)
  whole_only n a le (cons i (cons j js)) b h few = absurd (omega arith)
  whole_only n a le (cons {r = r} i nil) (cons b nil) h few = ap (λ (q : Route). q ∷ []) same
    where
      holds : (x : ℕ) → In n a x → In (w - r.len) r.addr x
      holds x j = go (matches w r x) refl (h x j)
        where
          go : (c : Bool) → matches w r x ≡ c → answer w (r ∷ []) x ≡ via 0 → In (w - r.len) r.addr x
          go true e f = block→in (w - r.len) r.addr x i.aligned (eqb-true _ _ e)
          go false e f = let z : ◌≡◌ {A = ℕ} 0 1 = cc (rw e at f) in absurd (omega arith)

      start : r.addr ≡ a
      start = omega (arith, holds a (omega (arith, pow_pos n)), i.low)

      size : Dec (w - r.len < n) → r.len ≡ w - n
      size (yes lt) = absurd (omega (arith, start, holds (a + 2 ^ (w - r.len)) (omega (arith, pow-lt lt))))
      size (no ge) = omega (arith, i.deep, i.short)

      same : r ≡ prefix w n a
      same = rw (← start, ← size (dec_lt (w - r.len) n), ← b)

  -- The routes t, where they hold what passes p in the position and are as few as its maximal prefixes, are these prefixes, in whatever order.
  abbrev Alone : ℕ → ℕ → List Route → Type 0
  Alone n a t =
      ((x : ℕ) → In n a x → answer w t x ≡ marked (p x)) → length t ≤ length (maximal w p n a) → (r : Route) → Member r t ↔ Member r (maximal w p n a)

  -- So it is with hop 0. A position that p does not fill has no route at its top; the routes of each half are no fewer than its maximal prefixes, and in
  -- all as few: so they are as few in each half.
  only : (n a : ℕ) {t : List Route} → n ≤ w → Aligned n a → All (Within w n a) t → All Bare t → Alone n a t
  unfolding maximal
  only zero a {t} le d tw bare sem few r = go (p a) refl few
    where
      go : (b : Bool) → p a ≡ b → length t ≤ length (cond b (prefix w zero a ∷ []) []) → Member r t ↔ Member r (cond b (prefix w zero a ∷ []) [])
      go true e k = alike r (whole_only zero a le tw bare (λ x i. let q : x ≡ a = omega arith in rw q (sem a (omega arith) ∙ ap marked e)) k)
      go false e k = alike r (none_left t k)
  only (suc n) a {t} le d tw bare sem few r =
      go (throughout p (suc n) a) refl few
      (only n a (omega arith) (aligned-left n a d) (left w n a le d t tw) (all_part (is_low n a) (λ r b e. b) plain))
      (only n (a + 2 ^ n) (omega arith) (aligned-right n a d) (right w n a le d t tw) (all_rest (is_low n a) (λ r b e. b) plain))
    where
      f : ℕ → Answer
      f x = marked (p x)

      plain : All Bare (below w n t)
      plain = all_rest (of_len (w - suc n)) (λ r b e. b) bare

      L : List Route
      L = maximal w p n a

      R : List Route
      R = maximal w p n (a + 2 ^ n)

      -- A route of t is one of the left half or of the right, where t has none at its top.
      split : below w n t ≡ t → (Member r (lefts w n a t) ↔ Member r L) → (Member r (rights w n a t) ↔ Member r R) → Member r t ↔ Member r (L ++ R)
      split all l h = (
        λ m. to (is_low n a r) refl (rw all m),
        λ m. rw all at (⊎_elim (λ k. ((member-part (is_low n a) (below w n t)).0 (l.1 k)).0)
            (λ k. (member_rest (is_low n a) (below w n t) (h.1 k)).0) (member-append L m)),
      )
        where
          to : (b : Bool) → is_low n a r ≡ b → Member r (below w n t) → Member r (L ++ R)
          to true e m = member-left R (l.0 ((member-part (is_low n a) (below w n t)).1 (m, e)))
          to false e m = member_right L (h.0 (in_rest (is_low n a) m e))

      halved : (v : Answer) → handed w n a none t ≡ v → throughout p (suc n) a ≡ false → length t ≤ length (L ++ R)
          → Alone n a (lefts w n a t) → Alone n (a + 2 ^ n) (rights w n a t) → Member r t ↔ Member r (L ++ R)
      halved (via h) q e k l s =
          let full : (x : ℕ) → In (suc n) a x → p x ≡ true =
          λ x i. handed_down h (lookup w (below w n t) x) (p x) (rw q at (below_sem w n a le d t tw f none sem x i)) in
          absurd (true≢false (sym ((throughout-each p (suc n) a).1 full) ∙ e))
      halved none q e k l s =
          let ls : (x : ℕ) → In n a x → answer w (lefts w n a t) x ≡ f x = λ x i. rw q at (left_sem w n a le d t tw f none sem x i) in
          let rs : (x : ℕ) → In n (a + 2 ^ n) x → answer w (rights w n a t) x ≡ f x = λ x i. rw q at (right_sem w n a le d t tw f none sem x i) in
          let fl = fewest w p n a (omega arith) (aligned-left n a d) (left w n a le d t tw) ls in
          let fr = fewest w p n (a + 2 ^ n) (omega arith) (aligned-right n a d) (right w n a le d t tw) rs in
          let top = length_parts (of_len (w - suc n)) t in
          let low = length_parts (is_low n a) (below w n t) in
          let sum = length-append L R in
          split (rest_all (of_len (w - suc n)) t (omega arith)) (l ls (omega arith) r) (s rs (omega arith) r)

      go : (b : Bool) → throughout p (suc n) a ≡ b → length t ≤ length (cond b (prefix w (suc n) a ∷ []) (L ++ R))
          → Alone n a (lefts w n a t) → Alone n (a + 2 ^ n) (rights w n a t) → Member r t ↔ Member r (cond b (prefix w (suc n) a ∷ []) (L ++ R))
      go true e k l s = alike r (whole_only (suc n) a le tw bare (λ x i. sem x i ∙ ap marked ((throughout-each p (suc n) a).0 e x i)) k)
      go false e k l s = halved (handed w n a none t) refl e k l s

-- Routes of the same addresses, in whatever order and with whatever hops, that are as few as mode 1's result have just its prefixes.
pub set_prefixes : (choose : List ℕ → ℕ) (w : ℕ) (t : List Route) {u : List Route} → Serves w aggregate_set t u
    → length u ≤ length (result choose w aggregate_set t) → (r : Route) → Member r (unhopped u) ↔ Member r (result choose w aggregate_set t)
unfolding result
set_prefixes choose w t {u} ok few =
    only w (held w t) w 0 (le_refl w) (aligned-zero w) (all_map (valid-within w) (valid-unhopped ok.valid))
    (all_unhopped u) (λ x i. answer-unhopped w x u ∙ ap marked (ok.keeps x (omega arith))) (omega (arith, length-unhopped u))

-- ---- Tables.

before-unhopped : (r : Route) (h : ℕ) {t : List Route} → All (Before r) t → All (Before (record { addr = r.addr; len = r.len; hop = h })) (unhopped t)
before-unhopped r h nil = nil
before-unhopped r h (cons b bs) = cons b (before-unhopped r h bs)

ascending_unhopped : {t : List Route} → Ascending t → Ascending (unhopped t)
ascending_unhopped empty = empty
ascending_unhopped (first {r = r} b o) = first (before-unhopped r 0 b) (ascending_unhopped o)

-- So a table of the same addresses that is as short is, but for its hops, the result.
pub set_only : (choose : List ℕ → ℕ) (w : ℕ) (t : List Route) {u : List Route} → Table w u → ((x : ℕ) → x < 2 ^ w → held w u x ≡ held w t x)
    → length u ≤ length (result choose w aggregate_set t) → unhopped u ≡ result choose w aggregate_set t
unfolding result
set_only choose w t {u} table same few =
    same_routes (ascending_unhopped table.order) (maximal-table w (held w t)).order
    (unfold result in set_prefixes choose w t (record { valid = table.valid; keeps = same }) few)
