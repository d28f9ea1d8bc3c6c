-- The engine works at addresses with k zero bits more at the end. There each route matches as before, so every lookup, every position's candidates and
-- every mode's result are those of the table itself, widened: what is computed there and narrowed is the result.
use Prim.Native.Nat.{ℕ, zero, suc, ◌+◌, ◌-◌, ◌*◌, ◌/◌, ◌^◌, ◌≤◌, ◌<◌}
use mathlib.Core.Path.{◌≡◌, refl, sym, ap, ap₂, ◌∙◌}
use mathlib.Core.Bool.{Bool, true, false, cond, ◌||◌, ◌&&◌, and_self}
use mathlib.Core.List.{List, [], ◌∷◌, ◌++◌}
use mathlib.Core.Logic.{◌↔◌, inl, inr}
use native.Mathlib.Nat.{suc-add, add-mul, zero-mul, mul_assoc, mul-le-mul_right, mul-lt-mul_of_pos_right, mul-div_cancel, le-div_iff_mul-le, div-lt_iff_lt-mul}
use native.Mathlib.Omega.{arith}
use lib.Pow.{pow-add, shr-shr}
use lib.ListN.{length}
use Rattle.theory.specs.Results.{In, throughout, maximal, part, nearest, is_other, Cand, hole, of, leaf, combine, sets, smallest, allowed, Chooses, assigned, here, ortc, whole, Mode, aggregate_set, aggregate_consistent_map, aggregate_map_drop, aggregate_map_fill, result}
use Rattle.theory.specs.Routes.{Route, matches, held, longer, tried, lookup, Answer, none, under, answer, or_default, filled, Aligned, Valid, All, nil, cons, Before, Ascending, empty, first, Table}
use Rattle.theory.proofs.Agree.{ortc-agree}
use Rattle.theory.proofs.Blocks.{pow_pos, in_left, in_right}
use Rattle.theory.proofs.Chosen.{smallest_chooses}
use Rattle.theory.proofs.Kept.{is_shorter, is_kept, kept}
use Rattle.theory.proofs.Maximal.{maximal-agree, maximal_is_ortc}
use Rattle.theory.proofs.Parts.{all_part}
use Rattle.theory.specs.Shapes.{Within}
use Rattle.theory.proofs.Quick.{ortc_uniform}
use Rattle.theory.proofs.Routed.{marked}
use Rattle.theory.proofs.Uniform.{sets_uniform}
use Rattle.positions.specs.Wide.{widen, widened, narrow, narrowed}

-- ---- Addresses: k bits more, and without them.

module _ (k : ℕ) where
  -- Widening and then leaving the k bits out changes nothing.
  pub unwide : (a : ℕ) → a * 2 ^ k / 2 ^ k ≡ a
  unwide a = mul-div_cancel a (pow_pos k)

  -- The first l of w bits are the first l of the wider address's.
  pub bits-widen : (w l x : ℕ) → l ≤ w → x / 2 ^ ((w + k) - l) ≡ x / 2 ^ k / 2 ^ (w - l)
  bits-widen w l x le = let e : (w + k) - l ≡ k + (w - l) = omega arith in rw (e, shr-shr x k (w - l))

  -- The next position of size n stands at the next one of size n + k.
  pub next-widen : (n a : ℕ) → (a + 2 ^ n) * 2 ^ k ≡ a * 2 ^ k + 2 ^ (n + k)
  next-widen n a = rw (add-mul a (2 ^ n) (2 ^ k), pow-add 2 n k)

  -- A wider address is in a wider position exactly when it is in the position without its last k bits.
  pub in_widen : (n a x : ℕ) → In (n + k) (a * 2 ^ k) x ↔ In n a (x / 2 ^ k)
  in_widen n a x = (
    λ i. ((le-div_iff_mul-le (pow_pos k)).1 i.0, (div-lt_iff_lt-mul (pow_pos k)).1 (omega (arith, next-widen n a))),
    λ i. (
      (le-div_iff_mul-le (pow_pos k)).0 i.0,
      let lt : x < (a + 2 ^ n) * 2 ^ k = (div-lt_iff_lt-mul (pow_pos k)).0 i.1 in
          omega (arith, next-widen n a),
    ),
  )

  -- All the wider addresses of one address are one address without their last k bits.
  pub in_one : (a x : ℕ) → In (zero + k) (a * 2 ^ k) x → x / 2 ^ k ≡ a
  in_one a x i = let j : In zero a (x / 2 ^ k) = (in_widen zero a x).0 i in omega arith

  -- A multiple of 2 ^ n is, widened, one of 2 ^ (n + k).
  pub aligned-widen : (n a : ℕ) → Aligned n a → Aligned (n + k) (a * 2 ^ k)
  aligned-widen n a d = (d.0, ap (λ (b : ℕ). b * 2 ^ k) d.1 ∙ mul_assoc d.0 (2 ^ n) (2 ^ k) ∙ ap (λ (b : ℕ). d.0 * b) (sym (pow-add 2 n k)))

-- ---- The longest match.

module _ (w k : ℕ) where
  -- A widened route matches a wider address exactly when the route matches it without its last k bits.
  pub matches-widen : (r : Route) (x : ℕ) → r.len ≤ w → matches (w + k) (widen k r) x ≡ matches w r (x / 2 ^ k)
  matches-widen r x le =
      rw (bits-widen k w r.len x le, bits-widen k w r.len (r.addr * 2 ^ k) le, unwide k r.addr)

  -- So a widened table has the same longest match.
  pub lookup-widen : {t : List Route} → All (Valid w) t → (x : ℕ) → lookup (w + k) (widened k t) x ≡ lookup w t (x / 2 ^ k)
  lookup-widen nil x = refl
  lookup-widen (cons {r = r} {t = t} v vs) x =
      let e : tried (w + k) (widen k r) x ≡ tried w r (x / 2 ^ k) = rw (matches-widen r x v.short) in
      ap₂ longer e (lookup-widen vs x)

  -- It holds the same addresses, but for their last k bits.
  pub held-widen : {t : List Route} → All (Valid w) t → (x : ℕ) → held (w + k) (widened k t) x ≡ held w t (x / 2 ^ k)
  held-widen nil x = refl
  held-widen (cons {r = r} v vs) x = ap₂ ◌||◌ (matches-widen r x v.short) (held-widen vs x)

  -- And it answers the same.
  pub answer-widen : {t : List Route} → All (Valid w) t → (x : ℕ) → answer (w + k) (widened k t) x ≡ answer w t (x / 2 ^ k)
  answer-widen vs x = ap (under none) (lookup-widen vs x)

-- ---- Tables.

-- A widened list has as many routes, and widening goes through ++.
pub length-widen : (k : ℕ) (t : List Route) → length (widened k t) ≡ length t
length-widen k [] = refl
length-widen k (r ∷ t) = ap suc (length-widen k t)

pub widened-append : (k : ℕ) (s t : List Route) → widened k (s ++ t) ≡ widened k s ++ widened k t
widened-append k [] t = refl
widened-append k (r ∷ s) t = ap (λ (u : List Route). widen k r ∷ u) (widened-append k s t)

-- A property of every route gives one of every widened route.
pub all_widen : {P Q : Route → Type 0} {t : List Route} (k : ℕ) → ((r : Route) → P r → Q (widen k r)) → All P t → All Q (widened k t)
all_widen k h nil = nil
all_widen k h (cons {r = r} p ps) = cons (h r p) (all_widen k h ps)

-- A valid route is, widened, valid at the wider addresses.
pub valid-widen : (w k : ℕ) (r : Route) → Valid w r → Valid (w + k) (widen k r)
valid-widen w k r v =
    let e : (w + k) - r.len ≡ (w - r.len) + k = omega arith in
    record {
      short = omega arith;
      clean = rw e (aligned-widen k (w - r.len) r.addr v.clean);
      small = rw (pow-add 2 w k) (mul-lt-mul_of_pos_right v.small (pow_pos k));
    }

-- Widening keeps table order.
pub before-widen : (k : ℕ) (r s : Route) → Before r s → Before (widen k r) (widen k s)
before-widen k r s (inl lt) = inl (mul-lt-mul_of_pos_right lt (pow_pos k))
before-widen k r s (inr e) = inr (ap (λ (a : ℕ). a * 2 ^ k) e.0, e.1)

pub ascending_widen : (k : ℕ) {t : List Route} → Ascending t → Ascending (widened k t)
ascending_widen k empty = empty
ascending_widen k (first {r = r} b o) = first (all_widen k (before-widen k r) b) (ascending_widen k o)

-- A widened table is a table of the wider addresses.
pub table-widen : (w k : ℕ) {t : List Route} → Table w t → Table (w + k) (widened k t)
table-widen w k table = record { valid = all_widen k (valid-widen w k) table.valid; order = ascending_widen k table.order }

-- Its lengths are still those of the narrower width.
pub short-widen : (w k : ℕ) {t : List Route} → All (Valid w) t → All (λ r. r.len ≤ w) (widened k t)
short-widen w k vs = all_widen k (λ r v. v.short) vs

-- A route of a position is, widened, one of the wider position.
pub within-widen : (w n a k : ℕ) (r : Route) → Within w n a r → Within (w + k) (n + k) (a * 2 ^ k) (widen k r)
within-widen w n a k r i =
    let e : (w + k) - r.len ≡ (w - r.len) + k = omega arith in
    record {
      low = mul-le-mul_right (2 ^ k) i.low;
      high = rw (e, ← next-widen k (w - r.len) r.addr, ← next-widen k n a) (mul-le-mul_right (2 ^ k) i.high);
      deep = omega arith;
      short = omega arith;
      aligned = rw e (aligned-widen k (w - r.len) r.addr i.aligned);
    }

-- ---- Candidates and the rewrite.

module _ (k : ℕ) (f : ℕ → Answer) where
  -- A wider position has the candidates of the position.
  pub sets-widen : (n a : ℕ) → sets (λ x. f (x / 2 ^ k)) (n + k) (a * 2 ^ k) ≡ sets f n a
  unfolding sets
  sets-widen zero a = sets_uniform (λ x. f (x / 2 ^ k)) (f a) (zero + k) (a * 2 ^ k) (λ x i. ap f (in_one k a x i))
  sets-widen (suc n) a =
      rw (suc-add n k, ← next-widen k n a) (ap₂ combine (sets-widen n a) (sets-widen n (a + 2 ^ n)))

  module _ (choose : List ℕ → ℕ) (w : ℕ) where
    -- The entry of a wider position is the position's, widened.
    here-widen : (S : Cand) (n a : ℕ) (above : Answer) → here choose (w + k) S (n + k) (a * 2 ^ k) above ≡ widened k (here choose w S n a above)
    here-widen hole n a above = refl
    here-widen (of s) n a above = go (allowed above s)
      where
        go : (b : Bool) → cond b [] (record { addr = a * 2 ^ k; len = (w + k) - (n + k); hop = choose s } ∷ [])
            ≡ widened k (cond b [] (record { addr = a; len = w - n; hop = choose s } ∷ []))
        go true = refl
        go false = let e : (w + k) - (n + k) ≡ w - n = omega arith in rw e

    -- The rewrite of a wider position is the position's, widened.
    pub ortc-widen : Chooses choose → (n a : ℕ) (above : Answer)
        → ortc choose (w + k) (λ x. f (x / 2 ^ k)) (n + k) (a * 2 ^ k) above ≡ widened k (ortc choose w f n a above)
    unfolding ortc sets
    ortc-widen law zero a above =
        ortc_uniform choose (w + k) law (λ x. f (x / 2 ^ k)) (f a) (zero + k) (a * 2 ^ k) above (λ x i. ap f (in_one k a x i))
        ∙ here-widen (leaf (f a)) zero a above
    ortc-widen law (suc n) a above =
        let S : Cand = sets f (suc n) a in
        let wide : sets (λ x. f (x / 2 ^ k)) (suc (n + k)) (a * 2 ^ k) ≡ S = rw suc-add at (sets-widen (suc n) a) in
        let entry : here choose (w + k) S (suc (n + k)) (a * 2 ^ k) above ≡ widened k (here choose w S (suc n) a above) =
        rw suc-add at (here-widen S (suc n) a above) in
        rw (
          suc-add n k,
          wide,
          entry,
          ← next-widen k n a,
          ortc-widen law n a (assigned choose S above),
          ortc-widen law n (a + 2 ^ n) (assigned choose S above),
          widened-append,
          widened-append,
        )

-- ---- Mode 1.

-- A test with one outcome at every address has it of the position.
throughout_uniform : (q : ℕ → Bool) (b : Bool) (n a : ℕ) → ((x : ℕ) → In n a x → q x ≡ b) → throughout q n a ≡ b
unfolding throughout
throughout_uniform q b zero a h = h a (omega arith)
throughout_uniform q b (suc n) a h =
    ap₂ ◌&&◌ (throughout_uniform q b n a (λ x i. h x (in_left n a x i))) (throughout_uniform q b n (a + 2 ^ n) (λ x i. h x (in_right n a x i)))
    ∙ and_self b

module _ (k : ℕ) (p : ℕ → Bool) where
  -- A wider position is covered exactly when the position is.
  pub throughout-widen : (n a : ℕ) → throughout (λ x. p (x / 2 ^ k)) (n + k) (a * 2 ^ k) ≡ throughout p n a
  unfolding throughout
  throughout-widen zero a = throughout_uniform (λ x. p (x / 2 ^ k)) (p a) (zero + k) (a * 2 ^ k) (λ x i. ap p (in_one k a x i))
  throughout-widen (suc n) a =
      rw (suc-add n k, ← next-widen k n a) (ap₂ ◌&&◌ (throughout-widen n a) (throughout-widen n (a + 2 ^ n)))

  -- Its maximal prefixes are those of the position, widened.
  pub maximal-widen : (w n a : ℕ) → maximal (w + k) (λ x. p (x / 2 ^ k)) (n + k) (a * 2 ^ k) ≡ widened k (maximal w p n a)
  maximal-widen w n a =
      maximal_is_ortc smallest smallest_chooses (w + k) (λ x. p (x / 2 ^ k)) (n + k) (a * 2 ^ k)
      ∙ ortc-widen k (λ x. marked (p x)) smallest w smallest_chooses n a none
      ∙ ap (widened k) (sym (maximal_is_ortc smallest smallest_chooses w p n a))

-- ---- Mode 3.

-- A part of a widened list is, widened, the part by the test that each route passes as it does widened.
pub part-widen : (k : ℕ) (p q : Route → Bool) (t : List Route) → ((r : Route) → p (widen k r) ≡ q r) → part p (widened k t) ≡ widened k (part q t)
part-widen k p q [] h = refl
part-widen k p q (r ∷ t) h = rw (h r, part-widen k p q t h) (go (q r))
  where
    go : (b : Bool) → cond b (widen k r ∷ widened k (part q t)) (widened k (part q t)) ≡ widened k (cond b (r ∷ part q t) (part q t))
    go true = refl
    go false = refl

module _ (w k : ℕ) where
  -- The nearest entry above a widened route is that above the route.
  pub nearest-widen : {t : List Route} → All (Valid w) t → (r : Route) → nearest (w + k) (widened k t) (widen k r) ≡ nearest w t r
  nearest-widen {t} vs r =
      ap (λ (u : List Route). lookup (w + k) u (r.addr * 2 ^ k)) (part-widen k (is_shorter r.len) (is_shorter r.len) t (λ s. refl))
      ∙ lookup-widen w k (all_part (is_shorter r.len) (λ s v e. v) vs) (r.addr * 2 ^ k)
      ∙ ap (lookup w (part (is_shorter r.len) t)) (unwide k r.addr)

  -- So the routes that are kept are the same, widened.
  pub kept-widen : {t : List Route} → All (Valid w) t → kept (w + k) (widened k t) ≡ widened k (kept w t)
  kept-widen {t} vs = part-widen k (is_kept (w + k) (widened k t)) (is_kept w t) t (λ r. ap (is_other r.hop) (nearest-widen vs r))

-- ---- The modes.

module _ (choose : List ℕ → ℕ) (law : Chooses choose) (w k : ℕ) where
  -- The rewrite of a function that reads no more than the first w bits.
  whole-widen : (f g : ℕ → Answer) → ((x : ℕ) → g x ≡ f (x / 2 ^ k)) → whole choose (w + k) g ≡ widened k (whole choose w f)
  whole-widen f g h =
      ortc-agree g (λ x. f (x / 2 ^ k)) choose (w + k) (w + k) 0 none (λ x i. h x)
      ∙ rw zero-mul at (ortc-widen k f choose w law w 0 none)

  -- The result of each mode on a widened table is its result on the table, widened.
  pub result-widen : (mode : Mode) {t : List Route} → All (Valid w) t → result choose (w + k) mode (widened k t) ≡ widened k (result choose w mode t)
  unfolding result
  result-widen aggregate_set {t} vs =
      maximal-agree (held (w + k) (widened k t)) (λ x. held w t (x / 2 ^ k)) (w + k) (w + k) 0 (λ x i. held-widen w k vs x)
      ∙ rw zero-mul at (maximal-widen k (held w t) w w 0)
  result-widen aggregate_consistent_map vs = kept-widen w k vs
  result-widen aggregate_map_drop {t} vs = whole-widen (answer w t) (answer (w + k) (widened k t)) (answer-widen w k vs)
  result-widen (aggregate_map_fill d) {t} vs =
      whole-widen (filled d (answer w t)) (filled d (answer (w + k) (widened k t))) (λ x. ap (or_default d) (answer-widen w k vs x))

-- ---- Back to the width.

-- A widened route narrowed is the route.
pub unwide_route : (k : ℕ) (r : Route) → narrow k (widen k r) ≡ r
unwide_route k r = ap (λ (a : ℕ). record { addr = a; len = r.len; hop = r.hop }) (unwide k r.addr)

-- Narrowing undoes widening.
pub narrow-widen : (k : ℕ) (t : List Route) → narrowed k (widened k t) ≡ t
narrow-widen k [] = refl
narrow-widen k (r ∷ t) = ap₂ ◌∷◌ (unwide_route k r) (narrow-widen k t)

-- Narrowing goes through ++, and keeps the number of routes.
pub narrowed-append : (k : ℕ) (s t : List Route) → narrowed k (s ++ t) ≡ narrowed k s ++ narrowed k t
narrowed-append k [] t = refl
narrowed-append k (r ∷ s) t = ap (λ (u : List Route). narrow k r ∷ u) (narrowed-append k s t)

pub length-narrow : (k : ℕ) (t : List Route) → length (narrowed k t) ≡ length t
length-narrow k [] = refl
length-narrow k (r ∷ t) = ap suc (length-narrow k t)

-- What a mode makes of the widened table is, narrowed, what it makes of the table.
pub result-narrow : (choose : List ℕ → ℕ) → Chooses choose → (w k : ℕ) (mode : Mode) {t : List Route} → All (Valid w) t
    → narrowed k (result choose (w + k) mode (widened k t)) ≡ result choose w mode t
result-narrow choose law w k mode {t} vs =
    ap (narrowed k) (result-widen choose law w k mode vs) ∙ narrow-widen k (result choose w mode t)
