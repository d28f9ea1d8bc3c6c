-- The nodes of a table: counted in one pass that compares each record with the one just before it; the most there can be; examples.
use Prim.Native.Nat.{ℕ, zero, suc, ◌+◌, ◌-◌, ◌*◌, ◌/◌, ◌^◌, ◌≤◌, ◌<◌}
use mathlib.Core.Path.{◌≡◌, refl, sym, ap, ap₂, ◌∙◌}
use mathlib.Core.Bool.{Bool, true, false, cond, ◌||◌, ◌&&◌, and-eq-true_iff}
use mathlib.Core.List.{List, [], ◌∷◌}
use mathlib.Core.Logic.{inl, inr}
use native.Mathlib.Nat.{le_refl, le_antisymm, div-mul-le_self, lt_of_mul-lt-mul_right, mul-le-mul_left, mul-lt-mul_of_pos_right, mul-suc, suc-mul}
use lib.ListN.{length}
use lib.Pow.{pow_pos, pow-add, pow_mono, shr_mono, shr_lt, shl-shr}
use native.Mathlib.Decide.{dec_lt}
use native.Mathlib.Omega.{arith}
use lib.Dec.{leb, eqb}
use borrow.Author.Tests.{le-leb, lt-leb, leb-true, leb-false, eq-eqb, eqb-true, eqb-false}
use Rattle.theory.specs.Routes.{Route, Aligned, Valid, All, nil, cons, Before, Ascending, empty, first, Table}
use Rattle.theory.proofs.Blocks.{aligned_down, fewer_bits}
use Rattle.theory.proofs.Lists.{all_map}
use Rattle.nodecount.specs.Nodes.{levels, node_at, seen, fresh, brought, nodes, new_nodes}
use Rattle.theory.proofs.Order.{before_trans}

-- The record that stands before the first: it has no node but the root.
abbrev pub root : Route
root = record { addr = 0; len = 0; hop = 0 }

-- The one-pass count: each record of a list compared with the one just before it, the first with p.
unfoldable pub passed : ℕ → Route → List Route → ℕ
passed w p [] = 0
passed w p (r ∷ t) = new_nodes w p r + passed w r t

before-addr : (r s : Route) → Before r s → r.addr ≤ s.addr
before-addr r s (inl a) = omega arith
before-addr r s (inr a) = omega arith

-- A test of an order and an equation, as those of nodes and blocks are.
both_true : (m n x y : ℕ) → (leb m n && eqb x y) ≡ true → (m ≤ n) × (x ≡ y)
both_true m n x y e = let b = (and-eq-true_iff (leb m n) (eqb x y)).0 e in (leb-true m n b.0, eqb-true x y b.1)

true_both : (m n x y : ℕ) → m ≤ n → x ≡ y → (leb m n && eqb x y) ≡ true
true_both m n x y le e = rw (le-leb m n le, eq-eqb x y e)

-- The test `node_at` holds where s is long enough, and its address lies in the same block of that depth as x.
pub node-held : (w m x : ℕ) (s : Route) → 5 * m ≤ s.len → s.addr / 2 ^ (w - 5 * m) ≡ x / 2 ^ (w - 5 * m) → node_at w m x s ≡ true
node-held w m x s le e = true_both m (levels s) _ _ (omega arith) e

-- Where s is long enough, the blocks decide.
pub node-long : (w m x : ℕ) (s : Route) → 5 * m ≤ s.len → node_at w m x s ≡ eqb (s.addr / 2 ^ (w - 5 * m)) (x / 2 ^ (w - 5 * m))
node-long w m x s le = rw (le-leb m (levels s) (omega arith))

-- What follows where it holds.
pub node_true : (w m x : ℕ) (s : Route) → node_at w m x s ≡ true → (5 * m ≤ s.len) × (s.addr / 2 ^ (w - 5 * m) ≡ x / 2 ^ (w - 5 * m))
node_true w m x s e =
    let b = both_true m (levels s) (s.addr / 2 ^ (w - 5 * m)) (x / 2 ^ (w - 5 * m)) e in
    (omega arith, b.1)

-- Where s has a node in which x lies, it has one at the depth above too.
pub node-above : (w m x : ℕ) (s : Route) → node_at w (suc m) x s ≡ true → node_at w m x s ≡ true
node-above w m x s e =
    let u = node_true w (suc m) x s e in
    node-held w m x s (omega arith) (fewer_bits w (5 * m) (5 * suc m) s.addr x (omega arith) u.1)

-- A record no longer than a depth stands at the start of its block there, since it has no host bits.
at_start : (w d : ℕ) (p : Route) → Valid w p → p.len ≤ d → p.addr ≡ p.addr / 2 ^ (w - d) * 2 ^ (w - d)
at_start w d p v le =
    let a : Aligned (w - d) p.addr = aligned_down (w - d) (w - p.len) p.addr (omega arith) v.clean in
    let q : p.addr / 2 ^ (w - d) ≡ a.0 = ap (λ (x : ℕ). x / 2 ^ (w - d)) a.1 ∙ shl-shr a.0 (w - d) in
    rw q a.1

-- Of two records in order before r, where the first has a node that holds r, so has the second.
between : (w m : ℕ) (s p r : Route) → Valid w p → Before s p → Before p r → node_at w m r.addr s ≡ true → node_at w m r.addr p ≡ true
between w m s p r v b c e = go (dec_lt p.len (5 * m))
  where
    k : ℕ
    k = w - 5 * m

    shares : (5 * m ≤ s.len) × (s.addr / 2 ^ k ≡ r.addr / 2 ^ k)
    shares = node_true w m r.addr s e

    same : p.addr / 2 ^ k ≡ r.addr / 2 ^ k
    same = le_antisymm (shr_mono k (before-addr p r c)) (omega (arith, shr_mono k (before-addr s p b), shares.1))

    start : p.len < 5 * m → p.addr ≤ s.addr
    start lt =
        let q : p.addr / 2 ^ k ≡ s.addr / 2 ^ k = same ∙ sym shares.1 in
        let a : p.addr ≡ s.addr / 2 ^ k * 2 ^ k = rw q at (at_start w (5 * m) p v (omega arith)) in
        omega (arith, div-mul-le_self s.addr (2 ^ k))

    short : p.len < 5 * m → Before s p → ⊥
    short lt (inl d) = omega (arith, start lt)
    short lt (inr d) = omega (arith, shares.0)

    go : Dec (p.len < 5 * m) → node_at w m r.addr p ≡ true
    go (yes lt) = absurd (short lt b)
    go (no ge) = node-held w m r.addr p (omega arith) same

-- Behind the record p, no earlier one has a node that holds r and that p has not.
unseen : (w m : ℕ) (p r : Route) {earlier : List Route} → All (λ s. Before s p) earlier → Valid w p → Before p r → node_at w m r.addr p ≡ false
    → seen w m r.addr earlier ≡ false
unseen w m p r nil v c e = refl
unseen w m p r (cons {r = s} {t = t} b bs) v c e = go (node_at w m r.addr s) refl (unseen w m p r bs v c e)
  where
    go : (x : Bool) → node_at w m r.addr s ≡ x → seen w m r.addr t ≡ false → (x || seen w m r.addr t) ≡ false
    go true h ih = let f : node_at w m r.addr p ≡ true = between w m s p r v b c h in let z : ◌≡◌ {A = ℕ} 0 1 = cc in absurd (omega arith)
    go false h ih = ih

seen_last : (w m : ℕ) (p r : Route) {earlier : List Route} → All (λ s. Before s p) earlier → Valid w p → Before p r
    → seen w m r.addr (p ∷ earlier) ≡ seen w m r.addr (p ∷ [])
seen_last w m p r {earlier} bs v c = go (node_at w m r.addr p) refl
  where
    go : (x : Bool) → node_at w m r.addr p ≡ x → (x || seen w m r.addr earlier) ≡ (x || false)
    go true h = refl
    go false h = unseen w m p r bs v c h

fresh_last : (w : ℕ) (p r : Route) {earlier : List Route} → All (λ s. Before s p) earlier → Valid w p → Before p r
    → (m : ℕ) → fresh w (p ∷ earlier) r.addr m ≡ fresh w (p ∷ []) r.addr m
unfolding fresh
fresh_last w p r bs v c zero = refl
fresh_last w p r bs v c (suc m) =
    ap₂ ◌+◌ (fresh_last w p r bs v c m) (ap (λ (b : Bool). cond b 0 1) (seen_last w (suc m) p r bs v c))

brought_passed : (w : ℕ) (p : Route) (earlier : List Route) {t : List Route} → All (λ s. Before s p) earlier → Valid w p → All (Valid w) t
    → All (Before p) t → Ascending t → brought w (p ∷ earlier) t ≡ passed w p t
unfolding brought passed
brought_passed w p earlier bs v nil nil empty = refl
brought_passed w p earlier bs v (cons {r = r} u us) (cons c cs) (first d ds) =
    ap₂ ◌+◌ (fresh_last w p r bs v c (levels r))
    (brought_passed w r (p ∷ earlier) (cons c (all_map (λ s b. before_trans s p r b c) bs)) u us d ds)

-- The root is no record's node below the root.
fresh-root : (w x m : ℕ) → fresh w [] x m ≡ fresh w (root ∷ []) x m
unfolding fresh
fresh-root w x zero = refl
fresh-root w x (suc m) = ap₂ ◌+◌ (fresh-root w x m) (rw (lt-leb (suc m) 0 (omega arith)))

start_passed : (w : ℕ) {t : List Route} → All (Valid w) t → Ascending t → brought w [] t ≡ passed w root t
unfolding brought passed
start_passed w nil empty = refl
start_passed w (cons {r = r} u us) (first d ds) = ap₂ ◌+◌ (fresh-root w r.addr (levels r)) (brought_passed w r [] nil u us d ds)

-- The nodes of a table are the root and what each record brings beside the one just before it.
pub nodes_pass : (w : ℕ) {t : List Route} → Table w t → nodes w t ≡ 1 + passed w root t
unfolding nodes
nodes_pass w t = ap (λ (n : ℕ). 1 + n) (start_passed w t.valid t.order)

-- ---- The most nodes: at depth 5 one for each value of five bits, at each deeper depth one for each record.

-- The number of the block of p at depth 5, and whether r brings a node there beside p.
five : ℕ → Route → ℕ
five w p = p.addr / 2 ^ (w - 5)

opens : ℕ → Route → Route → ℕ
opens w p r = cond (leb 1 (levels r)) (cond (seen w 1 r.addr (p ∷ [])) 0 1) 0

-- The blocks of depth 5 up to the one of p, which counts if p has a node there.
used : ℕ → Route → ℕ
used w p = cond (leb 1 (levels p)) (suc (five w p)) (five w p)

five_small : (w : ℕ) (p : Route) → Valid w p → five w p < 32
unfolding five
five_small w p v = shr_lt 5 (w - 5) (omega (arith, v.small, pow_mono {i = w} {j = 5 + (w - 5)} (omega arith)))

used_small : (w : ℕ) (p : Route) → Valid w p → used w p ≤ 32
unfolding used
used_small w p v = go (leb 1 (levels p))
  where
    go : (b : Bool) → cond b (suc (five w p)) (five w p) ≤ 32
    go true = five_small w p v
    go false = omega (arith, five_small w p v)

-- A node that r opens lies in a block that was not used before.
used_opens : (w : ℕ) (p r : Route) → Valid w r → Before p r → opens w p r + used w p ≤ used w r
unfolding used opens five
used_opens w p r v b = go (leb 1 (levels p)) refl (leb 1 (levels r)) refl
  where
    mono : five w p ≤ five w r
    mono = shr_mono (w - 5) (before-addr p r b)

    higher : leb 1 (levels p) ≡ true → leb 1 (levels r) ≡ false → Before p r → five w p < five w r
    higher e f (inl a) =
        let lt : five w p * 2 ^ (w - 5) < five w r * 2 ^ (w - 5) =
        omega (arith, div-mul-le_self p.addr (2 ^ (w - 5)), at_start w 5 r v (omega (arith, leb-false 1 (levels r) f))) in
        lt_of_mul-lt-mul_right (2 ^ (w - 5)) lt
    higher e f (inr a) = absurd (omega (arith, leb-true 1 (levels p) e, leb-false 1 (levels r) f))

    same : (x : Bool) → eqb (five w p) (five w r) ≡ x → cond (x || false) 0 1 + suc (five w p) ≤ suc (five w r)
    same true e = omega (arith, mono)
    same false e = omega (arith, mono, eqb-false (five w p) (five w r) e)

    go : (x : Bool) → leb 1 (levels p) ≡ x → (y : Bool) → leb 1 (levels r) ≡ y
        → cond y (cond ((x && eqb (five w p) (five w r)) || false) 0 1) 0 + cond x (suc (five w p)) (five w p) ≤ cond y (suc (five w r)) (five w r)
    go true e true f = same (eqb (five w p) (five w r)) refl
    go true e false f = omega (arith, higher e f b)
    go false e true f = omega (arith, mono)
    go false e false f = omega (arith, mono)

-- r brings at most one node at depth 5, as `opens` says, and one at each deeper depth.
fresh-deep : (w : ℕ) (earlier : List Route) (x m : ℕ) → fresh w earlier x (suc m) ≤ cond (seen w 1 x earlier) 0 1 + m
unfolding fresh
fresh-deep w earlier x zero = omega arith
fresh-deep w earlier x (suc m) = go (seen w (suc (suc m)) x earlier) (fresh-deep w earlier x m)
  where
    go : (b : Bool) → fresh w earlier x (suc m) ≤ cond (seen w 1 x earlier) 0 1 + m
        → fresh w earlier x (suc m) + cond b 0 1 ≤ cond (seen w 1 x earlier) 0 1 + suc m
    go true ih = omega arith
    go false ih = omega arith

new_most : (w : ℕ) (p r : Route) → Valid w r → new_nodes w p r ≤ opens w p r + (w / 5 - 1)
unfolding fresh opens
new_most w p r v = go (levels r) (omega (arith, v.short))
  where
    go : (m : ℕ) → m ≤ w / 5 → fresh w (p ∷ []) r.addr m ≤ cond (leb 1 m) (cond (seen w 1 r.addr (p ∷ [])) 0 1) 0 + (w / 5 - 1)
    go zero le = omega arith
    go (suc m) le = rw (le-leb 1 (suc m) (omega arith)) (omega (arith, fresh-deep w (p ∷ []) r.addr m))

passed_most : (w : ℕ) (p : Route) {t : List Route} → Valid w p → All (Valid w) t → All (Before p) t → Ascending t
    → passed w p t + used w p ≤ 32 + (w / 5 - 1) * length t
unfolding passed
passed_most w p v nil nil empty = omega (arith, used_small w p v)
passed_most w p v (cons {r = r} {t = t} u us) (cons b bs) (first d ds) =
    omega (arith, new_most w p r u, used_opens w p r u b, passed_most w r u us d ds, mul-suc (w / 5 - 1) (length t))

opens_first : (w : ℕ) (p r : Route) → opens w p r ≤ used w r
unfolding used opens
opens_first w p r = go (leb 1 (levels r)) (seen w 1 r.addr (p ∷ []))
  where
    go : (x y : Bool) → cond x (cond y 0 1) 0 ≤ cond x (suc (five w r)) (five w r)
    go true true = omega arith
    go true false = omega arith
    go false y = omega arith

start-most : (w : ℕ) (p : Route) {t : List Route} → All (Valid w) t → Ascending t → passed w p t ≤ 32 + (w / 5 - 1) * length t
unfolding passed
start-most w p nil empty = omega arith
start-most w p (cons {r = r} {t = t} u us) (first d ds) =
    omega (arith, new_most w p r u, opens_first w p r, passed_most w r u us d ds, mul-suc (w / 5 - 1) (length t))

-- At most the root, 32 nodes at depth 5, and one node for each record at each deeper depth.
pub nodes_bound : (w : ℕ) {t : List Route} → Table w t → nodes w t ≤ 33 + (w / 5 - 1) * length t
nodes_bound w t = omega (arith, nodes_pass w t, start-most w root t.valid t.order)

-- The most nodes of a table on the wire: 5,153 at 32 bits, 11,297 at 64.
pub nodes-most : (w : ℕ) {t : List Route} → Table w t → length t ≤ 1024 → nodes w t ≤ 33 + (w / 5 - 1) * 1024
nodes-most w {t} table le = omega (arith, nodes_bound w table, mul-le-mul_left {m = length t} {n = 1024} (w / 5 - 1) le)

-- ---- Examples, and tables that have the most nodes.

-- A prefix by its first two octets and its length.
abbrev at : ℕ → ℕ → ℕ → Route
at a b n = record { addr = a * 2 ^ 24 + b * 2 ^ 16; len = n; hop = 0 }

-- Tables of a width with their numbers of nodes: empty, one /4, one /5, one /32, two /9 that share depth 5, a /16 that shares it with its /8; at 64 bits
-- 2001:db8::/64, which has one at each depth down to 60.
pub record NodeCase : Type 0 where
  pub width : ℕ
  pub table : List Route
  pub count : ℕ

abbrev pub node_cases : List NodeCase
node_cases =
    record { width = 32; table = []; count = 1 }
    ∷ record { width = 32; table = at 160 0 4 ∷ []; count = 1 }
    ∷ record { width = 32; table = at 160 0 5 ∷ []; count = 2 }
    ∷ record { width = 32; table = at 160 1 32 ∷ []; count = 7 }
    ∷ record { width = 32; table = at 10 0 9 ∷ at 10 128 9 ∷ []; count = 2 }
    ∷ record { width = 32; table = at 10 0 8 ∷ at 10 1 16 ∷ []; count = 4 }
    ∷ record { width = 64; table = record { addr = (8193 * 2 ^ 16 + 3512) * 2 ^ 32; len = 64; hop = 0 } ∷ []; count = 13 }
    ∷ []

abbrev pub Counted : List NodeCase → Type 0
Counted [] = Unit {0}
Counted (c ∷ cs) = (nodes c.width c.table ≡ c.count) × Counted cs

-- Each table of the cases has its number of nodes.
pub nodes_examples : Counted node_cases
unfolding nodes brought fresh
nodes_examples = (refl, (refl, (refl, (refl, (refl, (refl, (refl, tt)))))))

-- At w bits, the first address of the i-th block of ten bits, as a record of length w; and n such records from the i-th on.
abbrev pub host : ℕ → ℕ → Route
host w i = record { addr = i * 2 ^ (w - 10); len = w; hop = 0 }

unfoldable pub spread : ℕ → ℕ → ℕ → List Route
spread w zero i = []
spread w (suc n) i = host w i ∷ spread w n (suc i)

module _ (w : ℕ) (wide : 10 ≤ w) where
  host_valid : (i : ℕ) → i < 1024 → Valid w (host w i)
  host_valid i lt =
      let none : w - w ≡ 0 = omega arith in
      let all : 2 ^ w ≡ 1024 * 2 ^ (w - 10) = ap (λ (k : ℕ). 2 ^ k) (omega arith) ∙ pow-add 2 10 (w - 10) in
      record {
        short = le_refl w;
        clean = (i * 2 ^ (w - 10), rw none (omega arith));
        small = omega (arith, all, mul-lt-mul_of_pos_right {m = i} {n = 1024} {k = 2 ^ (w - 10)} lt (pow_pos (w - 10)));
      }

  spread_valid : (n i : ℕ) → n + i ≤ 1024 → All (Valid w) (spread w n i)
  unfolding spread
  spread_valid zero i le = nil
  spread_valid (suc n) i le = cons {r = host w i} (host_valid i (omega arith)) (spread_valid n (suc i) (omega arith))

  spread_after : (n i : ℕ) (r : Route) → r.addr < i * 2 ^ (w - 10) → All (Before r) (spread w n i)
  unfolding spread
  spread_after zero i r lt = nil
  spread_after (suc n) i r lt = cons (inl lt) (spread_after n (suc i) r (omega (arith, suc-mul i (2 ^ (w - 10)))))

  spread_order : (n i : ℕ) → Ascending (spread w n i)
  unfolding spread
  spread_order zero i = empty
  spread_order (suc n) i = first (spread_after n (suc i) (host w i) (omega (arith, suc-mul i (2 ^ (w - 10)), pow_pos (w - 10)))) (spread_order n (suc i))

  spread_table : Table w (spread w 1024 0)
  spread_table = record { valid = spread_valid 1024 0 (omega arith); order = spread_order 1024 0 }

spread_passed : (passed 32 root (spread 32 1024 0) ≡ 5152) × (passed 64 root (spread 64 1024 0) ≡ 11296)
unfolding spread passed fresh
spread_passed = (refl, refl)

-- A table of 1,024 records of this width has so many nodes.
abbrev pub Met : ℕ → ℕ → Type 0
Met w n = (t : List Route) × Table w t × (length t ≡ 1024) × (nodes w t ≡ n)

-- So the most is met at both widths.
pub nodes_met : Met 32 5153 × Met 64 11297
unfolding spread
nodes_met = (
  (spread 32 1024 0, spread_table 32 (omega arith), refl, omega (arith, nodes_pass 32 (spread_table 32 (omega arith)), spread_passed.0)),
  (spread 64 1024 0, spread_table 64 (omega arith), refl, omega (arith, nodes_pass 64 (spread_table 64 (omega arith)), spread_passed.1)),
)
