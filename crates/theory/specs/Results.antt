-- What each of the four modes answers, over addresses: a list of routes in table order, from a list of routes.
-- A position (n, a) is the 2 ^ n addresses from a on, the prefix of length w - n there.
use Rattle.std.specs.Prelude.{ℕ, zero, suc, ◌+◌, ◌-◌, ◌*◌, ◌/◌, ◌^◌, ◌≤◌, ◌<◌, ◌≡◌, Bool, true, false, cond, not, ◌||◌, ◌&&◌, List, [], ◌∷◌, ◌++◌, eqb, ltb}
use Rattle.theory.specs.Routes.{Route, held, Match, miss, hit, lookup, Answer, none, via, answer, filled, Valid}

-- x is an address of the position (n, a).
abbrev pub In : ℕ → ℕ → ℕ → Type 0
In n a x = (a ≤ x) × (x < a + 2 ^ n)

-- ---- Mode 1: the maximal prefixes of a set of addresses.

-- Does p hold of every address of the position?
unfoldable pub throughout : (ℕ → Bool) → ℕ → ℕ → Bool
throughout p zero a = p a
throughout p (suc n) a = throughout p n a && throughout p n (a + 2 ^ n)

-- The position's prefix, as a record of a set has it.
abbrev pub prefix : ℕ → ℕ → ℕ → Route
prefix w n a = record { addr = a; len = w - n; hop = 0 }

-- The prefixes throughout which p holds, and not throughout the one-bit-shorter prefix, in table order.
unfoldable pub maximal : ℕ → (ℕ → Bool) → ℕ → ℕ → List Route
maximal w p zero a = cond (p a) (prefix w zero a ∷ []) []
maximal w p (suc n) a =
    cond (throughout p (suc n) a) (prefix w (suc n) a ∷ []) (maximal w p n a ++ maximal w p n (a + 2 ^ n))

-- The start of the 2 ^ n addresses that share x's bits but the last n.
abbrev pub start_of : ℕ → ℕ → ℕ
start_of n x = x / 2 ^ n * 2 ^ n

-- A route without host bits: its address is the start of its prefix.
abbrev pub masked : ℕ → Route → Route
masked w r = record { addr = start_of (w - r.len) r.addr; len = r.len; hop = r.hop }

-- r is a maximal prefix for p: p holds throughout it, and not throughout the one-bit-shorter prefix, if there is one.
pub record Maximal (w : ℕ) (p : ℕ → Bool) (r : Route) : Type 0 where
  pub valid : Valid w r
  pub bare : r.hop ≡ 0
  pub covered : throughout p (w - r.len) r.addr ≡ true
  pub widest : 0 < r.len → throughout p (suc (w - r.len)) (start_of (suc (w - r.len)) r.addr) ≡ false

-- A table's prefixes as a set: the same routes with hop 0.
abbrev pub unhopped : List Route → List Route
unhopped [] = []
unhopped (r ∷ t) = record { addr = r.addr; len = r.len; hop = 0 } ∷ unhopped t

-- ---- Mode 3: entries kept or left out, by the nearest entry above each.

-- The routes that pass a test.
abbrev pub part : (Route → Bool) → List Route → List Route
part p [] = []
part p (r ∷ t) = cond (p r) (r ∷ part p t) (part p t)

-- The nearest entry above r in the table: the longest match of its address among the shorter entries.
abbrev pub nearest : ℕ → List Route → Route → Match
nearest w t r = lookup w (part (λ s. ltb s.len r.len) t) r.addr

-- Is there none?
abbrev pub is_miss : Match → Bool
is_miss miss = true
is_miss (hit k h) = false

-- Is there none, or one with another hop?
abbrev pub is_other : ℕ → Match → Bool
is_other h miss = true
is_other h (hit k i) = not (eqb i h)

-- ---- Modes 4 and 5: ORTC. Sets of hops are ascending lists.

-- Is h in the set?
abbrev pub has : ℕ → List ℕ → Bool
has h [] = false
has h (k ∷ s) = eqb h k || has h s

-- The set with h.
abbrev pub insert : ℕ → List ℕ → List ℕ
insert h [] = h ∷ []
insert h (k ∷ s) = cond (ltb h k) (h ∷ k ∷ s) (cond (eqb h k) (k ∷ s) (k ∷ insert h s))

-- The hops of either set.
abbrev pub union : List ℕ → List ℕ → List ℕ
union [] t = t
union (h ∷ s) t = insert h (union s t)

-- The hops of both sets.
abbrev pub common : List ℕ → List ℕ → List ℕ
common [] t = []
common (h ∷ s) t = cond (has h t) (h ∷ common s t) (common s t)

-- The candidates of a position: a hole, where one of its addresses has no route, or a set of hops.
pub data Cand : Type 0 where
  hole : Cand
  of : List ℕ → Cand

-- The candidates of a single answer.
abbrev pub leaf : Answer → Cand
leaf none = hole
leaf (via h) = of (h ∷ [])

-- The first set, or, if it is empty, the union of the others.
abbrev pub or_union : List ℕ → List ℕ → List ℕ → List ℕ
or_union [] s t = union s t
or_union (h ∷ c) s t = h ∷ c

-- The candidates of a position from those of its halves: a hole with anything is a hole; else the intersection, or the union.
abbrev pub combine : Cand → Cand → Cand
combine hole d = hole
combine (of s) hole = hole
combine (of s) (of t) = of (or_union (common s t) s t)

-- The candidates of the position (n, a), where address x is answered by f x.
unfoldable pub sets : (ℕ → Answer) → ℕ → ℕ → Cand
sets f zero a = leaf (f a)
sets f (suc n) a = combine (sets f n a) (sets f n (a + 2 ^ n))

-- Is the hop assigned above in the set?
abbrev pub allowed : Answer → List ℕ → Bool
allowed none s = false
allowed (via h) s = has h s

-- The smallest hop of a set: the first, since sets are ascending.
abbrev pub smallest : List ℕ → ℕ
smallest [] = 0
smallest (h ∷ s) = h

-- The one law that a choice among a set's hops has to keep: it is one of them.
abbrev pub Chooses : (List ℕ → ℕ) → Type 0
Chooses choose = (h : ℕ) (s : List ℕ) → has (choose (h ∷ s)) (h ∷ s) ≡ true

module _ (choose : List ℕ → ℕ) where
  -- What a position is assigned: a hole nothing; else the hop assigned above if its set has it, or the chosen one.
  abbrev pub assigned : Cand → Answer → Answer
  assigned hole above = none
  assigned (of s) above = cond (allowed above s) above (via (choose s))

  module _ (w : ℕ) where
    -- A position's entry: none for a hole or where the hop assigned above is in its set.
    abbrev pub here : Cand → ℕ → ℕ → Answer → List Route
    here hole n a above = []
    here (of s) n a above = cond (allowed above s) [] (record { addr = a; len = w - n; hop = choose s } ∷ [])

    -- The entries of the position (n, a) and of the positions inside it, where `above` is assigned above it.
    unfoldable pub ortc : (ℕ → Answer) → ℕ → ℕ → Answer → List Route
    ortc f zero a above = here (sets f zero a) zero a above
    ortc f (suc n) a above =
        here (sets f (suc n) a) (suc n) a above
        ++ (ortc f n a (assigned (sets f (suc n) a) above)
        ++ ortc f n (a + 2 ^ n) (assigned (sets f (suc n) a) above))

    -- The rewrite of a whole forwarding function: from length 0, with nothing assigned above.
    abbrev pub whole : (ℕ → Answer) → List Route
    whole f = ortc f w 0 none

-- ---- The four modes, 1, 3, 4 and 5; Retired has mode 2.

-- By the names of the crate's functions; fill has its default.
pub data Mode : Type 0 where
  aggregate_set : Mode
  aggregate_consistent_map : Mode
  aggregate_map_drop : Mode
  aggregate_map_fill : ℕ → Mode

-- What each mode makes of a table of width w.
unfoldable pub result : (List ℕ → ℕ) → ℕ → Mode → List Route → List Route
result choose w aggregate_set t = maximal w (held w t) w 0
result choose w aggregate_consistent_map t = part (λ r. is_other r.hop (nearest w t r)) t
result choose w aggregate_map_drop t = whole choose w (answer w t)
result choose w (aggregate_map_fill d) t = whole choose w (filled d (answer w t))
