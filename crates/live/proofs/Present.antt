-- Which prefixes are present decides the nodes; and what a put and a take make of them.
use Prim.Native.Nat.{ℕ, ◌+◌, ◌*◌, ◌≤◌}
use mathlib.Core.Path.{◌≡◌, refl, sym, ap, ◌∙◌}
use mathlib.Core.Bool.{Bool, true, false, cond, not, true≢false, false≢true}
use mathlib.Core.List.{List, [], ◌∷◌}
use native.Mathlib.Nat.{le_antisymm}
use native.Mathlib.Omega.{arith}
use lib.ListN.{length}
use Rattle.theory.specs.Routes.{Route, Answer, none, via, Valid, Table}
use Rattle.theory.specs.Shapes.{routed}
use Rattle.records.specs.Sized.{route}
use Rattle.nodecount.specs.Nodes.{nodes}
use Rattle.nodecount.proofs.NodeRecords.{records-few}
use Rattle.nodecount.proofs.NodeRuns.{Has, Prefixes, nodes_prefixes}
use Rattle.steps.specs.Steps.{putting, taking, same, entry, present, put, without}
use Rattle.steps.proofs.Entries.{same_true, entry-put, entry_step, ascending_distinct, member-entry, entry-member}
use Rattle.steps.proofs.Tables.{table_step}
use Rattle.liveroom.proofs.Holding.{nodes-some}

-- The prefixes present in s are present in t.
abbrev pub Presents : List Route → List Route → Type 0
Presents s t = (a l : ℕ) → present s a l ≡ true → present t a l ≡ true

pub nodes-present : (w : ℕ) {s t : List Route} → Table w s → Table w t → Presents s t → nodes w s ≤ nodes w t
nodes-present w {s} {t} u v k = nodes_prefixes w u.valid v.valid has
  where
    has : Prefixes s t
    has r m =
        go (entry t r.addr r.len) refl
        (k r.addr r.len (ap routed (member-entry (ascending_distinct u.order) m)))
      where
        go : (x : Answer) → entry t r.addr r.len ≡ x → routed (entry t r.addr r.len) ≡ true → Has r t
        go none e q = absurd (false≢true (sym (ap routed e) ∙ q))
        go (via h) e q = let z = entry-member t r.addr r.len e in record { route = z.0; member = z.1; addr = z.2; len = z.3 }

-- A put of a present prefix, a put by another hop, and a take.
present-put : (r : Route) (t : List Route) (a l : ℕ) → present (put r t) a l ≡ routed (cond (same r.addr r.len a l) (via r.hop) (entry t a l))
present-put r t a l = ap routed (entry-put r t a l)

pub put_old : (r : Route) (t : List Route) → present t r.addr r.len ≡ true → Presents (put r t) t
put_old r t p a l e = go (same r.addr r.len a l) refl (sym (present-put r t a l) ∙ e)
  where
    go : (b : Bool) → same r.addr r.len a l ≡ b → routed (cond b (via r.hop) (entry t a l)) ≡ true → present t a l ≡ true
    go true q z = let s = same_true r.addr r.len a l q in rw (sym s.0, sym s.1) p
    go false q z = z

pub put-hop : (a l h i : ℕ) (t : List Route) → Presents (put (route a l h) t) (put (route a l i) t)
put-hop a l h i t b m e = present-put (route a l i) t b m ∙ go (same a l b m) (sym (present-put (route a l h) t b m) ∙ e)
  where
    go : (c : Bool) → routed (cond c (via h) (entry t b m)) ≡ true → routed (cond c (via i) (entry t b m)) ≡ true
    go true z = refl
    go false z = z

pub take_less : (a l : ℕ) (t : List Route) → Presents (without a l t) t
take_less a l t b m e = go (same a l b m) (sym (ap routed (entry_step (taking a l) t b m)) ∙ e)
  where
    go : (c : Bool) → routed (cond c none (entry t b m)) ≡ true → routed (entry t b m) ≡ true
    go true z = absurd (false≢true z)
    go false z = z

-- Without a prefix that is absent a table stays.
pub without_absent : (a l : ℕ) (t : List Route) → present t a l ≡ false → without a l t ≡ t
without_absent a l [] e = refl
without_absent a l (r ∷ t) e = go (same r.addr r.len a l) e (without_absent a l t)
  where
    go : (b : Bool) → routed (cond b (via r.hop) (entry t a l)) ≡ false → (present t a l ≡ false → without a l t ≡ t)
        → cond (not b) (r ∷ without a l t) (without a l t) ≡ r ∷ t
    go true q ih = absurd (true≢false q)
    go false q ih = ap (λ (u : List Route). r ∷ u) (ih q)

-- ---- Nodes and room.

module _ {t : List Route} (v : Table 32 t) where
  pub nodes_old : (r : Route) → Valid 32 r → present t r.addr r.len ≡ true → nodes 32 (put r t) ≤ nodes 32 t
  nodes_old r u p = nodes-present 32 (table_step (putting r) u v) v (put_old r t p)

  pub nodes-hop : (a l h i : ℕ) → Valid 32 (route a l h) → Valid 32 (route a l i) → nodes 32 (put (route a l h) t) ≡ nodes 32 (put (route a l i) t)
  nodes-hop a l h i p q =
      let x = table_step (putting (route a l h)) p v in
      let y = table_step (putting (route a l i)) q v in
      le_antisymm (nodes-present 32 x y (put-hop a l h i t)) (nodes-present 32 y x (put-hop a l i h t))

  pub nodes_less : (a l : ℕ) → nodes 32 (without a l t) ≤ nodes 32 t
  nodes_less a l = nodes-present 32 (table_step (taking a l) tt v) v (take_less a l t)

  -- The words of a map stand in the words of its nodes.
  pub own-words : 2 + 2 * length t ≤ 160 * nodes 32 t
  own-words = omega (arith, records-few 32 v, nodes-some 32 t)
