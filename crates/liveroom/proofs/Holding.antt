-- The nodes of the map that a room holds, and of the map with one more route.
use Prim.Native.Nat.{ℕ, zero, suc, ◌+◌, ◌-◌, ◌≤◌, ◌<◌}
use mathlib.Core.Path.{◌≡◌, refl, sym, ap, ap₂, ◌∙◌}
use mathlib.Core.Bool.{Bool, true, false, true≢false}
use mathlib.Core.List.{List, [], ◌∷◌, ◌++◌}
use native.Mathlib.Omega.{arith}
use lib.ListN.{length, get_or}
use Rattle.theory.specs.Routes.{Route, Table}
use Rattle.nodecount.specs.Nodes.{nodes, new_nodes, bare}
use Rattle.nodecount.proofs.NodeCount.{root, passed, nodes_pass, nodes-most}
use Rattle.nodecount.proofs.NodePass.{passed_bare}
use Rattle.liveroom.specs.Rooms.{mark, route_in, shown_from, shown, count_in, lawful, fit, live}
use Rattle.liveroom.specs.Inner.{Holds, held_nodes, passed_nodes, prior_at, with_at}
use Rattle.liveroom.proofs.Reading.{rest_in, rest_next, rest_end, rest_split, length_from, shown_all}
use Rattle.liveroom.proofs.Sound.{Live, live_is, is_live}

pub nodes-some : (w : ℕ) (t : List Route) → 1 ≤ nodes w t
unfolding nodes
nodes-some w t = omega arith

not_live : (room : List ℕ) → (Live room → ⊥) → live room ≡ false
not_live room k = go (live room) refl
  where
    go : (b : Bool) → live room ≡ b → b ≡ false
    go true e = absurd (k (live_is room e))
    go false e = refl

-- A room that holds no map.
pub held_none : (room : List ℕ) → (Live room → ⊥) → 0 ≡ held_nodes room
held_none room k = rw (not_live room k)

pub too_short : (room : List ℕ) → length room < 160 → Live room → ⊥
too_short room lt l = omega (arith, l.fits, nodes-some 32 (shown room))

-- What the pass says of the room's records.
pub pass_over : (room : List ℕ) (count : ℕ) → count ≡ passed_nodes room (count_in room) → fit room < count → Live room → ⊥
unfolding shown
pass_over room count e lt l =
    let p : count ≡ nodes 32 (shown room) = rw l.kept at e in
    omega (arith, l.fits)

pub pass_held : (room : List ℕ) (count : ℕ) → get_or room 0 0 ≡ mark → count_in room ≤ 1024 → Holds room (count_in room)
    → count ≡ passed_nodes room (count_in room) → count ≤ fit room → count ≡ held_nodes room
unfolding shown
pass_held room count m few h e le = go (lawful (shown room)) refl
  where
    go : (b : Bool) → lawful (shown room) ≡ b → count ≡ held_nodes room
    go true k =
        let p : count ≡ nodes 32 (shown room) = rw k at e in
        let l : live room ≡ true = is_live room (record { marked = m; few = few; holds = h; kept = k; fits = omega arith }) in
        rw l p
    go false k =
        let p : count ≡ 0 = rw k at e in
        p ∙ held_none room (λ l. true≢false (sym l.kept ∙ k))

-- What it means that there are nodes.
pub held-live : (room : List ℕ) (count : ℕ) → count ≡ held_nodes room → (count ≡ 0 → ⊥) → (live room ≡ true) × (count ≡ nodes 32 (shown room))
held-live room count e k = go (live room) refl
  where
    go : (b : Bool) → live room ≡ b → (live room ≡ true) × (count ≡ nodes 32 (shown room))
    go true q = (q, rw q at e)
    go false q = absurd (k (rw q at e))

pub held_dead : (room : List ℕ) (count : ℕ) → count ≡ held_nodes room → count ≡ 0 → live room ≡ false
held_dead room count e z = go (live room) refl
  where
    go : (b : Bool) → live room ≡ b → b ≡ false
    go true q = let p : count ≡ nodes 32 (shown room) = rw q at e in absurd (omega (arith, nodes-some 32 (shown room)))
    go false q = refl

-- ---- The one-pass count over two lists.

-- The last route of a list, where p stands before it.
unfoldable pub last_of : Route → List Route → Route
last_of p [] = p
last_of p (r ∷ t) = last_of r t

pub passed_append : (w : ℕ) (p : Route) (s t : List Route) → passed w p (s ++ t) ≡ passed w p s + passed w (last_of p s) t
unfolding passed last_of
passed_append w p [] t = omega arith
passed_append w p (r ∷ s) t = omega (arith, passed_append w r s t)

-- ---- One more route, at a place.

last_from : (p : Route) (room : List ℕ) (j k : ℕ) → last_of p (shown_from room j (suc k)) ≡ route_in room (j + k)
unfolding shown_from last_of
last_from p room j zero = let e : j + 0 ≡ j = omega arith in rw e
last_from p room j (suc k) =
    let e : j + suc k ≡ suc j + k = omega arith in
    rw e (last_from (route_in room j) room (suc j) k)

passed_prior : (room : List ℕ) (at : ℕ) (t : List Route) → passed 32 (last_of root (shown_from room 0 at)) t ≡ passed 32 (prior_at room at) t
unfolding shown_from last_of
passed_prior room zero t = refl
passed_prior room (suc i) t =
    let e : 0 + i ≡ i = omega arith in
    ap (λ (p : Route). passed 32 p t) (last_from root room 0 i ∙ ap (route_in room) e) ∙ passed_bare 32 (route_in room i) t

module _ (room : List ℕ) (n at : ℕ) (le : at ≤ n) where
  front : ℕ
  front = passed 32 root (shown_from room 0 at)

  split : (t : List Route) → passed 32 root (shown_from room 0 at ++ t) ≡ front + passed 32 (prior_at room at) t
  unfolding front
  split t = passed_append 32 root (shown_from room 0 at) t ∙ ap (λ (m : ℕ). front + m) (passed_prior room at t)

  held_split : Table 32 (shown_from room 0 n) → nodes 32 (shown_from room 0 n) ≡ 1 + (front + passed 32 (prior_at room at) (rest_in room n at))
  held_split v = nodes_pass 32 v ∙ ap (λ (m : ℕ). 1 + m) (ap (passed 32 root) (rest_split room n at le) ∙ split (rest_in room n at))

  with_split : (r : Route) → Table 32 (with_at room n at r)
      → nodes 32 (with_at room n at r) ≡ 1 + (front + (new_nodes 32 (prior_at room at) r + passed 32 r (rest_in room n at)))
  unfolding passed
  with_split r v = nodes_pass 32 v ∙ ap (λ (m : ℕ). 1 + m) (split (r ∷ rest_in room n at))

  module _ (a l held new : ℕ) (table : Table 32 (shown_from room 0 n)) (more : Table 32 (with_at room n at (bare a l)))
      (eh : held ≡ nodes 32 (shown_from room 0 n)) (en : new ≡ new_nodes 32 (prior_at room at) (bare a l)) where
    -- Behind the last record.
    pub with_end : n ≤ at → held + new ≡ nodes 32 (with_at room n at (bare a l))
    unfolding passed
    with_end ge =
        let z : passed 32 (prior_at room at) (rest_in room n at) ≡ 0 = rw (rest_end room n at ge) in
        let y : passed 32 (bare a l) (rest_in room n at) ≡ 0 = rw (rest_end room n at ge) in
        omega (arith, held_split table, with_split (bare a l) more)

    -- Before record at, which brings `after` beside the route, and brought `gone` beside the record before it.
    module _ (lt : at < n) (b m after gone : ℕ) (eb : b ≡ (route_in room at).addr) (em : m ≡ (route_in room at).len)
        (ea : after ≡ new_nodes 32 (bare a l) (bare b m)) (eg : gone ≡ new_nodes 32 (prior_at room at) (bare b m)) where
      rests : (p : Route) → passed 32 p (rest_in room n at) ≡ new_nodes 32 p (bare b m) + passed 32 (route_in room at) (rest_in room n (at + 1))
      unfolding passed
      rests p =
          ap (passed 32 p) (rest_next room n at lt)
          ∙ ap₂ (λ (x y : ℕ). new_nodes 32 p (bare x y) + passed 32 (route_in room at) (rest_in room n (at + 1))) (sym eb) (sym em)

      pub gone-small : gone ≤ held + new + after
      gone-small = omega (arith, held_split table, rests (prior_at room at))

      pub with_next : held + new + after - gone ≡ nodes 32 (with_at room n at (bare a l))
      with_next = omega (arith, held_split table, with_split (bare a l) more, rests (prior_at room at), rests (bare a l))

-- The lengths of a table's records, and how many nodes there can be.
pub record_short : (room : List ℕ) (n i : ℕ) → Table 32 (shown_from room 0 n) → i < n → (route_in room i).len ≤ 32
record_short room n i v lt = (shown_all room 0 n v.valid i (omega arith) (omega arith)).short

pub prior_short : (room : List ℕ) (n at : ℕ) → Table 32 (shown_from room 0 n) → at ≤ n → (prior_at room at).len ≤ 32
prior_short room n zero v le = omega arith
prior_short room n (suc i) v le = record_short room n i v (omega arith)

pub held_small : (room : List ℕ) (n : ℕ) → Table 32 (shown_from room 0 n) → n ≤ 1024 → nodes 32 (shown_from room 0 n) ≤ 5153
held_small room n v le = nodes-most 32 v (omega (arith, length_from room 0 n))
