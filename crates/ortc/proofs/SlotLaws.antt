-- A slot of a node, as both walks find it: what its addresses are answered, and its block in the room of sets.
use Prim.Native.Nat.{ℕ, ◌+◌, ◌*◌, ◌/◌, ◌<◌}
use mathlib.Core.Path.{◌≡◌, sym, ap, subst}
use mathlib.Core.List.{List}
use mathlib.Core.Logic.{◌↔◌}
use native.Mathlib.Omega.{arith}
use lib.ListN.{length, get_or}
use Rattle.theory.specs.Routes.{Route, Answer}
use Rattle.theory.proofs.Agree.{Agree, sets-agree}
use Rattle.positions.specs.Runs.{inside, Run, hop_of, or_else, size_at, place_at, cover}
use Rattle.positions.proofs.Runs.{Nested, nested_self, inside_nested}
use Rattle.positions.proofs.RunsNode.{place_nested, slot-answer}
use Rattle.nodes.specs.Node.{wide, run, slot_size, Node}
use Rattle.nodes.specs.Room.{Block, nodes_deep}
use Rattle.nodes.proofs.RoomBlocks.{BlockAt, run_length, slot-some, deep_step, block-agree}
use Rattle.gather.specs.Gathered.{run_at, Gathered, covering_at}
use Rattle.gather.proofs.GatherLaws.{node-run, slot-records, covering_is}
use Rattle.assign.specs.Answers.{answer_in, ShowsNode, set_words}

-- ---- A position, by answers that agree on its addresses.

-- They agree on the positions inside.
pub agree_nested : {f f' : ℕ → Answer} {k b n a : ℕ} → Nested k b n a → Agree f f' n a → Agree f f' k b
agree_nested i h x e = h x (omega (arith, i.from, i.upto))

module _ {f f' : ℕ → Answer} where
  -- The words that show the candidates of a node by one show those by the other.
  pub node-agree : (m a : ℕ) (xs : List ℕ) → Agree f f' (m + 5) a → ShowsNode f m a xs → ShowsNode f' m a xs
  node-agree m a xs h s =
      record {
        count = s.count;
        places = λ l j le lt. rw (sets-agree f f' (size_at m l) (place_at m a l j) (agree_nested (place_nested m a l j le lt) h)) at (s.places l j le lt);
      }

  -- A block of the one is a block of the other.
  pub sets-block : (k a : ℕ) (t : List Route) (ws : List ℕ) → inside wide (5 * k) a t ≡ t → Agree f f' (5 * k) a
      → Block (set_words f) k a t ws → Block (set_words f') k a t ws
  sets-block k a t ws whole h =
      block-agree (set_words f) (set_words f') k a t ws whole (λ m b s u i e w. (w.0, node-agree m b w.0 (agree_nested i h) w.1, w.2))

-- ---- A slot of a node.

-- An address of a slot is answered in its node as by the slot's own routes, where what covers the position above the slot covers them.
pub slot-agree : (m a : ℕ) {t : List Route} → Run wide (m + 5) a t → (g d : Answer) (c : ℕ) → c < 32
    → Agree (answer_in t g d) (answer_in (inside wide m (place_at m a 5 c) t) (cover wide m a t g 4 (c / 2)) d) m (place_at m a 5 c)
slot-agree m a n g d c lt x i = ap (λ (v : Answer). or_else v d) (slot-answer wide m a n g c x lt i)

-- Slot c, as the pass over the node found its records, where `cov` covers the position above it:
module _ {size : ℕ} {t : List ℕ} {lo hi depth key : ℕ} {first end : List ℕ} {present : ℕ} (n : Node size t lo hi depth key)
    (g : Gathered size t lo hi depth key first end present) (inherited fill c : ℕ) {cov : ℕ} (small : c < 32)
    (is : cov ≡ covering_at size t first end inherited 4 (c / 2)) where
  -- What the node answers, and what the slot does.
  abbrev in_node : ℕ → Answer
  in_node = answer_in (run size t lo hi) (hop_of inherited) (hop_of fill)

  abbrev in_slot : ℕ → Answer
  in_slot = answer_in (run_at size t first end (31 + c)) (hop_of cov) (hop_of fill)

  -- They answer the addresses of the slot alike.
  pub slot_alike : Agree in_node in_slot (slot_size depth) (place_at (slot_size depth) key 5 c)
  slot_alike =
      rw (slot-records g c small, is, covering_is n g inherited 4 (c / 2) (omega arith) (omega arith))
      (slot-agree (slot_size depth) key (node-run n) (hop_of inherited) (hop_of fill) c small)

  -- A slot with records has routes inside.
  pub slot-some-routes : get_or first (31 + c) 0 < get_or end (31 + c) 0
      → 0 < length (inside wide (slot_size depth) (place_at (slot_size depth) key 5 c) (run size t lo hi))
  slot-some-routes some =
      subst (λ (rs : List Route). 0 < length rs) (slot-records g c small)
      (omega (arith, run_length size t (get_or first (31 + c) 0) (get_or end (31 + c) 0)))

  -- Its block in the node's is the block of its own node.
  pub slot-block : get_or first (31 + c) 0 < get_or end (31 + c) 0 → (u : List ℕ)
      → BlockAt (Block (set_words in_node) (nodes_deep (depth + 5))) (slot_size depth) key (run size t lo hi) c u
      ↔ Block (set_words in_slot) (nodes_deep (depth + 5)) (place_at (slot_size depth) key 5 c) (run_at size t first end (31 + c)) u
  slot-block some u = (
    λ b. sets-block (nodes_deep (depth + 5)) place slot_routes u whole alike (rw routes (node.0 b)),
    λ b. node.1 (rw routes at (sets-block (nodes_deep (depth + 5)) place slot_routes u whole (λ x i. sym (alike x i)) b)),
  )
    where
      place : ℕ
      place = place_at (slot_size depth) key 5 c

      slot_routes : List Route
      slot_routes = run_at size t first end (31 + c)

      routes : slot_routes ≡ inside wide (slot_size depth) place (run size t lo hi)
      routes = slot-records g c small

      bits_below : 5 * nodes_deep (depth + 5) ≡ slot_size depth
      bits_below = (deep_step depth n.level n.fives n.at.deep).1

      whole : inside wide (5 * nodes_deep (depth + 5)) place slot_routes ≡ slot_routes
      whole = rw (bits_below, routes) (inside_nested wide (nested_self (slot_size depth) place) (run size t lo hi))

      alike : Agree in_node in_slot (5 * nodes_deep (depth + 5)) place
      alike = rw bits_below slot_alike

      node : BlockAt (Block (set_words in_node) (nodes_deep (depth + 5))) (slot_size depth) key (run size t lo hi) c u
          ↔ Block (set_words in_node) (nodes_deep (depth + 5)) place (inside wide (slot_size depth) place (run size t lo hi)) u
      node =
          slot-some (Block (set_words in_node) (nodes_deep (depth + 5))) place (inside wide (slot_size depth) place (run size t lo hi)) u (slot-some-routes some)
