-- Loops over a node's slots that visit only those whose bits are set in a word, and pass over the others. At each other slot a walk has nothing to
-- write, and no block to read. Assumes nothing.
use Prim.Native.Nat.{ℕ, zero, suc, ◌+◌, ◌-◌, ◌≤◌, ◌<◌}
use mathlib.Core.Path.{◌≡◌}
use mathlib.Core.Bool.{false}
use mathlib.Core.List.{List, []}
use native.Mathlib.Omega.{arith}
use lib.Bits.{bit_or}
use lib.ListN.{get_or}
use Rattle.theory.specs.Routes.{Route}
use Rattle.words.specs.Bits.{bit, NextBit, LastBit}
use Rattle.words.proofs.BitLaws.{neither}
use Rattle.positions.specs.Runs.{inside, place_at}
use Rattle.positions.specs.Walk.{heads}
use Rattle.nodes.specs.Node.{wide, run, slot_size}
use Rattle.nodes.specs.Output.{entry_at, HeadSlots}
use Rattle.nodes.proofs.OutputWalk.{Walked, walked_over, no_heads}
use Rattle.nodes.proofs.RoomWalk.{Ahead, ahead_skip}
use Rattle.gather.specs.Gathered.{Gathered, Occupied}
use Rattle.gather.proofs.GatherLaws.{no_child, slot_vacant}

-- ---- From one bit that is set to the next.

-- What goes up over each bit that is not set goes up to the next that is,
pub next-steps : (P : ℕ → Type 0) {x c r : ℕ} → NextBit x c r → ((i : ℕ) → i < 32 → bit x i ≡ false → P i → P (i + 1)) → P c → P r
next-steps P {x} {c} {r} next over p = go (r - c) c (omega (arith, next.low)) (omega arith) p
  where
    go : (d i : ℕ) → i + d ≡ r → c ≤ i → P i → P r
    go zero i e low q = let same : i ≡ r = omega arith in rw same at q
    go (suc d) i e low q = go d (i + 1) (omega arith) (omega arith) (over i (omega (arith, next.high)) (next.clear i low (omega arith)) q)

-- and what goes down over each goes down to one past the last that is.
pub last_steps : (P : ℕ → Type 0) {x b r : ℕ} → LastBit x b r → ((i : ℕ) → i < b → bit x i ≡ false → P (i + 1) → P i) → P b → P r
last_steps P {x} {b} {r} last over p = go (b - r) r (omega (arith, last.high)) (omega arith)
  where
    go : (d i : ℕ) → i + d ≡ b → r ≤ i → P i
    go zero i e low = let same : i ≡ b = omega arith in rw same p
    go (suc d) i e low = over i (omega arith) (last.clear i low (omega arith)) (go d (i + 1) (omega arith) (omega arith))

-- ---- A word of the slots of a node to visit.

-- At a slot whose bit is not set no entry begins, it has nothing of its own, and none of the routes lies in it.
pub record Busy (entries : ℕ) (hops : List ℕ) (depth key : ℕ) (slot : ℕ → List Route) (routes : List Route) (busy : ℕ) : Type 0 where
  pub rest : (c : ℕ) → c < 32 → bit busy c ≡ false
      → (heads (entry_at entries hops depth key) 5 c ≡ [])
      × (slot c ≡ [])
      × (inside wide (slot_size depth) (place_at (slot_size depth) key 5 c) routes ≡ [])

-- It is so of the word of the slots with a record and those at which an entry begins, if a slot without a record has nothing of its own.
pub busy_slots : {size : ℕ} {t : List ℕ} {lo hi depth key : ℕ} {first end : List ℕ} {present : ℕ} → Gathered size t lo hi depth key first end present
    → (occupied : ℕ) → Occupied size t lo hi depth key occupied → (entries marked : ℕ) → HeadSlots entries marked → (hops : List ℕ)
    → {slot : ℕ → List Route} → ((c : ℕ) → c < 32 → get_or end (31 + c) 0 ≤ get_or first (31 + c) 0 → slot c ≡ [])
    → Busy entries hops depth key slot (run size t lo hi) (bit_or occupied marked)
busy_slots {depth = depth} {key} g occupied records entries marked starts hops without =
    record {
      rest = λ c lt off.
          let both = neither occupied marked c off in
          let none = slot_vacant g occupied records c lt both.0 in
          (no_heads entries marked starts hops depth key c lt both.1, without c lt none, no_child g c lt none);
    }

-- What is written up to a slot is written up to the next one whose bit is set,
pub walked_next : {size entries : ℕ} {hops : List ℕ} {depth key : ℕ} {slot : ℕ → List Route} {routes : List Route} {busy c r n : ℕ} {o o' : List ℕ}
    → Busy entries hops depth key slot routes busy → NextBit busy c r → Walked size entries hops depth key slot c n o o'
    → Walked size entries hops depth key slot r n o o'
walked_next {size} {entries} {hops} {depth} {key} {slot} {n = n} {o} {o'} b next =
    next-steps (λ c. Walked size entries hops depth key slot c n o o') next (λ i lt off w. let z = b.rest i lt off in walked_over w lt z.0 z.1)

-- and what is read of the blocks of the slots before it is read of those before that one.
pub ahead_past : {entries : ℕ} {hops : List ℕ} {depth key : ℕ} {slot : ℕ → List Route} {deeper : ℕ → ℕ → List Route → List Route}
    {own : ℕ → ℕ → List Route → List ℕ → Type 0} {t : List Route} {busy c r top at : ℕ} {o : List ℕ}
    → Busy entries hops depth key slot (deeper (slot_size depth) key t) busy → NextBit busy c r → Ahead deeper own t depth key top o c at
    → Ahead deeper own t depth key top o r at
ahead_past {depth = depth} {key} {deeper = deeper} {own} {t} {top = top} {at} {o} b next =
    next-steps (λ c. Ahead deeper own t depth key top o c at) next (λ i lt off h. ahead_skip h lt (b.rest i lt off).2)
