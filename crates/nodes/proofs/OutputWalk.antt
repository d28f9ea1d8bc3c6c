-- A node's walk, written slot by slot: at each slot the code lends a tail of the output for the entries that begin there, and then another for
-- the slot's own node, if it walks that; slots at which nothing is written it may pass over. Assumes nothing.
use Prim.Native.Nat.{ℕ, zero, suc, ◌+◌, ◌-◌, ◌*◌, ◌/◌, ◌%◌, ◌^◌, ◌≤◌, ◌<◌}
use mathlib.Core.Path.{◌≡◌, refl, sym, ◌∙◌}
use mathlib.Core.Bool.{Bool, true, false, true≢false}
use mathlib.Core.List.{List, [], ◌++◌}
use native.Mathlib.Omega.{arith}
use lib.Dec.{eqb}
use lib.ListN.{length, take, drop}
use borrow.Author.Tests.{eqb-true}
use Rattle.theory.specs.Routes.{Route}
use Rattle.records.specs.Sized.{IsSize}
use Rattle.words.specs.Bits.{bit}
use Rattle.words.specs.Positions.{position}
use Rattle.positions.specs.Runs.{place_at}
use Rattle.positions.specs.Walk.{heads_of, starts_at, heads, slots}
use Rattle.positions.proofs.Counts.{slots_fewer}
use Rattle.nodes.specs.Node.{slot_size}
use Rattle.nodes.specs.Output.{Wrote, entry_at, slot_heads, HeadSlots}
use Rattle.nodes.proofs.OutputLaws.{wrote_none, wrote_tail, wrote_count, slots-zero, slots-past, slots_more}

-- The tail of the output from `at` on, as it is lent, and the output once the tail is ys.
abbrev pub lent : ℕ → List ℕ → List ℕ
lent at o = take (length o - at) (drop at o)

abbrev pub relaid : ℕ → List ℕ → List ℕ → List ℕ
relaid at ys o = take at o ++ (ys ++ drop (length o - at) (drop at o))

-- `at` is where n records of this size end in the output, if they fit there.
abbrev pub Past : ℕ → ℕ → ℕ → List ℕ → Type 0
Past size n at o = (at ≤ length o) × (n * size ≤ length o → at ≡ n * size)

-- The first c slots of a node are written, n records in all, where o was.
pub record Walked (size entries : ℕ) (hops : List ℕ) (depth key : ℕ) (slot : ℕ → List Route) (c n : ℕ) (o o' : List ℕ) : Type 0 where
  pub of_size : IsSize size
  pub within : c ≤ 32
  pub sized : length o' ≡ length o
  pub wrote : Wrote size (slots (entry_at entries hops depth key) slot c) 0 n o o'

-- And so are the entries that begin at slot c: with the slot's own the slot is written.
pub record Begun (size entries : ℕ) (hops : List ℕ) (depth key : ℕ) (slot : ℕ → List Route) (c n : ℕ) (o o' : List ℕ) : Type 0 where
  pub of_size : IsSize size
  pub within : c < 32
  pub sized : length o' ≡ length o
  pub then : (k : ℕ) (o'' : List ℕ) → Wrote size (slot c) n k o' o'' → Wrote size (slots (entry_at entries hops depth key) slot (c + 1)) 0 k o o''

module _ {size entries : ℕ} {hops : List ℕ} {depth key : ℕ} {slot : ℕ → List Route} where
  -- Before the first slot nothing is written.
  pub walked_none : IsSize size → (o : List ℕ) → Walked size entries hops depth key slot 0 0 o o
  walked_none is o = record { of_size = is; within = omega arith; sized = refl; wrote = rw slots-zero (wrote_none is 0 o) }

  -- The entries that begin at the next slot, on the tail that was lent for them.
  pub begun : {c n at e half : ℕ} {o o' ys : List ℕ} → Walked size entries hops depth key slot c n o o' → c < 32 → Past size n at o'
      → half ≡ place_at (slot_size depth) key 5 c / 2
      → ((a : ℕ) → a / 2 ≡ half → Wrote size (slot_heads entries hops depth a c 5) 0 e (lent at o') ys)
      → length (relaid at ys o') ≡ length o' → Begun size entries hops depth key slot c (n + e) o (relaid at ys o')
  begun {c} {n} {at} {e} {half} {o} {o'} {ys} w lt past is heads same =
      record {
        of_size = w.of_size;
        within = lt;
        sized = same ∙ w.sized;
        then = λ k o'' own. slots_more w.of_size entries hops depth key slot c w.wrote w.sized
            (wrote_tail w.of_size o' ys at past.1 past.0 (heads (place_at (slot_size depth) key 5 c) (sym is))) same own;
      }

  -- With the slot's own they are no more than the node's.
  pub begun_few : {c n : ℕ} {o o' : List ℕ} → Begun size entries hops depth key slot c n o o'
      → n + length (slot c) ≤ length (slots (entry_at entries hops depth key) slot 32)
  begun_few {c} {n} b =
      let all = wrote_count (b.then (n + length (slot c)) _ (record { counted = refl; laid = λ fits. refl })) in
      omega (arith, slots_fewer 5 (entry_at entries hops depth key) slot (c + 1) 32 (omega (arith, b.within)))

  -- A slot with nothing of its own is written then,
  pub walked_alone : {c n : ℕ} {o o' : List ℕ} → Begun size entries hops depth key slot c n o o' → slot c ≡ []
      → Walked size entries hops depth key slot (c + 1) n o o'
  walked_alone {c} {n} {o} {o'} b e =
      record { of_size = b.of_size; within = omega (arith, b.within); sized = b.sized; wrote = b.then n o' (rw e (wrote_none b.of_size n o')) }

  -- another once its own node is, on the tail that was lent for it.
  pub walked_child : {c n : ℕ} {o o' : List ℕ} → Begun size entries hops depth key slot c n o o' → {k at : ℕ} {ys : List ℕ} → Past size n at o'
      → Wrote size (slot c) 0 k (lent at o') ys → length (relaid at ys o') ≡ length o'
      → Walked size entries hops depth key slot (c + 1) (n + k) o (relaid at ys o')
  walked_child {c} {n} {o} {o'} b {k} {at} {ys} past own same =
      record {
        of_size = b.of_size;
        within = omega (arith, b.within);
        sized = same ∙ b.sized;
        wrote = b.then (n + k) (relaid at ys o') (wrote_tail b.of_size o' ys at past.1 past.0 own);
      }

  -- A slot at which no entry begins and that has nothing of its own may be passed over.
  pub walked_over : {c n : ℕ} {o o' : List ℕ} → Walked size entries hops depth key slot c n o o' → c < 32
      → heads (entry_at entries hops depth key) 5 c ≡ [] → slot c ≡ [] → Walked size entries hops depth key slot (c + 1) n o o'
  walked_over {c} w lt none own =
      record {
        of_size = w.of_size;
        within = omega arith;
        sized = w.sized;
        wrote = rw (slots-past (entry_at entries hops depth key) slot c none own) w.wrote;
      }

  -- After all 32 the node is written.
  pub walked_all : {c n : ℕ} {o o' : List ℕ} → Walked size entries hops depth key slot c n o o' → 32 ≤ c
      → Wrote size (slots (entry_at entries hops depth key) slot 32) 0 n o o'
  walked_all {c} w all = let full : c ≡ 32 = omega (arith, w.within) in rw full at w.wrote

-- ---- A slot whose bit is not marked.

module _ (entries marked : ℕ) (heads-marked : HeadSlots entries marked) (hops : List ℕ) (depth key c : ℕ) (within : c < 32)
    (clear : bit marked c ≡ false) where
  -- A position that begins there has no entry.
  no_entry : (l : ℕ) → l < 5 → c % 2 ^ (5 - l) ≡ 0 → (b : Bool) → bit entries (position l (c / 2 ^ (5 - l))) ≡ b → b ≡ false
  no_entry l lt z false e = refl
  no_entry l lt z true e = absurd (true≢false (sym (heads-marked c l within lt z e) ∙ clear))

  -- No entry of one level begins there,
  no_start : (l : ℕ) → l < 5 → starts_at (entry_at entries hops depth key) l c ≡ []
  no_start l lt = go (eqb (c % 2 ^ (5 - l)) 0) refl
    where
      go : (b : Bool) → eqb (c % 2 ^ (5 - l)) 0 ≡ b → starts_at (entry_at entries hops depth key) l c ≡ []
      go true e = rw (e, no_entry l lt (eqb-true (c % 2 ^ (5 - l)) 0 e) (bit entries (position l (c / 2 ^ (5 - l)))) refl)
      go false e = rw e

  -- and none of the first levels.
  no_levels : (l : ℕ) → l ≤ 5 → heads (entry_at entries hops depth key) l c ≡ []
  unfolding heads_of
  no_levels zero le = refl
  no_levels (suc l) le = rw (no_levels l (omega arith), no_start l (omega arith))

  -- Where a slot's bit is not marked, no entry begins there.
  pub no_heads : heads (entry_at entries hops depth key) 5 c ≡ []
  no_heads = no_levels 5 (omega arith)
