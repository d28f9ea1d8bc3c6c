-- Wrong live maps that the statements shut out: one that refuses everything, one that never gives a node up, and one that forgets on replace. A map is known
-- by its answers alone: any that the statements allow.
use Prim.Native.Nat.{ℕ, ◌≤◌}
use mathlib.Core.Path.{◌≡◌, refl}
use mathlib.Core.List.{List, [], ◌∷◌}
use native.Mathlib.Omega.{arith}
use lib.ListN.{length}
use Rattle.theory.specs.Routes.{Match, hit}
use Rattle.std.specs.Prelude.{Ok}
use Rattle.refusals.specs.Rules.{gives, refuses}
use Rattle.records.specs.Forms.{by_default}
use Rattle.nodecount.specs.Nodes.{fresh, brought, nodes}
use Rattle.liveroom.specs.Rooms.{shown, fit, Words}
use Rattle.live.specs.Tables.{putting}
use Rattle.live.specs.Calls.{Done, Makes, Puts}
use Rattle.live.specs.Sequences.{Said, changed, found, Runs}
use Rattle.live.specs.Conditions.{MakeCondition, short_room}
use Rattle.live.proofs.Calls.{make_done}
use Rattle.live.proofs.Cases.{emptied, replaced, worked}
use Rattle.live.proofs.Maps.{holds_shown}
use Rattle.live.proofs.Promises.{make_leaves, put_done_exactly}

-- ---- One that refuses everything.

-- In 160 words an empty map is made,
pub made : {room after : List ℕ} {k : Done} → Makes room k after → 160 ≤ length room → k ≡ Ok tt
made {room} {after} {k} ok le = (make_done room k after ok).1 (λ n i c. short n i c)
  where
    short : (n i : ℕ) → MakeCondition room n i → ⊥
    short n i (short_room lt) = omega arith

-- and in it 0.0.0.0/0 is put.
pub first-put : {room after last : List ℕ} {k : Done} → Words room → Makes room (Ok tt) after → Puts after by_default 0 0 0 k last → k ≡ Ok tt
unfolding nodes brought fresh
first-put {room} {after} {last} {k} words make ok =
    let held = make_leaves words make in
    let shows : shown after ≡ [] = holds_shown held in
    let few : length (putting (shown after) 0 0 0) ≤ 1024 = rw shows (omega arith) in
    let fits : nodes 32 (putting (shown after) 0 0 0) ≤ fit after = rw shows held.fits in
    (put_done_exactly ok ([], held) (omega arith) (λ e. refl) (omega arith)).1 (few, fits)

-- ---- The answers to a sequence, one by one.

said-head : {s u : Said} {ss us : List Said} → s ∷ ss ≡ u ∷ us → s ≡ u
said-head e = cc

said_tail : {s u : Said} {ss us : List Said} → s ∷ ss ≡ u ∷ us → ss ≡ us
said_tail e = cc

module _ {room after : List ℕ} (words : Words room) (two : fit room ≡ 2) (make : Makes room (Ok tt) after) where
  -- One that never gives a node up would refuse the fifth call of `emptied`, for nodes.
  pub node_given_up : {a b c d : Said} {n i : ℕ} {more : List Said} → Runs after emptied.calls (a ∷ b ∷ c ∷ d ∷ changed (refuses n i) ∷ more) → ⊥
  node_given_up {a} {b} {c} {d} {n} {i} {more} runs =
      let e = worked.0 room after _ words two make runs in
      let f = said-head (said_tail (said_tail (said_tail (said_tail e)))) in
      let z : ◌≡◌ {A = ℕ} 0 1 = cc in
      omega arith

  -- One that forgets on replace, be it the new hop or the route, would answer the third call of `replaced` otherwise.
  pub hop_kept : {a b : Said} {m : Match} {more : List Said} → Runs after replaced.calls (a ∷ b ∷ found (gives m) ∷ more) → m ≡ hit 8 2
  hop_kept {a} {b} {m} {more} runs =
      let e = worked.1.0 room after _ words two make runs in
      let f = said-head (said_tail (said_tail e)) in
      cc
