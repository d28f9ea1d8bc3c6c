-- `matching::longest_in` goes back from place to place. The loop's invariant: no record from i on matches, and those before it stand at no higher address.
-- Assumes nothing.
use Prim.Native.Nat.{ℕ, ◌+◌, ◌-◌, ◌≤◌, ◌<◌}
use mathlib.Core.Path.{◌≡◌, sym, subst, ◌∙◌}
use mathlib.Core.Bool.{false}
use mathlib.Core.List.{List}
use native.Mathlib.Decide.{dec_lt}
use native.Mathlib.Omega.{arith}
use Rattle.theory.specs.Results.{start_of}
use Rattle.theory.specs.Routes.{matches}
use Rattle.liveroom.specs.Rooms.{route_in}
use Rattle.liveroom.specs.Inner.{Placed, Shared}
use Rattle.liveroom.proofs.Looking.{asked_matches, past-place, before-place, order_to, skipped, last_match, no_match}
use Rattle.liveroom.proofs.matching.longest_in.Goals as goal

pub loop-i-init : goal.loop-i-init
loop-i-init c =
    let table = c.requires.1.0 in (
      c.place-i.ensures.low,
      past-place c.args.room.now c.args.n c.args.address table _ c.place-i.ensures,
      before-place c.args.room.now c.args.n c.args.address table _ c.place-i.ensures,
    )

pub returns-then-contains : goal.returns-then-contains
returns-then-contains c =
    let told : c.contains.result ≡ matches 32 (route_in c.args.room.now (c.loop-i.i - 1)) c.args.address = let i = c.loop-i.i - 1 in let le : c.len_in-length.result ≤ 32 = omega (arith, c.requires.1.1 i (omega arith), c.len_in-length.ensures) in c.contains.ensures ∙ asked_matches (route_in c.args.room.now i) c.args.address _ _ c.addr_in-addr.ensures c.len_in-length.ensures le in
    let i = c.loop-i.i - 1 in
    last_match c.args.room.now c.args.n c.args.address c.requires.1.0 i _ _ (omega arith) c.len_in-length.ensures c.hop_in.ensures
    (sym told ∙ c.if-contains.true) (λ k l h. c.loop-i.invariant.1 k (omega arith) h)

pub place-i-requires-in-loop-i : goal.place-i-requires-in-loop-i
place-i-requires-in-loop-i c =
    let holds = c.requires.0 in
    (omega arith, order_to c.args.room.now c.args.n c.args.address c.requires.1.0 _ (omega arith))

pub loop-i-preserved : goal.loop-i-preserved
loop-i-preserved c =
    let told : c.contains.result ≡ matches 32 (route_in c.args.room.now (c.loop-i.i - 1)) c.args.address = let i = c.loop-i.i - 1 in let le : c.len_in-length.result ≤ 32 = omega (arith, c.requires.1.1 i (omega arith), c.len_in-length.ensures) in c.contains.ensures ∙ asked_matches (route_in c.args.room.now i) c.args.address _ _ c.addr_in-addr.ensures c.len_in-length.ensures le in
    let room = c.args.room.now in
    let x = c.args.address in
    let lp = c.loop-i in
    let i = lp.i - 1 in
    let miss_i : matches 32 (route_in room i) x ≡ false = sym told ∙ c.if-contains.false in
    let shared : Shared (route_in room i).addr x c.shared_bits-shared.result =
    subst (λ (a : ℕ). Shared a x c.shared_bits-shared.result) c.addr_in-addr.ensures c.shared_bits-shared.ensures in
    let p : Placed room i (start_of (32 - c.shared_bits-shared.result) x) (c.shared_bits-shared.result + 1) c.place-i-in-loop-i.result =
    subst (λ (m : ℕ). Placed room i m (c.shared_bits-shared.result + 1) c.place-i-in-loop-i.result) c.masked.ensures c.place-i-in-loop-i.ensures in
    let at_low = p.low in (
      omega arith,
      λ k l h.
          back room x i k miss_i (λ le. lp.invariant.1 k (omega arith) h)
          (skipped room c.args.n x c.requires.1.0 i _ _ (omega arith) (lp.invariant.2 i (omega arith)) miss_i shared p k l),
      λ k h. lp.invariant.2 k (omega arith),
    )
  where
    -- A record before i, record i, or one behind it.
    back : (room : List ℕ) (x i k : ℕ) → matches 32 (route_in room i) x ≡ false → (i < k → matches 32 (route_in room k) x ≡ false)
        → (k < i → matches 32 (route_in room k) x ≡ false) → matches 32 (route_in room k) x ≡ false
    back room x i k here behind ahead = go (dec_lt k i) (dec_lt i k)
      where
        go : Dec (k < i) → Dec (i < k) → matches 32 (route_in room k) x ≡ false
        go (yes a) b = ahead a
        go (no a) (yes b) = behind b
        go (no a) (no b) = let e : i ≡ k = omega arith in rw e at here

pub returns : goal.returns
returns c =
    no_match c.args.room.now c.args.n c.args.address c.requires.1.0 c.loop-i.i (omega arith) c.loop-i.invariant.1
