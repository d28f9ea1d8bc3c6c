-- `check::pass` goes through the records once. Assumes nothing.
use Prim.Native.Nat.{ℕ, ◌+◌, ◌≤◌, ◌<◌}
use mathlib.Core.Bool.{true, ◌&&◌}
use mathlib.Core.List.{List}
use mathlib.Core.Path.{◌≡◌, refl, sym, ap, ◌∙◌}
use native.Mathlib.Omega.{arith}
use Rattle.theory.specs.Routes.{Route}
use Rattle.records.specs.Sized.{route}
use Rattle.table.specs.SizedRules.{before}
use Rattle.nodecount.proofs.NodeCount.{root, passed}
use Rattle.nodecount.specs.Nodes.{bare}
use Rattle.liveroom.specs.Rooms.{shown_from, sound}
use Rattle.liveroom.proofs.Passing.{follows_short, done_order, done_count, sound-short, no_records, passed_false, passed_true, next_good, next_bad, next-count, first_good, first_bad}
use Rattle.liveroom.proofs.Reading.{rest_in, rest_all}
use Rattle.liveroom.proofs.check.pass.Goals as goal

pos : (n : ℕ) → (n ≡ 0 → ⊥) → 0 < n
pos n k = omega arith

pub returns-then-n-eq0 : goal.returns-then-n-eq0
returns-then-n-eq0 c = no_records c.args.room.now c.args.n c.if-n-eq0.true

pub returns-then-not-is_sound : goal.returns-then-not-is_sound
returns-then-not-is_sound c =
    let a = c.args in
    let some : 0 < a.n = pos a.n c.if-n-eq0.false in
    passed_false a.room.now a.n
    (first_bad a.room.now a.n 0 _ _ _ some c.addr_in-last_addr.ensures c.len_in-last_len.ensures c.hop_in.ensures refl
    (sym c.is_sound.ensures ∙ c.if-not-is_sound.true))

pub loop-i-init : goal.loop-i-init
loop-i-init c =
    let first-sound : sound (route c.addr_in-last_addr.result c.len_in-last_len.result c.hop_in.result) ≡ true = sym c.is_sound.ensures ∙ c.if-not-is_sound.false in
    let a = c.args in
    let some : 0 < a.n = pos a.n c.if-n-eq0.false in
    let e : 1 + passed 32 root (rest_in a.room.now a.n 0) ≡ 1 + passed 32 root (shown_from a.room.now 0 a.n) =
    ap (λ (t : List Route). 1 + passed 32 root t) (rest_all a.room.now a.n 0 refl) in (
      sound-short _ _ c.hop_in.result first-sound,
      omega (arith, c.brought-count.ensures.1),
      first_good a.room.now a.n 0 _ _ _ some c.addr_in-last_addr.ensures c.len_in-last_len.ensures c.hop_in.ensures refl
          first-sound,
      next-count a.room.now a.n 0 _ _ _ some c.addr_in-last_addr.ensures c.len_in-last_len.ensures c.hop_in.ensures root 1 _ _
          c.brought-count.ensures.0 e,
    )

pub returns-then-not-follows : goal.returns-then-not-follows
returns-then-not-follows c =
    let a = c.args in
    let l = c.loop-i in
    passed_false a.room.now a.n
    (l.invariant.2
    ∙ next_bad a.room.now a.n l.i _ _ _ (omega arith) c.addr_in-addr.ensures c.len_in-len.ensures
    c.hop_in-in-loop-i.ensures (bare l.last_addr l.last_len) (sym c.follows.ensures ∙ c.if-not-follows.true))

pub loop-i-preserved : goal.loop-i-preserved
loop-i-preserved c =
    let went : (before (bare c.loop-i.last_addr c.loop-i.last_len) (route c.addr_in-addr.result c.len_in-len.result c.hop_in-in-loop-i.result) && sound (route c.addr_in-addr.result c.len_in-len.result c.hop_in-in-loop-i.result)) ≡ true = sym c.follows.ensures ∙ c.if-not-follows.false in
    let a = c.args in
    let l = c.loop-i in
    let lt : l.i < a.n = omega arith in
    let b = c.brought-count-in-loop-i.ensures in (
      follows_short (bare l.last_addr l.last_len) _ _ c.hop_in-in-loop-i.result went,
      omega arith,
      l.invariant.2
          ∙ next_good a.room.now a.n l.i _ _ _ lt c.addr_in-addr.ensures c.len_in-len.ensures c.hop_in-in-loop-i.ensures
          (bare l.last_addr l.last_len) went,
      next-count a.room.now a.n l.i _ _ _ lt c.addr_in-addr.ensures c.len_in-len.ensures c.hop_in-in-loop-i.ensures
          (bare l.last_addr l.last_len) l.count _ _ b.0 l.invariant.3,
    )

pub returns : goal.returns
returns c =
    let a = c.args in
    let l = c.loop-i in
    let end : a.n ≤ l.i = omega arith in
    passed_true a.room.now a.n l.count (λ k. (c.type_inv.room k).fits)
    (l.invariant.2 ∙ done_order a.room.now a.n l.i (bare l.last_addr l.last_len) end)
    (omega (arith, l.invariant.3, done_count a.room.now a.n l.i (bare l.last_addr l.last_len) end))
