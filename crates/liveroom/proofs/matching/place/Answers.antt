-- `matching::place` halves the records that are not yet known. The loop's invariant: those before `from` stand before the prefix, those from `to` on do
-- not. Assumes nothing.
use Prim.Native.Nat.{ℕ, ◌+◌, ◌-◌, ◌/◌}
use mathlib.Core.Path.{◌≡◌, sym, ap₂, ◌∙◌}
use native.Mathlib.Omega.{arith}
use Rattle.table.specs.SizedRules.{before}
use Rattle.nodecount.specs.Nodes.{bare}
use Rattle.liveroom.specs.Rooms.{route_in}
use Rattle.liveroom.proofs.Placing.{before-below, before_above}
use Rattle.liveroom.proofs.matching.place.Goals as goal

pub loop-from-preserved-then-comes_before : goal.loop-from-preserved-then-comes_before
loop-from-preserved-then-comes_before c =
    let middle : ℕ = c.loop-from.from + (c.loop-from.to - c.loop-from.from) / 2 in
    let asked : before (route_in c.args.room.now middle) (bare c.args.addr c.args.len) ≡ c.comes_before.result =
    ap₂ (λ (x y : ℕ). before (bare x y) (bare c.args.addr c.args.len)) (sym c.addr_in.ensures) (sym c.len_in.ensures) ∙ sym c.comes_before.ensures in
    let lp = c.loop-from in
    let is = asked ∙ c.if-comes_before.true in (
      omega arith,
      omega arith,
      λ i h. before-below c.args.room.now c.args.n middle c.args.addr c.args.len c.requires.1 (omega arith) is i (omega arith),
      lp.invariant.3,
    )

pub loop-from-preserved : goal.loop-from-preserved
loop-from-preserved c =
    let middle : ℕ = c.loop-from.from + (c.loop-from.to - c.loop-from.from) / 2 in
    let asked : before (route_in c.args.room.now middle) (bare c.args.addr c.args.len) ≡ c.comes_before.result =
    ap₂ (λ (x y : ℕ). before (bare x y) (bare c.args.addr c.args.len)) (sym c.addr_in.ensures) (sym c.len_in.ensures) ∙ sym c.comes_before.ensures in
    let lp = c.loop-from in
    let is = asked ∙ c.if-comes_before.false in (
      omega arith,
      omega arith,
      lp.invariant.2,
      λ i le h. before_above c.args.room.now c.args.n middle c.args.addr c.args.len c.requires.1 is i le h,
    )
