-- `count_nodes`: the count so far and what the rest of the table brings beside the record before make the nodes of the table. Assumes nothing.
use mathlib.Core.Path.{◌≡◌}
use mathlib.Core.Logic.{inl, inr}
use Prim.Native.Nat.{ℕ, ◌+◌, ◌*◌, ◌/◌, ◌≤◌, ◌<◌}
use native.Mathlib.Nat.{mul-suc}
use native.Mathlib.Omega.{arith}
use lib.ListN.{length}
use Rattle.records.specs.Sized.{IsSize, width_in, records_in, route_in}
use Rattle.records.proofs.SizedReading.{width_most, record_fits, in_all_next}
use Rattle.nodecount.specs.Nodes.{bare, new_nodes}
use Rattle.nodecount.proofs.NodePass.{pass_start, pass_next, pass_end, len-small, new_small}
use Rattle.nodecount.proofs.count_nodes.Goals as goal

-- A record brings fewer nodes than it has bytes.
few : (size : ℕ) → IsSize size → (new : ℕ) → new ≤ width_in size / 5 → new + 2 ≤ size
few size (inl e) new le = omega arith
few size (inr e) new le = omega arith

module _ (c : goal.After-new_nodes-count) where
  -- What record i brings, beside the record before.
  brings : c.new_nodes-count.result ≡ new_nodes (width_in c.args.size) (bare c.loop-i.invariant.1.0 c.loop-i.last_len)
      (bare (route_in c.args.size c.args.table.now c.loop-i.i).addr c.length_at-len.result)
  brings =
      let w = width_in c.args.size in
      let short = len-small c.args.size w c.args.table.now c.loop-i.i (omega arith) c.length_at-len.result c.length_at-len.ensures c.loop-i.invariant.2 in
      c.new_nodes-count.ensures w (route_in c.args.size c.args.table.now c.loop-i.i).addr c.loop-i.invariant.1.0 (width_most c.args.size c.requires.0) short
      c.key_at-key.ensures c.loop-i.invariant.1.1

  -- That is less than the record's bytes, and those are in the table.
  small : (c.new_nodes-count.result + 2 ≤ c.args.size)
      × (c.args.size * c.loop-i.i + c.args.size
      ≤ length c.args.table.now)
  small =
      let t = c.args.table.now in (
        few c.args.size c.requires.0 c.new_nodes-count.result
            (new_small c.args.size (width_in c.args.size) t c.loop-i.i (omega arith) _ _ _ _ c.length_at-len.ensures brings c.loop-i.invariant.2),
        record_fits c.args.size c.requires.0 t c.loop-i.i (omega arith),
      )

pub loop-i-init : goal.loop-i-init
loop-i-init c =
    let a = c.args in
    let start = pass_start a.size (width_in a.size) a.table.now c.requires.1 in
    (omega arith, (0, omega arith, start.0), start.1)

pub new_nodes-count-requires : goal.new_nodes-count-requires
new_nodes-count-requires c =
    let short = len-small c.args.size (width_in c.args.size) c.args.table.now c.loop-i.i (omega arith) c.length_at-len.result c.length_at-len.ensures c.loop-i.invariant.2 in
    omega (arith, width_most c.args.size c.requires.0)

pub overflow_add-count : goal.overflow_add-count
overflow_add-count c = omega (arith, small c)

pub loop-i-preserved : goal.loop-i-preserved
loop-i-preserved c =
    let t = c.args.table.now in
    let lt : c.loop-i.i < records_in c.args.size t = omega arith in (
      omega (arith, small c, mul-suc c.args.size c.loop-i.i),
      (
        (route_in c.args.size t c.loop-i.i).addr,
        c.key_at-key.ensures,
        pass_next c.args.size (width_in c.args.size) t c.loop-i.i lt _ _ _ _ _ c.length_at-len.ensures (brings c) c.loop-i.invariant.1.2,
      ),
      (in_all_next c.args.size t c.loop-i.i lt c.loop-i.invariant.2).1,
    )

pub returns : goal.returns
returns c =
    omega (arith, pass_end c.args.size (width_in c.args.size) c.args.table.now (bare c.loop-i.invariant.1.0 c.loop-i.last_len) c.loop-i.i (omega arith))
