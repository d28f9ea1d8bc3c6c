-- `count_nodes`: the count so far and what the rest of the table brings beside the record before make the nodes of the table. Assumes nothing.
use mathlib.Core.Path.{◌≡◌}
use Prim.Native.Nat.{ℕ, ◌+◌, ◌*◌, ◌≤◌}
use Rattle.theory.specs.Routes.{Valid, All}
use Rattle.words.specs.Keys.{key_of}
use Rattle.records.specs.Sized.{width_in, routes_in}
use Rattle.records.proofs.SizedReading.{rest_in}
use Rattle.nodecount.specs.Nodes.{bare, nodes}
use Rattle.nodecount.proofs.NodeCount.{passed}
use Rattle.nodecount.proofs.count_nodes.Given as goal

-- The record before has the address `last`, whose key stands in the loop.
abbrev pub invariant-loop-i : goal.invariant-loop-i
invariant-loop-i l =
    (l.count ≤ 1 + l.size * l.i)
    × ((last : ℕ)
    × (l.last_key ≡ key_of (width_in l.size) last)
    × (l.count + passed (width_in l.size) (bare last l.last_len) (rest_in l.size l.table l.i) ≡ nodes (width_in l.size) (routes_in l.size l.table)))
    × All (Valid (width_in l.size)) (rest_in l.size l.table l.i)
