-- The nodes that a walk over a table's runs meets, at wide addresses, are the nodes of the table.
use Prim.Native.Nat.{ℕ, ◌+◌, ◌≤◌}
use mathlib.Core.Path.{◌≡◌, ◌∙◌}
use mathlib.Core.List.{List}
use native.Mathlib.Nat.{sub-zero}
use native.Mathlib.Omega.{arith}
use Rattle.theory.specs.Routes.{All, Valid}
use Rattle.records.specs.Sized.{IsSize, width_in, records_in, routes_in}
use Rattle.records.proofs.SizedReading.{width_most}
use Rattle.nodecount.specs.Nodes.{levels, nodes}
use Rattle.nodecount.proofs.NodeRuns.{nodes_runs}
use Rattle.nodecount.proofs.NodesWide.{nodes-widen}
use Rattle.positions.proofs.Wide.{all_widen, valid-widen}
use Rattle.nodes.specs.Node.{wide, spare, run}
use Rattle.nodes.specs.Room.{nodes_below}
use Rattle.nodes.proofs.OutputLaws.{width_spare}

-- The walk goes 13 nodes deep: no table has a node deeper than at depth 60.
pub nodes-below : (size : ℕ) (t : List ℕ) → IsSize size → All (Valid (width_in size)) (routes_in size t)
    → nodes_below 13 0 (run size t 0 (records_in size t)) ≡ nodes (width_in size) (routes_in size t)
unfolding routes_in
nodes-below size t is valid =
    let w = width_in size in
    let k = spare size in
    let all : w + k ≡ wide = width_spare size is in
    rw (sub-zero (records_in size t))
    (nodes_runs wide 12 (all_widen {Q = Valid wide} k (λ r v. rw all at (valid-widen w k r v)) valid) (omega arith)
    (all_widen k (λ r v. (let j : levels r ≤ 12 = omega (arith, v.short, width_most size is) in j)) valid)
    ∙ rw all at (nodes-widen w k valid))
