-- `ortc::walks::rewrite` and `rewrite_child` meet their contracts: one cycle of calls, by falling bits below the node. The loop's invariant: the node
-- is opened, and its slots before c are walked. Assumes nothing.
use Prim.Native.Nat.{◌+◌, ◌-◌, ◌*◌}
use Rattle.theory.specs.Ranks.{lowest}
use Rattle.nodes.specs.Node.{reach}
use Rattle.ortc.proofs.RewriteLaws.{Opened, Walking}
use Rattle.ortc.proofs.walks.+rewrite_rewrite_child.Given as goal

-- Twice the bits below, and one more for a slot, so that the number falls from a node to its slots and from a slot to its node.
abbrev pub invariant-rewrite-loop-c : goal.invariant-rewrite-loop-c
invariant-rewrite-loop-c l =
    Opened (lowest l.ranks) l.size l.table l.lo l.hi l.depth (l.key * 2) l.inherited l.fill l.above l.work l.top l.first l.end l.covering l.hops l.entries l.busy
    × Walking (lowest l.ranks) l.size l.table l.lo l.hi l.depth (l.key * 2) l.inherited l.fill l.above l.work l.top l.first l.end l.covering l.hops l.entries l.c l.at l.n l.initial.out l.out

abbrev pub decreases-rewrite-loop-c : goal.decreases-rewrite-loop-c
decreases-rewrite-loop-c l = 32 - l.c

abbrev pub decreases-rewrite : goal.decreases-rewrite
decreases-rewrite l = 2 * (reach l.size - l.depth)

abbrev pub decreases-rewrite_child : goal.decreases-rewrite_child
decreases-rewrite_child l = 2 * (reach l.size - l.depth) + 1
