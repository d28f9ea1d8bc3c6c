-- `cover::query::bit_covered`, which calls itself on the slots that it asks, meets its contract, by falling bits below the node. The loop's
-- invariant: of the slots before the next the word has those that were asked and are covered. Assumes nothing.
use Prim.Native.Nat.{◌-◌, ◌*◌}
use Rattle.nodes.specs.Node.{reach}
use Rattle.cover.proofs.CoverLaws.{Answered}
use Rattle.cover.proofs.query.+bit_covered.Given as goal

abbrev pub invariant-loop-next : goal.invariant-loop-next
invariant-loop-next l =
    Answered l.size l.table l.lo l.hi l.depth (l.key * 2) l.b l.first l.end l.g.present l.under l.walked l.covered l.next

abbrev pub decreases-loop-next : goal.decreases-loop-next
decreases-loop-next l = 32 - l.next

abbrev pub decreases-bit_covered : goal.decreases-bit_covered
decreases-bit_covered l = reach l.size - l.depth
