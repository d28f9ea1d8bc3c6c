-- `maximal::collect_coverage`, which calls itself on the slots that are walked, meets its contract, by falling bits below the node. The loop's
-- invariant: of the slots from k on the coverage is laid, and the word has the covered ones. Assumes nothing.
use Prim.Native.Nat.{◌-◌, ◌*◌, ◌<◌}
use mathlib.Core.Path.{◌≡◌}
use mathlib.Core.Bool.{true}
use Rattle.words.specs.Bits.{bit}
use Rattle.nodes.specs.Node.{reach}
use Rattle.maximal.proofs.MaximalRoom.{Collecting}
use Rattle.maximal.proofs.+collect_coverage.Given as goal

abbrev pub invariant-loop-k : goal.invariant-loop-k
invariant-loop-k l =
    Collecting l.size l.table l.lo l.hi l.depth (l.key * 2) l.first l.end l.g.present l.under l.walked l.top l.initial.work l.k l.at l.covered l.work
    × (0 < l.k → bit l.walked (l.k - 1) ≡ true)

abbrev pub decreases-loop-k : goal.decreases-loop-k
decreases-loop-k l = l.k

abbrev pub decreases-collect_coverage : goal.decreases-collect_coverage
decreases-collect_coverage l = reach l.size - l.depth
