-- `hopruns::ranking::is_ranking` meets its contract. The loop's invariant: the ranks from i on differ, and those seen are marked. Assumes nothing.
use Prim.Native.Nat.{◌≤◌}
use mathlib.Core.Path.{◌≡◌}
use lib.ListN.{length}
use Rattle.hopruns.proofs.RankLaws.{Seen}
use Rattle.hopruns.proofs.ranking.is_ranking.Given as goal

abbrev pub invariant-loop-i : goal.invariant-loop-i
invariant-loop-i l = (l.i ≤ l.n) × (length l.ranks ≡ l.n) × Seen l.n l.ranks l.i l.seen
