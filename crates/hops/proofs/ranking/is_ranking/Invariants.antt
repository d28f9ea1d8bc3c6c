-- `hops::ranking::is_ranking`: the ranks from i on pass the test, and the word shows their set.
use Rattle.hops.proofs.RankLaws.{Seen}
use Rattle.hops.proofs.ranking.is_ranking.Given as goal

abbrev pub invariant-loop-i : goal.invariant-loop-i
invariant-loop-i l = Seen l.ranks l.i l.seen
