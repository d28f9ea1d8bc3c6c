-- `checking::longer_in` meets its contract. None of the lengths below l has a hop. Assumes nothing.
use Rattle.std.proofs.Common.{◌≡◌, ℕ, ◌<◌, get_or}
use Rattle.positions.specs.Runs.{no_hop}
use Rattle.checking.proofs.longer_in.Given as goal

abbrev pub invariant-loop-l : goal.invariant-loop-l
invariant-loop-l l = (k : ℕ) → l.len < k → k < l.l → get_or l.rungs.hops k 0 ≡ no_hop
