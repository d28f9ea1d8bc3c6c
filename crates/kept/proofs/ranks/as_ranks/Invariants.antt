-- `ranks::as_ranks`: the bytes before i are copied.
use Rattle.std.proofs.Common.{◌≡◌, ℕ, ◌<◌, get_or}
use Rattle.kept.proofs.ranks.as_ranks.Given as goal

abbrev pub invariant-loop-i : goal.invariant-loop-i
invariant-loop-i l = (k : ℕ) → k < l.i → get_or l.ranks k 0 ≡ get_or l.bytes k 0
