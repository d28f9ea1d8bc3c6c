-- `all_turns`: the text that is kept stands in its room.
use Rattle.std.proofs.Common.{◌≤◌, length}
use Rattle.replay.proofs.all_turns.Given as goal

abbrev pub invariant-loop : goal.invariant-loop
invariant-loop g l = l.at ≤ length l.kept
