use Rattle.std.proofs.Common.{◌*◌, ◌≤◌}
use Rattle.shrink.proofs.pass_over_all.Given as goal

abbrev pub invariant-loop-turn : goal.invariant-loop-turn
invariant-loop-turn g l = l.all ≤ 4096 * l._turn
