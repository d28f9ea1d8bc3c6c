-- `hopruns::combining::lay_either` meets its contract. The loop's invariant: the hops of either are laid so far, and the rest is in what is left of both
-- runs, which stand above. Assumes nothing.
use Rattle.hopruns.proofs.Steps.{Joining}
use Rattle.hopruns.proofs.combining.lay_either.Given as goal

abbrev pub invariant-loop-n : goal.invariant-loop-n
invariant-loop-n l = Joining l.initial.work l.a l.a_end l.b l.b_end l.at l.work l.n l.i l.j
