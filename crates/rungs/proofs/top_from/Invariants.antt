-- `rungs::top_from` meets its contract. The loop's invariant: the top up to `from` is the top below l. Assumes nothing.
use Prim.Native.Nat.{◌-◌, ◌≤◌}
use mathlib.Core.Path.{◌≡◌}
use Rattle.rungs.specs.Rungs.{top_from}
use Rattle.rungs.proofs.top_from.Given as goal

abbrev pub invariant-loop-l : goal.invariant-loop-l
invariant-loop-l l = (1 ≤ l.l) × (top_from l.hops l.from ≡ top_from l.hops (l.l - 1))
