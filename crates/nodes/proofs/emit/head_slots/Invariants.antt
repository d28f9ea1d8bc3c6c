-- `nodes::emit::head_slots` meets its contract. The loop: the slots of the positions below b that have an entry are marked. Assumes nothing.
use Prim.Native.Nat.{◌-◌, ◌≤◌}
use Rattle.nodes.proofs.OutputHeads.{HeadsBelow}
use Rattle.nodes.proofs.emit.head_slots.Given as goal

abbrev pub invariant-loop-b : goal.invariant-loop-b
invariant-loop-b l = (l.b ≤ 32) × HeadsBelow l.entries l.b l.marked

abbrev pub decreases-loop-b : goal.decreases-loop-b
decreases-loop-b l = 32 - l.b
