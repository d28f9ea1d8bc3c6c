-- `hopruns::leaves::lay_leaves` meets its contract. The loop's invariant: the words of the pairs from p on are laid. Assumes nothing.
use Prim.Native.Nat.{◌+◌, ◌-◌, ◌≤◌}
use mathlib.Core.Path.{◌≡◌}
use Rattle.nodes.specs.Room.{Pushed}
use Rattle.hopruns.specs.Leaves.{leaf_words}
use Rattle.hopruns.proofs.leaves.lay_leaves.Given as goal

abbrev pub invariant-loop-p : goal.invariant-loop-p
invariant-loop-p l = (l.p ≤ 16) × (l.at + 16 ≡ l.top) × Pushed (leaf_words l.covering l.fill (16 - l.p)) l.top (l.at + l.p) l.initial.work l.work
