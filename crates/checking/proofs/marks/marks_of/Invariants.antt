-- `checking::marks::marks_of` meets its contract. The marks are those of the lengths below l. Assumes nothing.
use mathlib.Core.Path.{◌≡◌}
use Rattle.checking.specs.Marks.{fine_of, marks_upto}
use Rattle.checking.proofs.marks.marks_of.Given as goal

abbrev pub invariant-loop-l : goal.invariant-loop-l
invariant-loop-l l = (l.marks ≡ marks_upto l.was l.goal l.hops l.l) × (l.fine ≡ fine_of l.was l.goal)
