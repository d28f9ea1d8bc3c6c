-- `holes::list`, which calls itself on the halves of a position, meets its contract, by falling bits below the position. What the left half has written
-- stands before the part of the output that is lent to the right half. Assumes nothing.
use Prim.Native.Nat.{◌-◌}
use Rattle.records.specs.Sized.{width_in}
use Rattle.holes.proofs.+list.Given as goal

abbrev pub decreases-list : goal.decreases-list
decreases-list l = width_in l.size - l.len
