-- `write`, which calls itself on the halves of a position, meets its contract, by falling bits below the position. What the position and its left half have
-- written stands before the part of the output that is lent to the right half. Assumes nothing.
use Prim.Native.Nat.{◌-◌}
use Rattle.records.specs.Sized.{width_in}
use Rattle.plain.proofs.+write.Given as goal

abbrev pub decreases-write : goal.decreases-write
decreases-write l = width_in l.size - l.len
