-- `holes::count`, which calls itself on the halves of a position, meets its contract, by falling bits below the position. Assumes nothing.
use Prim.Native.Nat.{◌-◌}
use Rattle.records.specs.Sized.{width_in}
use Rattle.holes.proofs.+count.Given as goal

abbrev pub decreases-count : goal.decreases-count
decreases-count l = width_in l.size - l.len
