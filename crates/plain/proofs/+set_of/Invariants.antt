-- `set_of`, which calls itself on the halves of a position, meets its contract, by falling bits below the position. Assumes nothing.
use Prim.Native.Nat.{◌-◌}
use Rattle.records.specs.Sized.{width_in}
use Rattle.plain.proofs.+set_of.Given as goal

abbrev pub decreases-set_of : goal.decreases-set_of
decreases-set_of l = width_in l.size - l.len
