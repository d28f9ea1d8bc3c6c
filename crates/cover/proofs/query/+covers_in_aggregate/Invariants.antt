-- `cover::query::covers_in_aggregate`, which calls itself on a slot, meets its contract. Assumes nothing.
use Prim.Native.Nat.{◌-◌}
use Rattle.nodes.specs.Node.{reach}
use Rattle.cover.proofs.query.+covers_in_aggregate.Given as goal

abbrev pub decreases-covers_in_aggregate : goal.decreases-covers_in_aggregate
decreases-covers_in_aggregate l = reach l.size - l.depth
