-- `nodes::emit::slot_of` meets its contract. Assumes nothing.
use native.Mathlib.Omega.{arith}
use Rattle.nodes.proofs.OutputHeads.{slot_of, slot-found}
use Rattle.nodes.proofs.emit.slot_of.Goals as goal

pub overflow_sub-result : goal.overflow_sub-result
overflow_sub-result c = let slot = slot-found c.args.b c.requires in omega arith

pub overflow_sub-result-2 : goal.overflow_sub-result-2
overflow_sub-result-2 c = let slot = slot-found c.args.b c.requires in omega arith

pub returns : goal.returns
returns c =
    let slot = slot-found c.args.b c.requires in record { upper_bound = omega arith; by_index = λ l j h g e. let is = slot_of c.args.b l j h g e in omega arith }
