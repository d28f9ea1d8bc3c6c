-- `nodes::emit::first_level` meets its contract. Assumes nothing.
use native.Mathlib.Omega.{arith}
use Rattle.nodes.proofs.OutputLevels.{trailing_few, first-begins}
use Rattle.nodes.proofs.emit.first_level.Goals as goal

pub overflow_sub-result : goal.overflow_sub-result
overflow_sub-result c = let few = trailing_few c.args.c c.if-c-eq0.false c.requires in omega arith

pub returns-else-c-eq0 : goal.returns-else-c-eq0
returns-else-c-eq0 c = record { upper_bound = omega arith; by_index = λ l h. first-begins c.args.c c.if-c-eq0.false c.requires l h }
