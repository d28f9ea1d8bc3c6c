-- `writer::put_set` meets its contract. Assumes nothing.
use native.Mathlib.Omega.{arith}
use Rattle.nodes.proofs.RoomLaws.{pushed-two}
use Rattle.writer.proofs.put_set.Goals as goal

pub returns : goal.returns
returns c = pushed-two _ _ _ _ (omega arith) (omega arith)
