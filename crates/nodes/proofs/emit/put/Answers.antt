-- `nodes::emit::put` meets its contract. Assumes nothing.
use Rattle.nodes.proofs.OutputLaws.{wrote_record}
use Rattle.nodes.proofs.emit.put.Goals as goal

pub returns : goal.returns
returns c = wrote_record c.requires.1 _ _ _ _ _ c.put_sized.ensures
