-- `hopruns::room::NodeReader::new` meets its contract. Assumes nothing.
use native.Mathlib.Omega.{arith}
use Rattle.hopruns.proofs.Reading.{packed-word}
use Rattle.hopruns.proofs.room.NodeReader.new.Goals as goal

pub returns : goal.returns
returns c =
    let a = c.args in
    λ runs b. let w = packed-word runs a.top a.work.now b in record { masked = w.word; within = omega (arith, w.within); begins = w.after }
