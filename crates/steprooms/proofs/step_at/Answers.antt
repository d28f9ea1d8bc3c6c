-- `step_at` meets its contract: eight bytes are a step. Assumes nothing.
use Rattle.steprooms.proofs.Filled.{step_made}
use Rattle.steprooms.proofs.step_at.Goals as goal

pub returns : goal.returns
returns c =
    let args = c.args in
    step_made args.bytes.now args.i c.raw_addr_at.result c.raw_addr_at.ensures
