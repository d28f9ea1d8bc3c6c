-- `records::sized::key_of` shifts an address of 32 bits up, and takes one of 64 as it is. Assumes nothing.
use mathlib.Core.Path.{◌≡◌}
use native.Mathlib.Omega.{arith}
use Rattle.records.proofs.SizedKeys.{size-long}
use Rattle.records.proofs.sized.key_of.Goals as goal

pub returns-then-size-eq8 : goal.returns-then-size-eq8
returns-then-size-eq8 c = rw c.if-size-eq8.true (omega arith)

pub returns-else-size-eq8 : goal.returns-else-size-eq8
returns-else-size-eq8 c =
    let long : c.args.size ≡ 16 = size-long c.args.size c.requires c.if-size-eq8.false in
    rw long (omega arith)
