-- `rungs::skipped` meets its contract. Assumes nothing.
use native.Mathlib.Omega.{arith}
use Rattle.rungs.proofs.Climbing.{skip_right, skip_left}
use Rattle.rungs.proofs.skipped.Goals as goal

pub returns-then-x-addr : goal.returns-then-x-addr
returns-then-x-addr c = skip_right c.behind.ensures

pub returns-then-addr-masked : goal.returns-then-addr-masked
returns-then-addr-masked c =
    let short = c.if-common-lt32.true in
    let below = c.if-addr-masked.true in
    let m = c.masked.ensures in
    let at = c.requires.1 in
    skip_left c.requires.0.0 c.requires.0.1 short (omega arith) (rw c.masked-then-addr-masked.ensures at c.behind-then-addr-masked.ensures)
