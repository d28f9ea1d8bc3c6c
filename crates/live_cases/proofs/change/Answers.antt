-- `change` makes the call that is asked for. Assumes nothing.
use native.Mathlib.Omega.{arith}
use Rattle.live_cases.proofs.Carried.{by_make, by_put, by_take}
use Rattle.live_cases.proofs.change.Goals as goal

pub returns-in-0 : goal.returns-in-0
returns-in-0 c = by_make c.args.command c.and.ensures c.in-0.is c.make_empty.ensures

pub returns-in-1 : goal.returns-in-1
returns-in-1 c = by_put c.args.command c.and-in-1.ensures (λ e. omega arith) c.in-1.is c.put.ensures

pub returns-in_default : goal.returns-in_default
returns-in_default c = by_take c.args.command (λ e. omega arith) (λ e. omega arith) c.take.ensures
