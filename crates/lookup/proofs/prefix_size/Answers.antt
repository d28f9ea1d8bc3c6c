-- `prefix_size` is a power of two that fits. Assumes nothing.
use Prim.Native.Nat.{◌-◌}
use native.Mathlib.Omega.{arith}
use Rattle.words.proofs.BitLaws.{one_shl}
use Rattle.lookup.proofs.prefix_size.Goals as goal

pub returns : goal.returns
returns c = one_shl (32 - c.args.len) (omega arith)
