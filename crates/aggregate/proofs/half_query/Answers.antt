-- `half_query` masks the query's key. Assumes nothing.
use Prim.Native.Nat.{ℕ, ◌*◌}
use mathlib.Core.Path.{ap, ◌∙◌}
use native.Mathlib.Omega.{arith}
use Rattle.records.specs.Sized.{width_in}
use Rattle.records.proofs.SizedReading.{width_most}
use Rattle.gather.proofs.Halves.{key_wide}
use Rattle.aggregate.proofs.half_query.Goals as goal

pub overflow_cast-len : goal.overflow_cast-len
overflow_cast-len c = let pre = c.requires in record { fits = omega (arith, width_most _ pre.0, pre.1) }

pub returns : goal.returns
returns c =
    let is = c.requires.0 in
    ap (λ (x : ℕ). x * 2) (c.masked_key.ensures (width_in c.args.size) _ (width_most _ is) c.key_of.ensures) ∙ key_wide c.args.size is _
