-- `words::prefix::host_bits_clear` meets its contract. Assumes nothing.
use mathlib.Core.Path.{ap, ◌∙◌}
use Prim.Native.Nat.{ℕ, ◌-◌, ◌^◌}
use lib.Dec.{eqb}
use lib.Bits.{bit_and}
use Rattle.words.proofs.PrefixLaws.{host_bits}
use Rattle.words.proofs.prefix.host_bits_clear.Goals as goal

pub returns : goal.returns
returns c =
    ap (λ (m : ℕ). eqb m 0)
    (ap (λ (m : ℕ). bit_and c.args.addr ((2 ^ 32 - 1) - m)) c.mask_from_prefix_len.ensures ∙ host_bits 32 c.args.addr c.args.len c.requires)
