-- `words::key::key_host_bits_clear` asks whether masking changes the key. Assumes nothing.
use mathlib.Core.Path.{ap₂, ◌∙◌}
use lib.Dec.{eqb}
use Rattle.words.proofs.KeyLaws.{host_key}
use Rattle.words.proofs.key.key_host_bits_clear.Goals as goal

pub returns : goal.returns
returns c w a le e = ap₂ eqb (c.masked_key.ensures w a le e) e ∙ host_key w c.args.len a
