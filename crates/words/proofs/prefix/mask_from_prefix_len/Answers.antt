-- `words::prefix::mask_from_prefix_len` meets its contract. Assumes nothing.
use mathlib.Core.Path.{sym, ap}
use borrow.Author.Rules.{rules}
use Rattle.words.specs.Prefix.{mask_of}
use Rattle.words.proofs.PrefixLaws.{mask_shift}
use Rattle.words.proofs.prefix.mask_from_prefix_len.Goals as goal

pub returns-then-len-eq32 : goal.returns-then-len-eq32
returns-then-len-eq32 c = sym (ap (mask_of 32) c.if-len-eq32.true)

pub returns-then-len-eq0 : goal.returns-then-len-eq0
returns-then-len-eq0 c = sym (ap (mask_of 32) c.if-len-eq0.true)

pub returns : goal.returns
returns c = mask_shift 32 c.args.len (search rules)
