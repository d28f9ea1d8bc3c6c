-- `words::prefix::contains` meets its contract. Assumes nothing.
use mathlib.Core.Path.{sym, ap, ◌∙◌}
use mathlib.Core.Bool.{Bool, ◌&&◌}
use Prim.Native.Nat.{ℕ}
use borrow.Author.Tests.{lt-leb, le-leb}
use lib.Dec.{eqb}
use lib.Bits.{bit_and}
use Rattle.words.specs.Prefix.{agree}
use Rattle.words.proofs.PrefixLaws.{masked-agree}
use Rattle.words.proofs.prefix.contains.Goals as goal

pub returns-then-len-other_len : goal.returns-then-len-other_len
returns-then-len-other_len c =
    let a = c.args in
    sym (ap (λ (t : Bool). t && agree 32 a.len a.other a.addr) (lt-leb a.len a.other_len c.if-len-other_len.true))

pub returns : goal.returns
returns c =
    let a = c.args in
    ap (λ (m : ℕ). eqb (bit_and a.other m) (bit_and a.addr m)) c.mask_from_prefix_len-mask.ensures
    ∙ masked-agree 32 a.len a.other a.addr c.ranges.other.fits c.ranges.addr.fits c.requires
    ∙ sym (ap (λ (t : Bool). t && agree 32 a.len a.other a.addr) (le-leb a.len a.other_len c.if-len-other_len.false))
