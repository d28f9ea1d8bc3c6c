-- `words::key::key_contains` compares the starts of the two at the first length. Assumes nothing.
use mathlib.Core.Path.{sym, ap, ap₂, ◌∙◌}
use mathlib.Core.Bool.{Bool, ◌&&◌}
use borrow.Author.Tests.{lt-leb, le-leb}
use lib.Dec.{eqb}
use Rattle.words.specs.Prefix.{agree}
use Rattle.words.proofs.KeyLaws.{key_agree}
use Rattle.words.proofs.key.key_contains.Goals as goal

pub returns-then-len-other_len : goal.returns-then-len-other_len
returns-then-len-other_len c w a b le e f =
    let s = c.args in
    sym (ap (λ (t : Bool). t && agree w s.len b a) (lt-leb s.len s.other_len c.if-len-other_len.true))

pub returns : goal.returns
returns c w a b le e f =
    let s = c.args in
    ap₂ eqb (c.masked_key.ensures w b le f) (c.masked_key-2.ensures w a le e)
    ∙ key_agree w s.len b a
    ∙ sym (ap (λ (t : Bool). t && agree w s.len b a) (le-leb s.len s.other_len c.if-len-other_len.false))
