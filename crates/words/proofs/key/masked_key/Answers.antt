-- `words::key::masked_key` shifts the bits past the length out and zeros in. Assumes nothing.
use Prim.Native.Nat.{◌-◌, ◌^◌, ◌<◌}
use mathlib.Core.Path.{◌≡◌, sym}
use native.Mathlib.Nat.{mod-eq_of_lt}
use native.Mathlib.Omega.{arith}
use Rattle.words.proofs.PrefixLaws.{start_small, start-whole}
use Rattle.words.proofs.KeyLaws.{mask_key}
use Rattle.words.proofs.key.masked_key.Goals as goal

pub returns-then-len-ge64 : goal.returns-then-len-ge64
returns-then-len-ge64 c w a le e =
    let s = c.args in
    mask_key w s.len a s.key s.key le e (sym (start-whole 64 s.len s.key c.if-len-ge64.true))

pub returns-then-len-eq0 : goal.returns-then-len-eq0
returns-then-len-eq0 c w a le e =
    let s = c.args in
    let small : s.key < 2 ^ 64 = omega arith in
    let all : 64 - s.len ≡ 64 = omega (arith, c.if-len-eq0.true) in
    mask_key w s.len a s.key 0 le e (rw all (omega arith))

pub returns : goal.returns
returns c w a le e =
    let s = c.args in
    let small = start_small 64 (64 - s.len) s.key (omega arith) in
    mask_key w s.len a s.key _ le e (mod-eq_of_lt (omega arith))
