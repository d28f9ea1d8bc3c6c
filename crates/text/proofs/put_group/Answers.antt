-- `text::put_group` meets its contract: a group has at most 4 digits. Assumes nothing.
use mathlib.Core.Path.{◌∙◌, ap}
use mathlib.Core.List.{List}
use Prim.Native.Nat.{ℕ}
use native.Mathlib.Omega.{arith}
use borrow.Author.Tests.{eq-eqb, ne_eqb}
use lib.ListN.{length}
use Rattle.text.specs.Ipv6.{group_part}
use Rattle.text.proofs.Numbers.{hexadecimal_is, group_short}
use Rattle.text.proofs.Puts.{put_none, put_as, put_then}
use Rattle.text.proofs.put_group.Goals as goal

pub returns-then-left-eq0 : goal.returns-then-left-eq0
unfolding group_part
returns-then-left-eq0 c =
    rw (eq-eqb c.args.left 0 c.if-left-eq0.true) (record { put = put_none c.args.at c.args.out.now (omega (arith, c.requires)); upper_bound = omega arith })

pub put_bytes-end-requires : goal.put_bytes-end-requires
put_bytes-end-requires c =
    let all = c.hex-k.ensures in
    let same = ap (λ (l : List ℕ). length l) (all.digits ∙ hexadecimal_is c.args.group c.hex-k.result (omega arith) all.len) in
    omega (arith, c.requires, same, group_short c.args.group c.ranges.group.fits)

pub put_byte-requires : goal.put_byte-requires
put_byte-requires c =
    let all = c.hex-k.ensures in
    let same = ap (λ (l : List ℕ). length l) (all.digits ∙ hexadecimal_is c.args.group c.hex-k.result (omega arith) all.len) in
    omega (arith, c.requires, same, group_short c.args.group c.ranges.group.fits, c.put_bytes-end.ensures.ends)

pub returns : goal.returns
unfolding group_part
returns c =
    let all = c.hex-k.ensures in
    let is = all.digits ∙ hexadecimal_is c.args.group c.hex-k.result (omega arith) all.len in
    let digits = put_as is c.put_bytes-end.ensures in
    let colon = c.put_byte.ensures in
    rw (ne_eqb c.args.left 0 c.if-left-eq0.false) (record { put = put_then digits colon; upper_bound = omega (arith, digits.ends, colon.ends, group_short c.args.group c.ranges.group.fits) })
