-- `words::bits::next_bit` meets its contract. Assumes nothing.
use mathlib.Core.Path.{◌≡◌}
use Prim.Native.Nat.{◌/◌, ◌^◌}
use native.Mathlib.Nat.{div-eq_of_lt}
use native.Mathlib.Omega.{arith}
use lib.Count.{trailing_le}
use Rattle.words.proofs.BitLaws.{next_none, next-found}
use Rattle.words.proofs.bits.next_bit.Goals as goal

pub returns-then-k-eq32 : goal.returns-then-k-eq32
returns-then-k-eq32 c =
    let x = c.args.x in
    let k = c.args.k in
    let all : k ≡ 32 = c.if-k-eq32.true in
    next_none x k (omega arith) (rw all (div-eq_of_lt c.ranges.x.fits))

pub returns-then-rest-eq0 : goal.returns-then-rest-eq0
returns-then-rest-eq0 c = next_none c.args.x c.args.k c.requires c.if-rest-eq0.true

pub overflow_cast-result : goal.overflow_cast-result
overflow_cast-result c = record { fits = omega (arith, trailing_le 32 (c.args.x / 2 ^ c.args.k)) }

pub overflow_add-result : goal.overflow_add-result
overflow_add-result c =
    record { fits = omega (arith, c.requires, trailing_le 32 (c.args.x / 2 ^ c.args.k)) }

pub returns : goal.returns
returns c =
    let x = c.args.x in
    let k = c.args.k in
    next-found x k c.ranges.x.fits (omega (arith, c.if-rest-eq0.false))
