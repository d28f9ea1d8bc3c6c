-- `records::sized::raw_key_at` reads four octets or eight. Assumes nothing.
use mathlib.Core.Path.{◌≡◌, ap, ◌∙◌}
use Prim.Native.Nat.{ℕ, ◌*◌, ◌<◌}
use native.Mathlib.Omega.{arith}
use Rattle.records.specs.Sized.{records_in}
use Rattle.records.proofs.SizedKeys.{size-long, raw_key_8, raw_key_16}
use Rattle.records.proofs.sized.raw_key_at.Goals as goal

pub raw_addr_at-requires : goal.raw_addr_at-requires
raw_addr_at-requires c = rw c.if-size-eq8.true at c.requires.1

pub overflow_mul-i : goal.overflow_mul-i
overflow_mul-i c =
    let long : c.args.size ≡ 16 = size-long c.args.size c.requires.0 c.if-size-eq8.false in
    let inside : c.args.i < records_in 16 c.args.table.now = rw long at c.requires.1 in
    omega (arith, inside)

pub oct_at-requires : goal.oct_at-requires
oct_at-requires c =
    let long : c.args.size ≡ 16 = size-long c.args.size c.requires.0 c.if-size-eq8.false in
    let inside : c.args.i < records_in 16 c.args.table.now = rw long at c.requires.1 in
    omega (arith, inside)

pub returns-then-size-eq8 : goal.returns-then-size-eq8
returns-then-size-eq8 c =
    let a = c.args in
    rw c.if-size-eq8.true (ap (λ (x : ℕ). x * 4294967296) c.raw_addr_at.ensures ∙ raw_key_8 a.table.now a.i)

pub returns-else-size-eq8 : goal.returns-else-size-eq8
returns-else-size-eq8 c =
    let long : c.args.size ≡ 16 = size-long c.args.size c.requires.0 c.if-size-eq8.false in
    let a = c.args in
    rw long (c.oct_at.ensures ∙ raw_key_16 a.table.now a.i)
