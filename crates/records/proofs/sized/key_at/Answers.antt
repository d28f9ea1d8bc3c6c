-- `records::sized::key_at` masks four octets or eight by the record's length. Assumes nothing.
use mathlib.Core.Logic.{inr}
use mathlib.Core.Path.{◌≡◌, refl, ap, ◌∙◌}
use Prim.Native.Nat.{ℕ, ◌-◌, ◌*◌, ◌<◌}
use native.Mathlib.Omega.{arith}
use Rattle.theory.specs.Results.{start_of}
use Rattle.words.specs.Keys.{key_of}
use Rattle.records.specs.Sized.{records_in, raw_in, route_in}
use Rattle.records.proofs.SizedKeys.{size-long, key_8, raw_key_16}
use Rattle.records.proofs.sized.key_at.Goals as goal

pub addr_at-requires : goal.addr_at-requires
addr_at-requires c = rw c.if-size-eq8.true at c.requires.1

pub overflow_mul-i : goal.overflow_mul-i
overflow_mul-i c =
    let long : c.args.size ≡ 16 = size-long c.args.size c.requires.0 c.if-size-eq8.false in
    let inside : c.args.i < records_in 16 c.args.table.now = rw long at c.requires.1 in
    omega (arith, inside)

pub oct_at-requires : goal.oct_at-requires
oct_at-requires c =
    let long : c.args.size ≡ 16 = size-long c.args.size c.requires.0 c.if-size-eq8.false in
    let inside : c.args.i < records_in 16 c.args.table.now = rw long at c.requires.1 in
    omega (arith, inside)

pub length_at-requires : goal.length_at-requires
length_at-requires c =
    let long : c.args.size ≡ 16 = size-long c.args.size c.requires.0 c.if-size-eq8.false in
    let inside : c.args.i < records_in 16 c.args.table.now = rw long at c.requires.1 in
    (inr refl, inside)

pub returns-then-size-eq8 : goal.returns-then-size-eq8
returns-then-size-eq8 c =
    let a = c.args in
    rw c.if-size-eq8.true (ap (λ (x : ℕ). x * 4294967296) c.addr_at.ensures ∙ key_8 a.table.now a.i)

pub returns-else-size-eq8 : goal.returns-else-size-eq8
unfolding route_in
returns-else-size-eq8 c =
    let long : c.args.size ≡ 16 = size-long c.args.size c.requires.0 c.if-size-eq8.false in
    let a = c.args in
    let r = raw_in 16 a.table.now a.i in
    rw long
    (c.masked_key.ensures 64 r.addr (omega arith) (c.oct_at.ensures ∙ raw_key_16 a.table.now a.i)
    ∙ ap (λ (l : ℕ). key_of 64 (start_of (64 - l) r.addr)) c.length_at.ensures)
