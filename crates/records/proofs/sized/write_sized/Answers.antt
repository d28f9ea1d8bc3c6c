-- `records::sized::write_sized` writes a record of 8 bytes or of 16. Assumes nothing.
use mathlib.Core.Path.{ap, ◌∙◌}
use Prim.Native.Nat.{ℕ, ◌+◌, ◌*◌, ◌≤◌}
use native.Mathlib.Omega.{arith}
use lib.ListN.{length}
use Rattle.records.specs.Sized.{record_in, route, laid}
use Rattle.records.proofs.SizedKeys.{size-long}
use Rattle.records.proofs.sized.write_sized.Goals as goal

pub write_record-requires : goal.write_record-requires
write_record-requires c = rw c.if-size-eq8.true at c.requires.1

pub overflow_mul-at : goal.overflow_mul-at
overflow_mul-at c =
    let a = c.args in
    let p = c.requires in
    let fits : 16 * a.at + 16 ≤ length a.out.now = rw (size-long a.size p.0 c.if-size-eq8.false) at p.1 in
    record { fits = omega arith }

pub write_long-requires : goal.write_long-requires
write_long-requires c =
    let a = c.args in
    let p = c.requires in
    rw (size-long a.size p.0 c.if-size-eq8.false) at p.1

pub returns-then-size-eq8 : goal.returns-then-size-eq8
returns-then-size-eq8 c =
    rw c.if-size-eq8.true c.write_record.ensures

pub returns-else-size-eq8 : goal.returns-else-size-eq8
returns-else-size-eq8 c =
    let a = c.args in
    let p = c.requires in
    rw (size-long a.size p.0 c.if-size-eq8.false)
    (c.write_long.ensures ∙ ap (λ (x : ℕ). laid (16 * a.at) (record_in 16 (route x a.len a.hop)) a.out.now) (omega arith))
