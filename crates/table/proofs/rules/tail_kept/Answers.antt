-- `rules::tail_kept` tests the hop, then the bytes behind it. Assumes nothing.
use Prim.Native.Nat.{◌+◌, ◌-◌, ◌*◌, ◌≤◌, ◌<◌}
use mathlib.Core.Path.{◌≡◌, ap, ◌∙◌}
use native.Mathlib.Omega.{arith}
use borrow.Author.Tests.{le-leb, lt-leb}
use Rattle.records.specs.Sized.{octets_in, byte_in, clear}
use Rattle.records.proofs.SizedReading.{size-some, size_parts, record_fits, in_hop}
use Rattle.table.specs.SizedRules.{top_hop}
use Rattle.table.proofs.rules.tail_kept.Goals as goal

pub returns-then-top_hop-hop_of : goal.returns-then-top_hop-hop_of
returns-then-top_hop-hop_of c =
    let a = c.args in
    let above : top_hop a.is_set < byte_in a.size a.table.now a.i (octets_in a.size + 1) =
    omega (arith, c.if-top_hop-hop_of.true, c.hop_of.ensures, c.top_hop.ensures, in_hop a.size a.table.now a.i) in
    simp (lt-leb _ _ above)

pub overflow_mul-size : goal.overflow_mul-size
overflow_mul-size c =
    let a = c.args in
    let p = c.requires in
    omega (arith, record_fits a.size p.0 a.table.now a.i p.1, size-some a.size p.0)

pub overflow_add-size-2 : goal.overflow_add-size-2
overflow_add-size-2 c =
    let a = c.args in
    let p = c.requires in
    omega (arith, record_fits a.size p.0 a.table.now a.i p.1, size-some a.size p.0)

pub overflow_mul-size-2 : goal.overflow_mul-size-2
overflow_mul-size-2 c =
    let a = c.args in
    let p = c.requires in
    omega (arith, record_fits a.size p.0 a.table.now a.i p.1, size-some a.size p.0)

pub overflow_add-size-3 : goal.overflow_add-size-3
overflow_add-size-3 c =
    let a = c.args in
    let p = c.requires in
    omega (arith, record_fits a.size p.0 a.table.now a.i p.1, size-some a.size p.0)

pub clear_between-requires : goal.clear_between-requires
clear_between-requires c =
    let a = c.args in
    let p = c.requires in
    let fits = record_fits a.size p.0 a.table.now a.i p.1 in
    let some = size-some a.size p.0 in
    (omega arith, omega arith)

pub returns : goal.returns
returns c =
    let a = c.args in
    let p = c.requires in
    let n = octets_in a.size in
    let within : byte_in a.size a.table.now a.i (n + 1) ≤ top_hop a.is_set =
    omega (arith, c.if-top_hop-hop_of.false, c.hop_of.ensures, c.top_hop.ensures, in_hop a.size a.table.now a.i) in
    let rest : (a.size * a.i + a.size) - (a.size * a.i + (n + 2)) ≡ n - 2 = omega (arith, size_parts a.size p.0) in
    rw (le-leb _ _ within) (c.clear_between.ensures ∙ ap (clear a.table.now (a.size * a.i + (n + 2))) rest)
