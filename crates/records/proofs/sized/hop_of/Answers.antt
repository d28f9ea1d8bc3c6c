-- `records::sized::hop_of` reads the byte after the length of record i. Assumes nothing.
use mathlib.Core.Path.{refl}
use native.Mathlib.Omega.{arith}
use Rattle.records.specs.Sized.{raw_in, route_in}
use Rattle.records.proofs.SizedReading.{size-some, record_fits}
use Rattle.records.proofs.sized.hop_of.Goals as goal

pub overflow_mul-result : goal.overflow_mul-result
overflow_mul-result c =
    let a = c.args in
    let p = c.requires in
    omega (arith, record_fits a.size p.0 a.table.now a.i p.1, size-some a.size p.0)

pub overflow_add-result : goal.overflow_add-result
overflow_add-result c =
    let a = c.args in
    let p = c.requires in
    omega (arith, record_fits a.size p.0 a.table.now a.i p.1, size-some a.size p.0)

pub overflow_add-result-2 : goal.overflow_add-result-2
overflow_add-result-2 c =
    let a = c.args in
    let p = c.requires in
    omega (arith, record_fits a.size p.0 a.table.now a.i p.1, size-some a.size p.0)

pub bounds-table-size : goal.bounds-table-size
bounds-table-size c =
    let a = c.args in
    let p = c.requires in
    omega (arith, record_fits a.size p.0 a.table.now a.i p.1, size-some a.size p.0)

pub returns : goal.returns
unfolding route_in raw_in
returns c = refl
