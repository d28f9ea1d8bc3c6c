-- `unrouted` refuses what the check refuses and what does not fit, and else lists the holes. Assumes nothing.
use mathlib.Core.Path.{sym}
use native.Mathlib.Omega.{arith}
use borrow.Author.Rules.{rules}
use Rattle.std.proofs.lemmas.Result.{err_from_is_err_and}
use Rattle.records.proofs.SizedReading.{size-some}
use Rattle.holes.proofs.Replies.{lists_refused, accepted-position, accepted-few, room_enough, room-short, lists_given, lists-short}
use Rattle.holes.proofs.unrouted.Goals as goal

pub returns-in_err-records : goal.returns-in_err-records
returns-in_err-records c =
    let a = c.args in
    let size = c.size_of-size.ensures in
    let p = err_from_is_err_and c.from_residual.result c.from_residual.ensures.1 in
    rw (p.1, p.2) (lists_refused a.form a.table.now size.value size.size a.output.now _ (sym c.in_err-records.ensures))

pub nonzero_div-output : goal.nonzero_div-output
nonzero_div-output c = let some = size-some _ c.size_of-size.ensures.size in search rules

pub fits-requires : goal.fits-requires
fits-requires c =
    let is = c.size_of-size.ensures.size in
    let valid = sym c.in_ok-records.ensures in
    record { position = accepted-position _ is _ _ valid (λ k. omega (arith, c.type_inv.table k)); records_bound = accepted-few _ is _ _ valid (λ k. omega (arith, c.type_inv.table k)) }

pub returns-then-not-fits : goal.returns-then-not-fits
returns-then-not-fits c =
    let a = c.args in
    let size = c.size_of-size.ensures in
    let valid = sym c.in_ok-records.ensures in
    rw c.at.ensures
    (lists-short a.form a.table.now size.value size.size valid a.output.now
    (room-short _ size.size a.table.now _ a.output.now c.fits.ensures c.if-not-fits.true))

pub list-requires : goal.list-requires
list-requires c =
    let a = c.args in
    let is = c.size_of-size.ensures.size in
    let valid = sym c.in_ok-records.ensures in
    record { position = accepted-position _ is _ _ valid (λ k. omega (arith, c.type_inv.table k)); key_in_bounds = room_enough _ is a.table.now _ a.output.now c.fits.ensures c.if-not-fits.false }

pub returns : goal.returns
returns c =
    let a = c.args in
    let size = c.size_of-size.ensures in
    let wrote = c.list.ensures in
    lists_given a.form a.table.now size.value size.size (sym c.in_ok-records.ensures) a.output.now
    (room_enough _ size.size a.table.now _ a.output.now c.fits.ensures c.if-not-fits.false)
    wrote.value wrote.out_after
