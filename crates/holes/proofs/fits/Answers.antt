-- `holes::fits` meets its contract: where the most that there can be fits, all do; else they are counted. Assumes nothing.
use mathlib.Core.Path.{sym, ◌∙◌}
use native.Mathlib.Omega.{arith}
use lib.ListN.{length}
use borrow.Author.Rules.{rules}
use borrow.Author.Tests.{le-leb}
use Rattle.records.proofs.SizedReading.{size-some}
use Rattle.holes.specs.Holes.{holes_at}
use Rattle.holes.proofs.Most.{holes_sure, sure_small}
use Rattle.holes.proofs.fits.Goals as goal

pub overflow_mul-size : goal.overflow_mul-size
overflow_mul-size c = let some = size-some _ c.requires.position.sized in search rules

pub overflow_sub-size : goal.overflow_sub-size
overflow_sub-size c = let some = size-some _ c.requires.position.sized in search rules

pub overflow_mul-size-2 : goal.overflow_mul-size-2
overflow_mul-size-2 c = let small = sure_small c.requires.position.sized c.requires.records_bound in search rules

pub overflow_add-size : goal.overflow_add-size
overflow_add-size c = let small = sure_small c.requires.position.sized c.requires.records_bound in search rules

pub returns-then-size-records : goal.returns-then-size-records
returns-then-size-records c =
    let a = c.args in
    let sure = holes_sure c.requires.position in
    le-leb _ a.room c.if-size-records.true ∙ sym (le-leb (length (holes_at a.size a.table.now 0 a.records 0 0)) a.room (omega arith))
