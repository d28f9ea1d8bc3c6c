-- `answer` meets its contract: what the loader answered is written out as the right reply asks. Assumes nothing.
use mathlib.Core.Path.{◌≡◌}
use lib.ListN.{length}
use borrow.Author.Rules.{rules}
use Rattle.chip_image.proofs.Writing.{answered-image, answered-line}
use Rattle.chip_image.proofs.answer.Goals as goal

pub returns-in-Ok : goal.returns-in-Ok
returns-in-Ok c =
    let a = c.args in
    let size : length a.image.now ≡ 8192 = search rules in
    let loaded = c.load in
    answered-image a.table.now a.line.now a.image.now size c.in-Ok.is loaded.auto.image loaded.ensures

pub returns-in-Err : goal.returns-in-Err
returns-in-Err c =
    let a = c.args in
    let size : length a.image.now ≡ 8192 = search rules in
    answered-line a.table.now a.line.now a.image.now size
    c.in-Err.is c.load.ensures c.put_refused.ensures
