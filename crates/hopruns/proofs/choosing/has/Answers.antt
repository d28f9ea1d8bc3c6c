-- `hopruns::choosing::has` meets its contract. Assumes nothing.
use mathlib.Core.Path.{sym, ap, ◌∙◌}
use Rattle.theory.specs.Results.{has}
use Rattle.hopruns.proofs.Assigning.{any_has}
use Rattle.hopruns.proofs.Laying.{drop-take}
use Rattle.hopruns.proofs.choosing.has.Goals as goal

pub returns : goal.returns
returns c =
    let a = c.args in
    c.contains.ensures.value ∙ any_has a.h _ ∙ ap (has a.h) (sym (drop-take a.from a.to a.work.now))
