-- `gather::covering_values` meets its contract. The loop's invariant: the hops of the positions before b are found. Assumes nothing.
use mathlib.Core.Path.{ap, ◌∙◌}
use native.Mathlib.Omega.{arith}
use lib.ListN.{get_or}
use Rattle.gather.specs.Gathered.{value_of}
use Rattle.gather.proofs.GatherCovers.{covering_next}
use Rattle.gather.proofs.covering_values.Goals as goal

pub loop-b-preserved : goal.loop-b-preserved
loop-b-preserved c =
    let l = c.loop-b in
    let a = c.args in
    let h = c.loop-b-test.true in (
      omega arith,
      covering_next l.invariant.1 c.value_at.result h
          (c.value_at.ensures ∙ ap (value_of a.size a.table.now (get_or a.first.now l.b 0) (get_or a.end.now l.b 0)) c.over_at.ensures),
    )
