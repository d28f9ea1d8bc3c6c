-- `assign::emit` meets its contract. Assumes nothing.
use borrow.Author.Tests.{eq-eqb, ne_eqb, le-ltb}
use Rattle.nodes.proofs.OutputLaws.{wrote_none}
use Rattle.positions.specs.Runs.{no_hop}
use Rattle.assign.proofs.emit.Goals as goal
use Rattle.assign.proofs.emit.Goals.{else-hop-above-via-then-hop-above+else-hop-lt-NO_HOP, else-hop-above-via-else-hop-above}

pub returns-else-hop-above : goal.returns-else-hop-above
returns-else-hop-above c at half =
    let a = c.args in
    elim c.else-hop-above.branch [
      | else-hop-above-via-then-hop-above+else-hop-lt-NO_HOP w ↦ rw (ne_eqb a.hop a.above w.if-hop-above.true, le-ltb a.hop no_hop w.if-hop-lt-NO_HOP.false) (wrote_none c.requires.1 0 _)
      | else-hop-above-via-else-hop-above w ↦ rw (eq-eqb a.hop a.above w.if-hop-above.false) (wrote_none c.requires.1 0 _)
    ]
