-- `hopruns::ranking::is_ranking` meets its contract. The loop's invariant: the ranks from i on differ, and those seen are marked. Assumes nothing.
use Prim.Native.Nat.{◌-◌}
use mathlib.Core.Bool.{false}
use native.Mathlib.Omega.{arith}
use Rattle.hopruns.proofs.RankLaws.{tests_differing, seen_none, seen-high, seen_twice}
use Rattle.hopruns.proofs.ranking.is_ranking.Goals as goal
use Rattle.hopruns.proofs.ranking.is_ranking.Goals.{then-n-r-via-then-n-r, then-n-r-via-else-n-r+then-seen-r}

pub loop-i-init : goal.loop-i-init
loop-i-init c = (omega arith, omega arith, seen_none _ _ _ (omega arith))

pub returns-then-n-r : goal.returns-then-n-r
returns-then-n-r c =
    let l = c.loop-i in
    let a = c.args in
    tests_differing a.n a.ranks.now false l.invariant.1 (elim c.then-n-r.branch [
      | then-n-r-via-then-n-r w ↦ seen-high {ranks = a.ranks.now} {i = l.i - 1} l.invariant.2 c.requires (omega arith) (omega (arith, l.invariant.1)) w.if-n-r.true
      | then-n-r-via-else-n-r+then-seen-r w ↦ seen_twice {ranks = a.ranks.now} {i = l.i - 1} l.invariant.2 c.requires (omega arith) (omega (arith, l.invariant.1)) w.if-n-r.false w.if-seen-r.true
    ])
