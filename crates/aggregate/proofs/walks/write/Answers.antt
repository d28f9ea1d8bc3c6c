-- `aggregate::walks::write` meets its contract: each branch returns what its walk wrote from the root, which is the mode's result.
-- Assumes nothing.
use native.Mathlib.Omega.{arith}
use mathlib.Core.Path.{ap}
use mathlib.Core.Logic.{⊎_elim}
use Prim.Native.Nat.{◌≤◌}
use Rattle.calls.proofs.Modes.{number-used}
use Rattle.calls.specs.Modes.{mode_number}
use Rattle.theory.specs.Ranks.{lowest}
use Rattle.records.proofs.SizedReading.{size-some}
use Rattle.aggregate.proofs.WalkLaws.{set_is, consistent_map_is, ortc_is}
use Rattle.aggregate.proofs.walks.write.Goals as goal

pub nonzero_div-records : goal.nonzero_div-records
nonzero_div-records c = omega (arith, size-some _ c.requires.size.0)

pub returns-in-Set : goal.returns-in-Set
returns-in-Set c =
    let a = c.args in
    rw (set_is (lowest a.ranks.now) a.size a.table.now a.fill (ap mode_number c.in-Set.is)) c.aggregate_set.ensures.wrote

pub returns-in-ConsistentMap : goal.returns-in-ConsistentMap
returns-in-ConsistentMap c =
    let a = c.args in
    rw (consistent_map_is (lowest a.ranks.now) a.size a.table.now a.fill (ap mode_number c.in-ConsistentMap.is) c.requires.size.1.node.table) c.aggregate_consistent_map.ensures

pub returns-in-MapDrop : goal.returns-in-MapDrop
returns-in-MapDrop c =
    let a = c.args in
    let pre = c.requires in
    let used = number-used a.mode in
    let high : 4 ≤ mode_number a.mode = ⊎_elim (λ e. rw e (omega arith)) (λ e. rw e (omega arith)) c.in-MapDrop.is in
    rw (ortc_is (lowest a.ranks.now) a.size a.table.now a.fill high used.1 pre.fills) c.rewrite-root.ensures.wrote
