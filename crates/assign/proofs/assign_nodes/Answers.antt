-- `assign::assign_nodes` meets its contract. The loop's invariant: the positions before b are assigned, and the reader stands before b.
-- Assumes nothing.
use mathlib.Core.Path.{◌≡◌, refl}
use native.Mathlib.Omega.{arith}
use lib.ListN.{replicate}
use Rattle.theory.specs.Ranks.{lowest}
use Rattle.assign.proofs.AssignLaws.{assigning_start, assigning_first, assigning_room, assigning_next, assigning_rest, assigning_end}
use Rattle.assign.proofs.assign_nodes.Goals as goal

pub step_at-first-requires : goal.step_at-first-requires
step_at-first-requires c =
    let a = c.args in
    let h = c.requires.by_index in
    let n = c.new.ensures in
    let p = assigning_start (lowest a.ranks.now) a.work.now a.top a.above (replicate 31 0) _ _ refl n.0 n.1 in record { top_in_bounds = assigning_room p h.0 h.1 (omega arith); b_bound = omega arith }

pub returns-then-reader-eq0 : goal.returns-then-reader-eq0
returns-then-reader-eq0 c =
    let n = c.new.ensures in
    let s = c.step_at-first in
    let p = assigning_first (lowest c.args.ranks.now) c.args.work.now c.args.top c.args.above n.0 n.1 c.requires.above_le_no_hop s.ensures.stepped s.result.entries
    (λ i lt. s.ensures.by_index i (omega arith)) in
    let e = assigning_end (assigning_rest c.requires.above_le_no_hop 30 1 refl (omega arith) (rw c.if-reader-eq0.true at p)) refl in
    record { by_index_2 = e.0; by_index_3 = e.1.0; by_index_4 = e.1.1 }

pub loop-b-init : goal.loop-b-init
loop-b-init c =
    let n = c.new.ensures in
    let s = c.step_at-first in
    let p = assigning_first (lowest c.args.ranks.now) c.args.work.now c.args.top c.args.above n.0 n.1 c.requires.above_le_no_hop s.ensures.stepped s.result.entries
    (λ i lt. s.ensures.by_index i (omega arith)) in
    (omega arith, p)

pub step_at-s-requires : goal.step_at-s-requires
step_at-s-requires c =
    let h = c.requires.by_index in record { top_in_bounds = assigning_room c.loop-b.invariant.1 h.0 h.1 (omega arith); b_bound = omega arith }

pub loop-b-preserved : goal.loop-b-preserved
loop-b-preserved c =
    let l = c.loop-b in
    let s = c.step_at-s in (
      omega arith,
      assigning_next l.invariant.1 (omega arith) c.requires.above_le_no_hop c.over_at-over.ensures s.ensures.stepped s.result.entries
          (λ i lt. s.ensures.by_index i (omega arith)),
    )

pub returns : goal.returns
returns c =
    let ends : c.loop-b.b ≡ 31 = omega arith in
    let e = assigning_end c.loop-b.invariant.1 ends in
    record { by_index_2 = e.0; by_index_3 = e.1.0; by_index_4 = e.1.1 }
