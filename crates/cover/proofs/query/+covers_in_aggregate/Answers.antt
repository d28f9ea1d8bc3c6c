-- `cover::query::covers_in_aggregate`, which calls itself on a slot, meets its contract. Assumes nothing.
use Prim.Native.Nat.{◌-◌, ◌*◌}
use mathlib.Core.Path.{refl, sym, ap, ◌∙◌}
use mathlib.Core.Bool.{true, false}
use mathlib.Core.List.{List}
use native.Mathlib.Omega.{arith}
use lib.ListN.{get_or-replicate}
use Rattle.theory.specs.Results.{throughout}
use Rattle.theory.specs.Routes.{Route, held}
use Rattle.nodes.specs.Node.{wide}
use Rattle.gather.proofs.GatherRuns.{run_none}
use Rattle.cover.proofs.CoverLaws.{none_covered, Sought, record_covers, position-answer, slot-node, slot-lies, slot-answer}
use Rattle.cover.proofs.query.+covers_in_aggregate.Goals as goal

pub gather_run-requires : goal.gather_run-requires
gather_run-requires t c = record { node = c.requires.node; first_len = (refl, refl); by_index = λ b lt. (get_or-replicate 63 b 0 0 lt, get_or-replicate 63 b 0 0 lt) }

pub returns-then-over : goal.returns-then-over
returns-then-over t c =
    let sought : Sought c.args.size c.args.table.now c.args.lo c.args.hi c.args.depth (c.args.key * 2) (c.args.query * 2) c.args.len c.gather_run.new.first c.gather_run.new.end c.gather_run.result.present c.level_of.result c.heap_index-b.result = let pre = c.requires in record { node = pre.node; gathered = c.gather_run.ensures.gathered; lens = pre.depth_le_len; aligned = pre.aligned; lies = pre.fact; leveled = c.level_of.ensures; placed = c.heap_index-b.ensures.by_index _ pre.node.at pre.fact } in
    let s = sought in
    position-answer s true c.if-b-lt31.true (λ l j le lt e. record_covers s.node s.gathered l j le lt (sym c.if-over.true ∙ c.record_over-over.ensures l j le lt e))

pub returns-then-b-lt31 : goal.returns-then-b-lt31
returns-then-b-lt31 t c =
    let sought : Sought c.args.size c.args.table.now c.args.lo c.args.hi c.args.depth (c.args.key * 2) (c.args.query * 2) c.args.len c.gather_run.new.first c.gather_run.new.end c.gather_run.result.present c.level_of.result c.heap_index-b.result = let pre = c.requires in record { node = pre.node; gathered = c.gather_run.ensures.gathered; lens = pre.depth_le_len; aligned = pre.aligned; lies = pre.fact; leveled = c.level_of.ensures; placed = c.heap_index-b.ensures.by_index _ pre.node.at pre.fact } in
    position-answer sought _ c.if-b-lt31.true c.bit_covered.ensures

pub returns-then-record_over : goal.returns-then-record_over
returns-then-record_over t c =
    let sought : Sought c.args.size c.args.table.now c.args.lo c.args.hi c.args.depth (c.args.key * 2) (c.args.query * 2) c.args.len c.gather_run.new.first c.gather_run.new.end c.gather_run.result.present c.level_of.result c.heap_index-b.result = let pre = c.requires in record { node = pre.node; gathered = c.gather_run.ensures.gathered; lens = pre.depth_le_len; aligned = pre.aligned; lies = pre.fact; leveled = c.level_of.ensures; placed = c.heap_index-b.ensures.by_index _ pre.node.at pre.fact } in
    slot-answer sought true c.if-b-lt31.false (λ l j le lt e. sym c.if-record_over.true ∙ c.record_over.ensures l j le lt e)

pub covers_in_aggregate-requires : goal.covers_in_aggregate-requires
covers_in_aggregate-requires t c =
    let sought : Sought c.args.size c.args.table.now c.args.lo c.args.hi c.args.depth (c.args.key * 2) (c.args.query * 2) c.args.len c.gather_run.new.first c.gather_run.new.end c.gather_run.result.present c.level_of.result c.heap_index-b.result = let pre = c.requires in record { node = pre.node; gathered = c.gather_run.ensures.gathered; lens = pre.depth_le_len; aligned = pre.aligned; lies = pre.fact; leveled = c.level_of.ensures; placed = c.heap_index-b.ensures.by_index _ pre.node.at pre.fact } in
    let s = sought in
    let slot = c.if-b-lt31.false in
    let child = slot-node s slot c.if-from-to.true in
    let lies = slot-lies s slot in
    let key = c.slot_key.ensures.result_value (omega (arith, child.at.deep)) in
    (omega (arith, c.decreases, child.within_reach), (rw key child, ((lies.0, s.lens.1), (s.aligned, rw key lies.1))))

pub returns-then-from-to : goal.returns-then-from-to
returns-then-from-to t c =
    let sought : Sought c.args.size c.args.table.now c.args.lo c.args.hi c.args.depth (c.args.key * 2) (c.args.query * 2) c.args.len c.gather_run.new.first c.gather_run.new.end c.gather_run.result.present c.level_of.result c.heap_index-b.result = let pre = c.requires in record { node = pre.node; gathered = c.gather_run.ensures.gathered; lens = pre.depth_le_len; aligned = pre.aligned; lies = pre.fact; leveled = c.level_of.ensures; placed = c.heap_index-b.ensures.by_index _ pre.node.at pre.fact } in
    c.covers_in_aggregate.ensures
    ∙ slot-answer sought false c.if-b-lt31.false (λ l j le lt e. sym c.if-record_over.false ∙ c.record_over.ensures l j le lt e)

pub returns : goal.returns
returns t c =
    let sought : Sought c.args.size c.args.table.now c.args.lo c.args.hi c.args.depth (c.args.key * 2) (c.args.query * 2) c.args.len c.gather_run.new.first c.gather_run.new.end c.gather_run.result.present c.level_of.result c.heap_index-b.result = let pre = c.requires in record { node = pre.node; gathered = c.gather_run.ensures.gathered; lens = pre.depth_le_len; aligned = pre.aligned; lies = pre.fact; leveled = c.level_of.ensures; placed = c.heap_index-b.ensures.by_index _ pre.node.at pre.fact } in
    let a = c.args in
    sym (none_covered wide (wide - a.len) (a.query * 2))
    ∙ ap (λ (u : List Route). throughout (held wide u) (wide - a.len) (a.query * 2)) (sym (run_none a.size a.table.now _ _ c.if-from-to.false))
    ∙ slot-answer sought false c.if-b-lt31.false (λ l j le lt e. sym c.if-record_over.false ∙ c.record_over.ensures l j le lt e)
