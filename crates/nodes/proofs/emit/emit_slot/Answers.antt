-- `nodes::emit::emit_slot` meets its contract. The loop: the entries of the first l levels are written, at most one for each; of those before the
-- level that it starts at there is none. Assumes nothing.
use mathlib.Core.Path.{refl, ◌∙◌}
use native.Mathlib.Omega.{arith}
use Rattle.nodes.proofs.OutputLevels.{heads_none, heads-before, heads_more}
use Rattle.nodes.proofs.emit.emit_slot.Goals as goal

pub returns-then-entries-eq0 : goal.returns-then-entries-eq0
returns-then-entries-eq0 c a half = heads_none _ _ _ _ _ c.requires.1.1 c.if-entries-eq0.true 5 _

pub loop-l-init : goal.loop-l-init
loop-l-init c =
    let first = c.first_level-l.ensures in
    (first.upper_bound, (omega arith, (refl, λ a half. heads-before _ _ _ _ _ c.requires.1.1 _ first.upper_bound first.by_index _)))

pub loop-l-preserved : goal.loop-l-preserved
loop-l-preserved c =
    let call = c.emit_level-n in
    let inv = c.loop-l.invariant in
    let same = inv.1.1.0 in
    (omega arith, (omega arith, (call.auto.out ∙ same, λ a half. heads_more _ _ _ _ _ c.requires.1.1 _ (inv.1.1.1 a half) same (call.ensures.by_index a half))))
