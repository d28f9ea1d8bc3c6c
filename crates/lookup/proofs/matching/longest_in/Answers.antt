-- `matching::longest_in` goes from the last record to the first. The loop's invariant: the best so far is the longest match among the
-- routes from record i on. Assumes nothing.
use mathlib.Core.List.{List}
use mathlib.Core.Path.{refl, sym, ap, ap₂, ◌∙◌}
use native.Mathlib.Omega.{arith}
use Rattle.theory.specs.Routes.{Route, longer, lookup}
use Rattle.records.specs.Sized.{width_in, records_in}
use Rattle.records.proofs.SizedReading.{in_rest_end, in_rest_all, in_rest_step}
use Rattle.lookup.proofs.matching.longest_in.Goals as goal

pub loop-i-init : goal.loop-i-init
loop-i-init c x e =
    let a = c.args in
    ap (λ (rs : List Route). lookup (width_in a.size) rs x) (sym (in_rest_end a.size a.table.now (records_in a.size a.table.now) refl))

pub loop-i-preserved : goal.loop-i-preserved
loop-i-preserved c x e =
    let a = c.args in
    c.longer_of-best.ensures
    ∙ ap₂ longer (c.tried_at.ensures x e) (c.loop-i.invariant x e)
    ∙ ap (λ (rs : List Route). lookup (width_in a.size) rs x) (sym (in_rest_step a.size a.table.now c.loop-i.i (omega arith) (omega arith)))

pub returns : goal.returns
returns c x e =
    let a = c.args in
    c.loop-i.invariant x e ∙ ap (λ (rs : List Route). lookup (width_in a.size) rs x) (in_rest_all a.size a.table.now c.loop-i.i (omega arith))
