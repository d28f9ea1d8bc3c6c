-- `rules::in_order` compares record i with the one before it. Assumes nothing.
use Prim.Native.Nat.{ℕ, ◌-◌}
use mathlib.Core.Path.{ap₂, ◌∙◌}
use mathlib.Core.Bool.{◌||◌, ◌&&◌}
use lib.Dec.{eqb, ltb}
use Rattle.records.specs.Sized.{width_in, route_in}
use Rattle.table.proofs.SizedJudging.{in_order_next}
use Rattle.table.proofs.rules.in_order.Goals as goal

pub returns : goal.returns
returns c =
    let a = c.args in
    let x = route_in a.size a.table.now (a.i - 1) in
    let y = route_in a.size a.table.now a.i in
    c.key_comes_before.ensures (width_in a.size) x.addr y.addr c.key_at.ensures c.key_at-2.ensures
    ∙ ap₂ (λ (l m : ℕ). ltb x.addr y.addr || (eqb x.addr y.addr && ltb l m)) c.length_at.ensures c.length_at-2.ensures
    ∙ in_order_next a.size a.table.now a.i c.if-i-eq0.false
