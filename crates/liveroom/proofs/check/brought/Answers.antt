-- `check::brought` is the table's count for two routes, by the keys of their addresses. Assumes nothing.
use Prim.Native.Nat.{◌/◌}
use mathlib.Core.Path.{refl}
use mathlib.Core.List.{[], ◌∷◌}
use native.Mathlib.Omega.{arith}
use Rattle.nodecount.proofs.NodePass.{fresh-small}
use Rattle.nodecount.specs.Nodes.{bare}
use Rattle.liveroom.proofs.check.brought.Goals as goal

pub returns : goal.returns
returns c =
    let a = c.args in
    let counted = c.new_nodes.ensures 32 a.addr a.last_addr (omega arith) c.requires.0 refl refl in
    (counted, omega (arith, counted, c.requires, fresh-small 32 (bare a.last_addr a.last_len ∷ []) a.addr (a.len / 5)))
