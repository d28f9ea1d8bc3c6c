-- `new_nodes`: the depths below 5 * m are all new, those down to it are still to be looked at. Assumes nothing.
use mathlib.Core.Path.{sym, ◌∙◌}
use mathlib.Core.List.{[], ◌∷◌}
use native.Mathlib.Omega.{arith}
use Rattle.nodecount.specs.Nodes.{bare}
use Rattle.nodecount.proofs.NodePass.{fresh_shared, fresh_new, fresh-small}
use Rattle.nodecount.proofs.new_nodes.Goals as goal

pub returns-then-is_shared : goal.returns-then-is_shared
returns-then-is_shared c w a b le short e f =
    let s = c.args in
    let shared = c.is_shared.ensures w a b le (omega arith) e f in
    omega (arith, c.loop-m.invariant w a b le short e f, fresh_shared w (bare b s.last_len) a _ (sym shared ∙ c.if-is_shared.true))

pub loop-m-preserved : goal.loop-m-preserved
loop-m-preserved c w a b le short e f =
    let s = c.args in
    let shared = c.is_shared.ensures w a b le (omega arith) e f in
    omega (arith, c.loop-m.invariant w a b le short e f, fresh_new w (bare b s.last_len) a _ (omega arith) (sym shared ∙ c.if-is_shared.false))

pub returns : goal.returns
returns c w a b le short e f =
    let s = c.args in
    omega (arith, c.loop-m.invariant w a b le short e f, fresh-small w (bare b s.last_len ∷ []) a c.loop-m.m)
