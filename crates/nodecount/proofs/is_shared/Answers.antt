-- `is_shared` answers what the test `node_at` says: the record is too short, or the blocks decide. Assumes nothing.
use mathlib.Core.Path.{sym, ap₂, ◌∙◌}
use Prim.Native.Nat.{ℕ, ◌-◌, ◌*◌, ◌/◌, ◌^◌}
use lib.Dec.{eqb}
use Rattle.words.proofs.KeyLaws.{key_bits}
use native.Mathlib.Omega.{arith}
use Rattle.nodecount.specs.Nodes.{bare}
use Rattle.nodecount.proofs.NodeCount.{node-long}
use Rattle.nodecount.proofs.is_shared.Goals as goal

pub returns-then-depth-last_len : goal.returns-then-depth-last_len
returns-then-depth-last_len c w a b le deep e f =
    let s = c.args in
    ap₂ (λ (x y : ℕ). eqb (x / 2 ^ (64 - 5 * s.m)) (y / 2 ^ (64 - 5 * s.m))) f e
    ∙ ap₂ eqb (key_bits w (5 * s.m) b le deep) (key_bits w (5 * s.m) a le deep)
    ∙ sym (node-long w s.m a (bare b s.last_len) (omega arith))
