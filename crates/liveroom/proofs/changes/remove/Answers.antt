-- `changes::remove` moves the later records down. Assumes nothing.
use Prim.Native.Nat.{ℕ, ◌-◌}
use mathlib.Core.List.{List}
use mathlib.Core.Path.{ap, ◌∙◌}
use native.Mathlib.Omega.{arith}
use lib.ListN.{set}
use Rattle.liveroom.proofs.Moving.{remove_is}
use Rattle.liveroom.proofs.changes.remove.Goals as goal

pub returns : goal.returns
returns c =
    let a = c.args in
    ap (λ (u : List ℕ). set u 1 (a.n - 1)) c.copy_within.ensures.after ∙ remove_is a.room.now a.n a.at (omega arith) (omega arith)
