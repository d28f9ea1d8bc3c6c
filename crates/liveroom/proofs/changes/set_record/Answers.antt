-- `changes::set_record` writes two words. Assumes nothing.
use Prim.Native.Nat.{ℕ, ◌+◌, ◌*◌}
use mathlib.Core.List.{◌∷◌, ◌++◌}
use mathlib.Core.Path.{◌≡◌, ap, ◌∙◌}
use native.Mathlib.Omega.{arith}
use lib.ListN.{take, drop}
use Rattle.liveroom.proofs.Moving.{two-sets}
use Rattle.liveroom.proofs.changes.set_record.Goals as goal

pub returns : goal.returns
returns c =
    let a = c.args in
    let w = a.len * 65536 + a.hop in
    let k : 2 + 2 * a.i + 2 ≡ 4 + 2 * a.i = omega arith in
    two-sets a.room.now (2 + 2 * a.i) (3 + 2 * a.i) a.addr w (omega arith) (omega arith)
    ∙ ap (λ (m : ℕ). take (2 + 2 * a.i) a.room.now ++ (a.addr ∷ w ∷ drop m a.room.now)) k
