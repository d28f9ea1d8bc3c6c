-- `records::sized::put_sized` writes where there is room. Assumes nothing.
use mathlib.Core.Path.{ap, ◌∙◌}
use Prim.Native.Nat.{ℕ, ◌-◌, ◌/◌, ◌^◌}
use native.Mathlib.Nat.{mul-zero}
use native.Mathlib.Omega.{arith}
use Rattle.records.specs.Sized.{width_in, record_in, route, laid}
use Rattle.records.proofs.sized.put_sized.Goals as goal

pub returns-then-size-out : goal.returns-then-size-out
returns-then-size-out c fits =
    let a = c.args in
    c.write_sized.ensures
    ∙ ap (λ (k : ℕ). laid k (record_in a.size (route (a.key / 2 ^ (64 - width_in a.size)) a.len a.hop)) a.out.now) (mul-zero a.size)

pub returns-else-size-out : goal.returns-else-size-out
returns-else-size-out c fits = absurd (omega arith)
