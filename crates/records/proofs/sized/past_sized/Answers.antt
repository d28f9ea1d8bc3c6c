-- `records::sized::past_sized` multiplies where the product fits. Assumes nothing.
use mathlib.Core.Path.{◌≡◌, sym, ap}
use Prim.Native.Nat.{ℕ, ◌*◌}
use native.Mathlib.Omega.{arith}
use Rattle.records.proofs.SizedKeys.{size-long}
use Rattle.records.proofs.sized.past_sized.Goals as goal

pub returns-then-count-len : goal.returns-then-count-len
returns-then-count-len c =
    let a = c.args in record { upper_bound = omega arith; value = λ h. ap (λ (s : ℕ). a.count * s) (sym c.if-size-eq8.true) }

pub returns-else-count-len : goal.returns-else-count-len
returns-else-count-len c =
    let a = c.args in
    let e : a.count * a.size ≡ a.count * 8 = ap (λ (s : ℕ). a.count * s) c.if-size-eq8.true in record { upper_bound = omega arith; value = λ h. absurd (omega arith) }

pub returns-then-count-len-2 : goal.returns-then-count-len-2
returns-then-count-len-2 c =
    let a = c.args in record { upper_bound = omega arith; value = λ h. ap (λ (s : ℕ). a.count * s) (sym (size-long a.size c.requires c.if-size-eq8.false)) }

pub returns-else-count-len-2 : goal.returns-else-count-len-2
returns-else-count-len-2 c =
    let a = c.args in
    let e : a.count * a.size ≡ a.count * 16 = ap (λ (s : ℕ). a.count * s) (size-long a.size c.requires c.if-size-eq8.false) in record { upper_bound = omega arith; value = λ h. absurd (omega arith) }
