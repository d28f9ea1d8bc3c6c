-- `records::sized::oct_at` joins eight octets. Assumes nothing.
use mathlib.Core.Path.{◌≡◌, ap₂, ◌∙◌}
use mathlib.Core.List.{List}
use native.Mathlib.Omega.{arith}
use Prim.Native.Nat.{ℕ, ◌+◌, ◌*◌}
use native.Mathlib.Nat.{add_assoc}
use lib.ListN.{get_or}
use Rattle.records.specs.Wire.{join}
use Rattle.records.specs.Sized.{number}
use Rattle.records.proofs.Numbers.{number_four, number_eight}
use Rattle.records.proofs.sized.oct_at.Goals as goal

-- Its octets one by one.
low : (t : List ℕ) (k : ℕ) → number t (k + 4) 4 ≡ join (get_or t (k + 4) 0) (get_or t (k + 5) 0) (get_or t (k + 6) 0) (get_or t (k + 7) 0)
low t k = number_four t (k + 4) ∙ simp add_assoc

octets : (t : List ℕ) (k : ℕ)
    → number t k 8
    ≡ join (get_or t k 0) (get_or t (k + 1) 0) (get_or t (k + 2) 0) (get_or t (k + 3) 0) * 4294967296
    + join (get_or t (k + 4) 0) (get_or t (k + 5) 0) (get_or t (k + 6) 0) (get_or t (k + 7) 0)
octets t k = number_eight t k ∙ ap₂ (λ (x y : ℕ). x * 4294967296 + y) (number_four t k) (low t k)

pub returns : goal.returns
returns c = omega (arith, c.from_be_bytes.ensures, octets c.args.table.now c.args.k)
