-- `gather::long_half_at` meets its contract: it masks eight octets by the record's length. Assumes nothing.
use Prim.Native.Nat.{ℕ, ◌-◌, ◌*◌}
use mathlib.Core.Logic.{inr}
use mathlib.Core.Path.{refl, ap, ◌∙◌}
use native.Mathlib.Omega.{arith}
use Rattle.theory.specs.Results.{start_of}
use Rattle.words.specs.Keys.{key_of}
use Rattle.records.specs.Sized.{raw_in, route_in}
use Rattle.records.proofs.SizedKeys.{raw_key_16}
use Rattle.gather.proofs.Halves.{key_wide}
use Rattle.gather.proofs.long_half_at.Goals as goal

pub returns : goal.returns
unfolding route_in
returns c =
    let a = c.args in
    let r = raw_in 16 a.table.now a.i in
    let key = c.masked_key.ensures 64 r.addr (omega arith) (c.oct_at.ensures ∙ raw_key_16 a.table.now a.i) in
    ap (λ (k : ℕ). k * 2) (key ∙ ap (λ (l : ℕ). key_of 64 (start_of (64 - l) r.addr)) c.length_at.ensures)
    ∙ key_wide 16 (inr refl) (route_in 16 a.table.now a.i).addr
