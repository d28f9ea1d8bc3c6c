-- `records::addr_at` masks the address by the record's length. Assumes nothing.
use mathlib.Core.Path.{◌∙◌, ap₂}
use Prim.Native.Nat.{ℕ, ◌-◌}
use Rattle.theory.specs.Results.{start_of}
use Rattle.records.specs.Sized.{route_in}
use Rattle.records.proofs.addr_at.Goals as goal

pub returns : goal.returns
unfolding route_in
returns c = c.masked.ensures ∙ ap₂ (λ (l a : ℕ). start_of (32 - l) a) c.len_at.ensures c.raw_addr_at.ensures
