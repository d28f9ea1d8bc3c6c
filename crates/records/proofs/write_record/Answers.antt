-- `records::write_record` writes the octets of the address, the length, the hop and two zeros. Assumes nothing.
use mathlib.Core.Path.{sym, ap, ◌∙◌}
use mathlib.Core.List.{List}
use Prim.Native.Nat.{ℕ, ◌*◌}
use Rattle.records.specs.Sized.{route, laid}
use Rattle.records.proofs.Written.{record_bytes}
use Rattle.records.proofs.write_record.Goals as goal

pub returns : goal.returns
returns c =
    let a = c.args in
    rw c.to_be_bytes.ensures at c.write_eight.ensures ∙ ap (λ (l : List ℕ). laid (8 * a.at) l a.out.now) (sym (record_bytes (route a.addr a.len a.hop)))
