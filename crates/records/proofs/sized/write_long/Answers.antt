-- `records::sized::write_long` writes the eight octets, then length, hop and zeros. Assumes nothing.
use mathlib.Core.Path.{ap, ◌∙◌}
use Prim.Native.Nat.{◌+◌}
use Rattle.records.specs.Sized.{route, laid}
use Rattle.records.proofs.SizedKeys.{last_eight, laid-long}
use Rattle.records.proofs.sized.write_long.Goals as goal

pub returns : goal.returns
returns c =
    let a = c.args in
    c.write_eight-2.ensures
    ∙ ap (laid (a.k + 8) (last_eight a.len a.hop)) (rw c.to_be_bytes.ensures at c.write_eight.ensures)
    ∙ laid-long a.k (route a.key a.len a.hop) a.out.now c.requires
