-- `is_special_at`: the hop does not matter.
use Rattle.std.proofs.Common.{◌∙◌}
use Rattle.records.specs.Wire.{route_at, routes}
use Rattle.special.proofs.Scan.{any_hop}
use Rattle.special.proofs.is_special_at.Goals as goal

pub returns : goal.returns
returns c =
    let a = c.args in
    rw (c.addr_at.ensures, c.len_at.ensures) at c.is_special.ensures ∙ any_hop 32 (routes a.ranges.now) (route_at a.table.now a.i)
