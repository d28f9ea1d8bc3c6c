-- `is_special` is whether the prefix lies in a range by its place.
use Rattle.std.proofs.Common.{rules, ◌∙◌, refl, arith}
use Rattle.std.proofs.lemmas.Iterator.{YieldsList-from_range}
use Rattle.std.proofs.lemmas.Iterator.Search.{any_from_yields_List}
use Rattle.records.specs.Wire.{route_at, records}
use Rattle.records.specs.Sized.{route}
use Rattle.special.specs.Ranges.{lies_in}
use Rattle.special.proofs.Scan.{lies_somewhere}
use Rattle.special.proofs.is_special.Goals as goal

pub returns : goal.returns
returns c =
    let r = c.args.ranges.now in
    let q = route c.args.addr c.args.len 0 in
    any_from_yields_List (λ j. lies_in 32 (route_at r j) q) _ _ _ c.any.ensures.ran (YieldsList-from_range 0 (records r) (records r) refl (omega arith))
    (λ x b g k. search rules) ∙ lies_somewhere r q
