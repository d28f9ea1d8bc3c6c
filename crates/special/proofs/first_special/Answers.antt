-- `first_special` is the first place at which a record lies in a range. Assumes nothing.
use Rattle.std.proofs.Common.{◌≡◌, rules, ◌∙◌, ap, sym, refl, arith, ℕ}
use Rattle.std.proofs.lemmas.Iterator.{YieldsList-from_range}
use Rattle.std.proofs.lemmas.Iterator.Search.{find_from_yields_List}
use Rattle.std.specs.List.{find, range_with_len}
use Rattle.std.specs.Option.{option_map}
use Rattle.records.specs.Wire.{route_at, routes, records}
use Rattle.special.specs.Ranges.{is_special}
use Rattle.special.specs.Calls.{place_of}
use Rattle.special.proofs.Scan.{place_kept, found_first}
use Rattle.special.proofs.first_special.Goals as goal

pub returns : goal.returns
returns c =
    let r = c.args.table.now in
    let found : option_map (λ (i : ℕ). i) c.find.result ≡ find (λ j. is_special 32 (routes c.args.ranges.now) (route_at r j)) (range_with_len 0 (records r)) =
    find_from_yields_List (λ j. is_special 32 (routes c.args.ranges.now) (route_at r j)) _ _ _ c.find.ensures.ran (YieldsList-from_range 0 (records r) (records r) refl (omega arith))
    (λ x b g k. search rules) in
    sym (place_kept c.find.result) ∙ ap place_of found ∙ found_first (routes c.args.ranges.now) r
