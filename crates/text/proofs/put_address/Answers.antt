-- `text::put_address` meets its contract: the address is what is left of the key. Assumes nothing.
use mathlib.Core.Path.{◌≡◌, ap}
use mathlib.Core.List.{[], ◌∷◌, ◌++◌}
use Prim.Native.Nat.{ℕ, ◌/◌}
use native.Mathlib.Omega.{arith}
use Rattle.records.proofs.SizedKeys.{size-long}
use Rattle.text.specs.Ipv6.{hex16, ipv6}
use Rattle.text.specs.Text.{address_in}
use Rattle.text.proofs.Puts.{put_as}
use Rattle.text.proofs.put_address.Goals as goal

pub put_hex16-requires : goal.put_hex16-requires
put_hex16-requires c =
    omega (arith, c.requires.size_in_bounds, size-long c.args.size c.requires.size c.if-size-eq8.false)

pub put_ipv6-requires : goal.put_ipv6-requires
put_ipv6-requires c =
    omega (arith, c.requires.size_in_bounds, size-long c.args.size c.requires.size c.if-size-eq8.false)

pub returns-then-size-eq8 : goal.returns-then-size-eq8
unfolding address_in
returns-then-size-eq8 c =
    let text = c.put_dotted.ensures in rw c.if-size-eq8.true (record { put = text.put; upper_bound = omega (arith, text.upper_bound) })

pub returns-then-hex : goal.returns-then-hex
unfolding address_in
returns-then-hex c =
    let text = c.put_hex16.ensures in
    let whole : c.args.key ≡ c.args.key / 1 = omega arith in
    rw (size-long c.args.size c.requires.size c.if-size-eq8.false, c.if-hex.true) (record { put = put_as (ap (λ (a : ℕ). hex16 a ++ (47 ∷ [])) whole) text.put; upper_bound = omega (arith, text.upper_bound) })

pub returns-else-hex : goal.returns-else-hex
unfolding address_in
returns-else-hex c =
    let text = c.put_ipv6.ensures in
    let whole : c.args.key ≡ c.args.key / 1 = omega arith in
    rw (size-long c.args.size c.requires.size c.if-size-eq8.false, c.if-hex.false) (record { put = put_as (ap (λ (a : ℕ). ipv6 a ++ (47 ∷ [])) whole) text.put; upper_bound = omega (arith, text.upper_bound) })
