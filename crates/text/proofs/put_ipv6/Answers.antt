-- `text::put_ipv6` meets its contract: the groups one behind another, and `::`. Assumes nothing.
use mathlib.Core.Path.{sym, ap, ◌∙◌}
use mathlib.Core.List.{List, [], ◌∷◌, ◌++◌, append_assoc}
use Prim.Native.Nat.{ℕ}
use native.Mathlib.Omega.{arith}
use Rattle.text.specs.Ipv6.{ipv6}
use Rattle.text.proofs.Ipv6.{ipv6-zero, ipv6_parts}
use Rattle.text.proofs.Puts.{put_as, put_then}
use Rattle.text.proofs.put_ipv6.Goals as goal

pub returns-then-address-eq0 : goal.returns-then-address-eq0
returns-then-address-eq0 c =
    let text = c.put_bytes.ensures in record { put = put_as (sym (ap (λ (a : ℕ). ipv6 a ++ (47 ∷ [])) c.if-address-eq0.true ∙ ap (λ (l : List ℕ). l ++ (47 ∷ [])) ipv6-zero)) text; upper_bound = omega (arith, text.ends) }

pub returns : goal.returns
returns c =
    let first = c.put_group-one.ensures in
    let second = c.put_group-two.ensures in
    let third = c.put_group-three.ensures in
    let fourth = c.put_group-four.ensures in
    let end = c.put_bytes-2.ensures in record { put = put_as (rw (ipv6_parts c.args.address c.if-address-eq0.false) (simp append_assoc)) (put_then first.put (put_then second.put (put_then third.put (put_then fourth.put end)))); upper_bound = omega (arith, first.upper_bound, second.upper_bound, third.upper_bound, fourth.upper_bound, end.ends) }
