-- Routes without host bits: they match what they matched, they are valid, and a valid route is its own. Assumes nothing.
use Prim.Native.Nat.{ℕ, ◌-◌, ◌/◌, ◌^◌, ◌≤◌, ◌<◌}
use mathlib.Core.Path.{◌≡◌, sym, ap}
use native.Mathlib.Omega.{arith}
use lib.Dec.{eqb}
use Rattle.theory.specs.Results.{start_of, masked}
use Rattle.theory.specs.Routes.{Route, matches, Valid}
use Rattle.theory.proofs.Blocks.{pow_pos, aligned-start, in_start, in→block, start_is}

-- Host bits match nothing and hide nothing.
pub masked-matches : (w x : ℕ) (r : Route) → matches w (masked w r) x ≡ matches w r x
masked-matches w x r =
    let n = w - r.len in
    ap (eqb (x / 2 ^ n)) (sym (in→block n (start_of n r.addr) r.addr (aligned-start n r.addr) (in_start n r.addr)))

-- What is masked is a route as a table has it.
pub masked-valid : (w : ℕ) (r : Route) → r.len ≤ w → r.addr < 2 ^ w → Valid w (masked w r)
masked-valid w r short small =
    let n = w - r.len in
    record { short = short; clean = aligned-start n r.addr; small = omega (arith, in_start n r.addr) }

-- Such a route is not changed.
pub masked_same : (w : ℕ) (r : Route) → Valid w r → masked w r ≡ r
masked_same w r v =
    let n = w - r.len in
    ap (λ (a : ℕ). record { addr = a; len = r.len; hop = r.hop }) (start_is n r.addr r.addr v.clean (omega (arith, pow_pos n)))
