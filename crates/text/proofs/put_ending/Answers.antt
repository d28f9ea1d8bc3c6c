-- `text::put_ending` meets its contract. Assumes nothing.
use mathlib.Core.List.{append_assoc}
use native.Mathlib.Omega.{arith}
use Rattle.text.specs.Text.{hop_end}
use Rattle.text.proofs.Puts.{put_as, put_then}
use Rattle.text.proofs.put_ending.Goals as goal

pub returns-then-hops : goal.returns-then-hops
unfolding hop_end
returns-then-hops c =
    let size = c.put_octet-end.ensures in
    let hop = c.put_octet.ensures in
    rw c.if-hops.true (record { put = put_as (simp append_assoc) (put_then size.put hop.put); upper_bound = omega (arith, size.upper_bound, hop.upper_bound) })

pub returns-else-hops : goal.returns-else-hops
unfolding hop_end
returns-else-hops c =
    let size = c.put_octet-else-hops.ensures in
    rw c.if-hops.false (record { put = size.put; upper_bound = omega (arith, size.upper_bound) })
