-- `text::put_dotted` meets its contract: four parts, one behind another. Assumes nothing.
use mathlib.Core.Path.{◌≡◌}
use mathlib.Core.List.{append_assoc}
use Prim.Native.Nat.{◌/◌, ◌%◌}
use native.Mathlib.Omega.{arith}
use Rattle.text.specs.Text.{dotted}
use Rattle.text.proofs.Puts.{put_as, put_then}
use Rattle.text.proofs.put_dotted.Goals as goal

pub returns-clause-put : goal.returns-clause-put
unfolding dotted
returns-clause-put c =
    let first = c.put_octet-first.ensures in
    let second = c.put_octet-second.ensures in
    let third = c.put_octet-third.ensures in
    let fourth = c.put_octet.ensures in
    let n = c.args.address in
    let highest : n / 16777216 % 256 ≡ n / 16777216 = omega arith in
    put_as (rw (c.to_be_bytes.ensures, highest) (simp append_assoc)) (put_then first.put (put_then second.put (put_then third.put fourth.put)))
