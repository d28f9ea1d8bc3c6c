-- `lines::put_looked` puts the line of an answer. Assumes nothing.
use Prim.Native.Nat.{◌≤◌}
use mathlib.Core.Path.{◌≡◌}
use native.Mathlib.Omega.{arith}
use Rattle.std.specs.Prelude.{None, Some}
use Rattle.live_cases.specs.Lines.{look_line}
use Rattle.live_cases.proofs.Laid.{put-short, refused_short, found-short}
use borrow.Author.Rules.{rules}
use Rattle.live_cases.proofs.lines.put_looked.Goals as goal

pub returns-in-Ok-Some : goal.returns-in-Ok-Some
unfolding look_line
returns-in-Ok-Some c =
    let p = c.put_found.ensures in
    let e : c.in-Ok-Some.field-0 ≡ Some c.in-Ok-Some.found = rw c.in-Ok-Some.is at c.in-Ok-Some.field-0-is in
    rw (c.in-Ok-Some.is, e) (p, put-short p (found-short _ _ (search rules) (search rules)))

pub returns-in-Ok-None : goal.returns-in-Ok-None
unfolding look_line
returns-in-Ok-None c =
    let p = c.put_bytes.ensures in
    let e : c.in-Ok-None.field-0 ≡ None = rw c.in-Ok-None.is at c.in-Ok-None.field-0-is in
    rw (c.in-Ok-None.is, e) (p, put-short p (let h : 9 ≤ 36 = omega arith in h))

pub returns-in-Err : goal.returns-in-Err
unfolding look_line
returns-in-Err c =
    let p = c.put_refused.ensures in
    rw c.in-Err.is (p, put-short p (refused_short _ _ (search rules) (search rules)))
