-- `lines::put_kept` puts the line of an answer. Assumes nothing.
use Prim.Native.Nat.{◌≤◌}
use native.Mathlib.Omega.{arith}
use Rattle.live_cases.specs.Lines.{kept_line}
use Rattle.live_cases.proofs.Laid.{put-short, refused_short}
use borrow.Author.Rules.{rules}
use Rattle.live_cases.proofs.lines.put_kept.Goals as goal

pub returns-in-Ok-true : goal.returns-in-Ok-true
unfolding kept_line
returns-in-Ok-true c =
    let p = c.put_bytes.ensures in
    rw (c.in-Ok-true.is, c.in-Ok-true.field-0-test) (p, put-short p (let h : 5 ≤ 36 = omega arith in h))

pub returns-in-Ok-false : goal.returns-in-Ok-false
unfolding kept_line
returns-in-Ok-false c =
    let p = c.put_bytes-in-Ok-false.ensures in
    rw (c.in-Ok-false.is, c.in-Ok-false.field-0-test) (p, put-short p (let h : 7 ≤ 36 = omega arith in h))

pub returns-in-Err : goal.returns-in-Err
unfolding kept_line
returns-in-Err c =
    let p = c.put_refused.ensures in
    rw c.in-Err.is (p, put-short p (refused_short _ _ (search rules) (search rules)))
