-- `put_command` does what is to be done. Assumes nothing.
use Prim.Native.Nat.{◌≤◌}
use mathlib.Core.Path.{◌∙◌}
use native.Mathlib.Omega.{arith}
use Rattle.text.proofs.Puts.{put_as}
use Rattle.live_cases.proofs.Laid.{put-short}
use Rattle.live_cases.proofs.Carried.{as_unknown, as_flip, as_look, as_change}
use Rattle.live_cases.proofs.put_command.Goals as goal

pub returns-in-0-to-2 : goal.returns-in-0-to-2
returns-in-0-to-2 c =
    let a = c.args in
    let p = c.put_change.ensures in
    let is = as_change a.command a.room.now (omega arith) (λ e. omega arith) (λ e. omega arith) in record { put = (put_as is.0 p.put.0, p.put.1); room_after = p.room_after ∙ is.1 }

pub returns-in-3 : goal.returns-in-3
returns-in-3 c =
    let a = c.args in
    let p = c.put_lookup.ensures in
    let is = as_look a.command a.room.now (omega arith) (λ e. omega arith) c.in-3.is in record { put = (put_as is.0 p.0, p.1); room_after = is.1 }

pub returns-in-4 : goal.returns-in-4
returns-in-4 c =
    let a = c.args in
    let p = c.put_bytes.ensures in
    let is = as_flip a.command a.room.now (omega arith) c.in-4.is in record { put = (put_as is.0 p, put-short p (let h : 8 ≤ 36 = omega arith in h)); room_after = c.flip.ensures ∙ is.1 }

pub returns-in_default : goal.returns-in_default
returns-in_default c =
    let a = c.args in
    let p = c.put_bytes-in_default.ensures in
    let is = as_unknown a.command a.room.now (omega arith) in record { put = (put_as is.0 p, put-short p (let h : 16 ≤ 36 = omega arith in h)); room_after = is.1 }
