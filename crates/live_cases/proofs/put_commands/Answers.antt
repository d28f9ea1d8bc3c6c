-- `put_commands` meets its contract: after i turns the first i commands are done and their lines put. Assumes nothing.
use Prim.Native.Nat.{ℕ, ◌/◌}
use mathlib.Core.Path.{◌≡◌, refl, ap, ap₂, ◌∙◌}
use mathlib.Core.List.{◌++◌}
use native.Mathlib.Omega.{arith}
use lib.ListN.{length}
use Rattle.text.proofs.Puts.{put_none, put_as, put-length, put_then}
use Rattle.live_cases.specs.Commands.{line_of, left_of, left_after, lines_of}
use Rattle.live_cases.proofs.Carried.{left_more, lines_more}
use Rattle.live_cases.proofs.put_commands.Goals as goal

pub loop-i-init : goal.loop-i-init
unfolding left_after lines_of
loop-i-init c =
    (omega arith, refl, put_none _ _ (omega (arith, c.requires.commands_in_bounds)))

pub put_command-end-requires : goal.put_command-end-requires
put_command-end-requires c =
    let inv = c.loop-i.invariant in
    let pre = c.requires in record { before_len = omega (arith, pre.before_len); at_in_bounds = omega (arith, inv.0, put-length inv.2, pre.commands_in_bounds) }

pub loop-i-preserved : goal.loop-i-preserved
loop-i-preserved c =
    let l = c.loop-i in
    let a = c.args in
    let inv = l.invariant in
    let put = c.put_command-end.ensures in
    let is = c.command_at.ensures in (
      omega (arith, inv.0, put.put.1),
      put.room_after ∙ ap₂ left_of is inv.1 ∙ left_more a.commands.now a.room.now l.i,
      put_as (ap₂ (λ u v. lines_of a.commands.now l.i a.room.now ++ line_of u v) is inv.1 ∙ lines_more a.commands.now a.room.now l.i)
          (put_then inv.2 put.put.0),
    )

pub returns : goal.returns
returns c =
    let inv = c.loop-i.invariant in
    let a = c.args in
    put_as (ap (λ (k : ℕ). lines_of a.commands.now k a.room.now) (let e : c.loop-i.i ≡ length a.commands.now / 8 = omega (arith, c.loop-i.auto.i-end, c.loop-i-test.false) in e)) inv.2
