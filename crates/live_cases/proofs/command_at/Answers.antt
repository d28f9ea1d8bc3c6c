-- `command_at` reads the 8 bytes. Assumes nothing.
use Prim.Native.Nat.{ℕ, ◌+◌, ◌*◌}
use mathlib.Core.Path.{ap₂, ◌∙◌}
use lib.ListN.{get_or}
use Rattle.live_cases.specs.Commands.{command_of, command_at}
use Rattle.live_cases.proofs.command_at.Goals as goal

pub returns : goal.returns
unfolding command_at
returns c =
    let a = c.args in
    ap₂ (λ (hop address : ℕ). command_of (get_or a.commands.now (8 * a.i) 0) hop (get_or a.commands.now (8 * a.i + 3) 0) address) (c.from.ensures ∙ c.from_be_bytes-hop.ensures) c.join4.ensures
