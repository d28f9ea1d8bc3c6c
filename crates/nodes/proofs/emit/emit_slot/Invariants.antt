-- `nodes::emit::emit_slot` meets its contract. The loop: the entries of the first l levels are written, at most one for each; of those before the
-- level that it starts at there is none. Assumes nothing.
use mathlib.Core.Path.{◌≡◌}
use Prim.Native.Nat.{ℕ, ◌/◌, ◌≤◌}
use lib.ListN.{length}
use Rattle.nodes.specs.Output.{Wrote, slot_heads}
use Rattle.nodes.proofs.emit.emit_slot.Given as goal

abbrev pub invariant-loop-l : goal.invariant-loop-l
invariant-loop-l l =
    (l.l ≤ 5) × ((l.n ≤ l.l) × ((length l.out ≡ length l.initial.out) × ((a : ℕ) → a / 2 ≡ l.addr → Wrote l.size (slot_heads l.entries l.hops l.depth a l.c l.l) 0 l.n l.initial.out l.out)))
