-- `new_nodes`: the depths below 5 * m are all new, those down to it are still to be looked at.
use mathlib.Core.Path.{◌≡◌}
use mathlib.Core.List.{[], ◌∷◌}
use Prim.Native.Nat.{ℕ, ◌+◌, ◌-◌, ◌≤◌}
use Rattle.words.specs.Keys.{key_of}
use Rattle.nodecount.specs.Nodes.{fresh, bare}
use Rattle.nodecount.proofs.new_nodes.Given as goal

abbrev pub invariant-loop-m : goal.invariant-loop-m
invariant-loop-m l =
    (w a b : ℕ) → w ≤ 64 → l.len ≤ w → l.key ≡ key_of w a → l.last_key ≡ key_of w b
    → l.levels - l.m + fresh w (bare b l.last_len ∷ []) a l.m ≡ fresh w (bare b l.last_len ∷ []) a l.levels
