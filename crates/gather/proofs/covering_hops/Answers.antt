-- `gather::covering_hops` meets its contract. Assumes nothing.
use Prim.Native.Nat.{ℕ, ◌≤◌, ◌<◌}
use mathlib.Core.Path.{sym, ◌∙◌}
use lib.ListN.{get_or, get_or-replicate}
use Rattle.words.specs.Positions.{position}
use Rattle.words.proofs.BitLaws.{bit-zero}
use Rattle.words.proofs.PositionLaws.{in_word}
use Rattle.gather.proofs.GatherCovers.{covering_none}
use Rattle.gather.proofs.covering_hops.Goals as goal

pub returns-then-present-eq-NONE : goal.returns-then-present-eq-NONE
returns-then-present-eq-NONE c l j le lt =
    let a = c.args in
    let none : (b : ℕ) → b < 31 → get_or a.end.now b 0 ≤ get_or a.first.now b 0 =
    λ b h. c.requires.by_index_2 b h (rw c.if-present-eq-NONE.true (bit-zero b)) in
    get_or-replicate 31 (position l j) a.inherited 0 (in_word l j le lt)
    ∙ sym (covering_none a.size a.table.now a.first.now a.end.now a.inherited none l j le lt)
