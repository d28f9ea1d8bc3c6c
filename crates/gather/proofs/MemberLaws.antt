-- The slots of a node that stand below a route of the node, by the word of its members.
use Prim.Native.Nat.{ℕ, zero, suc, ◌/◌, ◌^◌, ◌≤◌, ◌<◌}
use mathlib.Core.Path.{◌≡◌, refl, ap₂, ◌∙◌}
use mathlib.Core.Bool.{◌||◌}
use mathlib.Core.List.{List}
use native.Mathlib.Omega.{arith}
use Rattle.words.specs.Bits.{bit}
use Rattle.words.specs.Coverage.{UnderMembers}
use Rattle.words.specs.Positions.{under}
use Rattle.words.proofs.CoverageLaws.{slot-under}
use Rattle.positions.specs.Runs.{member_over}
use Rattle.positions.proofs.RunsNode.{above_lt}
use Rattle.nodes.specs.Node.{wide, run, slot_size}
use Rattle.gather.specs.Gathered.{Gathered}
use Rattle.gather.proofs.GatherLaws.{member_is}

module _ {size : ℕ} {t : List ℕ} {lo hi depth key : ℕ} {first end : List ℕ} {present : ℕ}
    (g : Gathered size t lo hi depth key first end present) where
  -- A place stands strictly below a marked position exactly when a route of the node stands above it.
  under_is : (l j : ℕ) → l ≤ 5 → j < 2 ^ l → under present l j ≡ member_over wide (slot_size depth) key (run size t lo hi) l j
  unfolding under member_over
  under_is zero j le lt = refl
  under_is (suc l) j le lt =
      ap₂ ◌||◌ (member_is g l (j / 2) (omega arith) (above_lt l j lt)) (under_is l (j / 2) (omega arith) (above_lt l j lt))

  -- So a slot is below a member exactly when a route of the node stands above it.
  pub slot_is : {covered slots : ℕ} → UnderMembers present covered slots → (c : ℕ) → c < 32
      → bit slots c ≡ member_over wide (slot_size depth) key (run size t lo hi) 5 c
  slot_is u c lt = slot-under g.no_more u c lt ∙ under_is 5 c (omega arith) lt
