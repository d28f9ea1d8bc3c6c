-- `maximal::entries_of` meets its contract: what `keep_of` ensures of each bit, with the positions below a covered one. Assumes nothing.
use Prim.Native.Nat.{suc}
use mathlib.Core.Path.{◌∙◌}
use mathlib.Core.Bool.{and-true}
use native.Mathlib.Omega.{arith}
use Rattle.words.specs.Positions.{position}
use Rattle.words.proofs.BitLaws.{bit-zero}
use Rattle.words.proofs.PositionLaws.{in_word}
use Rattle.maximal.proofs.entries_of.Goals as goal

pub returns-then-above : goal.returns-then-above
returns-then-above c = rw c.if-above.true (record { root = bit-zero _; below = λ l j le lt. bit-zero _ })

pub returns-else-above : goal.returns-else-above
returns-else-above c =
    let k = c.keep_of.ensures in
    let p = c.parent_coverage.ensures in
    rw c.if-above.false (record {
      root = k (position 0 0) (omega arith) ∙ rw (p.root, bit-zero (position 0 0), and-true, and-true);
      below = λ l j le lt.
          k (position (suc l) j) (omega (arith, in_word (suc l) j le lt)) ∙ rw (p.below l j le lt, bit-zero (position (suc l) j), and-true);
    })
