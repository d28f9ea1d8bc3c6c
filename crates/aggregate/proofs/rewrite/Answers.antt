-- `rewrite` is `rewrite_in` with the room made zero afterwards. Assumes nothing.
use Prim.Native.Nat.{ℕ}
use mathlib.Core.Path.{ap, ◌∙◌}
use lib.ListN.{replicate}
use Rattle.aggregate.proofs.rewrite.Goals as goal

pub returns : goal.returns
returns c =
    record {
      inner = c.rewrite_in-answer.ensures;
      zero = c.clear.ensures ∙ ap (λ (n : ℕ). replicate n 0) c.work-1.given;
    }
