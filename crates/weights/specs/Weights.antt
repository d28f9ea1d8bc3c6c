-- What the nodes of a table weigh together, each counted once where records share it. `weight n x` is the weight of the node of 2 ^ n addresses in
-- which the address x lies; with weight 1 it is the number of nodes. Over the width w of an address.
use Rattle.std.specs.Prelude.{ℕ, zero, suc, ◌+◌, ◌-◌, ◌*◌, cond, List, [], ◌∷◌}
use Rattle.theory.specs.Routes.{Route}
use Rattle.nodecount.specs.Nodes.{levels, seen}
use Rattle.nodecount.specs.Walk.{slot_nodes}

module _ (weight : ℕ → ℕ → ℕ) (w : ℕ) where
  -- What the nodes at depths 5, 10, up to 5 * m weigh in which the address x lies and no earlier record has one.
  unfoldable pub fresh_by : List Route → ℕ → ℕ → ℕ
  fresh_by earlier x zero = 0
  fresh_by earlier x (suc m) = fresh_by earlier x m + cond (seen w (suc m) x earlier) 0 (weight (w - 5 * suc m) x)

  -- What the nodes below the root weigh that the records of a list bring, in turn, beside those of the earlier records.
  unfoldable pub brought_by : List Route → List Route → ℕ
  brought_by earlier [] = 0
  brought_by earlier (r ∷ t) = fresh_by earlier r.addr (levels r) + brought_by (r ∷ earlier) t

  -- What the nodes of a list of routes weigh, the root included.
  unfoldable pub weighed : List Route → ℕ
  weighed t = weight w 0 + brought_by [] t

  -- By a walk down: what the node (n, a) weighs and those below it that the routes t have, k nodes deep.
  unfoldable pub weighed_in : ℕ → ℕ → ℕ → List Route → ℕ
  weighed_in zero n a t = 0
  weighed_in (suc k) n a t = weight n a + slot_nodes w (weighed_in k (n - 5)) (n - 5) a t 32
