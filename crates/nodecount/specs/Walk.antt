-- The nodes of some routes by a walk down. The node (n, a) has the 2 ^ n addresses from a on, and 32 slots of n - 5 bits each; a slot in which a
-- route lies is a node in its turn. Over the width w of an address.
use Rattle.std.specs.Prelude.{ℕ, zero, suc, ◌+◌, ◌-◌, List, [], ◌∷◌}
use Rattle.theory.specs.Routes.{Route}
use Rattle.positions.specs.Runs.{inside, place_at}

-- The number for a list of routes, where the empty list has none.
abbrev pub or_none : List Route → ℕ → ℕ
or_none [] n = 0
or_none (r ∷ t) n = n

-- The sum of the n numbers f 0, f 1 and so on.
unfoldable pub sum_to : (ℕ → ℕ) → ℕ → ℕ
sum_to f zero = 0
sum_to f (suc n) = sum_to f n + f n

-- The nodes in slot c of the node (m + 5, a) that have a route of t, where `nodes` says how many a node has by its address and the routes in it.
abbrev pub nodes_at : ℕ → (ℕ → List Route → ℕ) → ℕ → ℕ → List Route → ℕ → ℕ
nodes_at w nodes m a t c = or_none (inside w m (place_at m a 5 c) t) (nodes (place_at m a 5 c) (inside w m (place_at m a 5 c) t))

-- Those in its first c slots.
abbrev pub slot_nodes : ℕ → (ℕ → List Route → ℕ) → ℕ → ℕ → List Route → ℕ → ℕ
slot_nodes w nodes m a t c = sum_to (λ i. nodes_at w nodes m a t i) c

-- The nodes from the node (n, a) down that the routes t have, itself included, k nodes deep.
unfoldable pub nodes_in : ℕ → ℕ → ℕ → ℕ → List Route → ℕ
nodes_in w zero n a t = 0
nodes_in w (suc k) n a t = 1 + slot_nodes w (nodes_in w k (n - 5)) (n - 5) a t 32
