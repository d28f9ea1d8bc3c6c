-- The words of work room that each mode needs of a table: 160 for each node and, in modes 4 and 5, one for each hop in the candidate set of each
-- position that holds data, of each node. Level l of the node (n, a) has the positions (n - l, a + j * 2 ^ (n - l)).
use Rattle.std.specs.Prelude.{ℕ, suc, ◌+◌, ◌-◌, ◌*◌, ◌^◌, cond, List, leb, length}
use Rattle.theory.specs.Routes.{Route, Answer, answer, filled}
use Rattle.theory.specs.Results.{Cand, hole, of, sets, start_of, Mode, aggregate_set, aggregate_consistent_map, aggregate_map_drop, aggregate_map_fill}
use Rattle.nodecount.specs.Nodes.{nodes}
use Rattle.nodecount.specs.Walk.{sum_to}
use Rattle.weights.specs.Weights.{weighed}

-- How many hops candidates have: a hole none.
abbrev pub hops_in : Cand → ℕ
hops_in hole = 0
hops_in (of s) = length s

-- The hops of the positions of level l.
abbrev pub level_hops : (ℕ → Answer) → ℕ → ℕ → ℕ → ℕ
level_hops f n a l = sum_to (λ j. hops_in (sets f (n - l) (a + j * 2 ^ (n - l)))) (2 ^ l)

-- The hops of the positions of a node that hold data: those at which a prefix of the table can stand. All but the last `spare` bits of an address are
-- the table's.
abbrev pub node_hops : (ℕ → Answer) → ℕ → ℕ → ℕ → ℕ
node_hops f spare n a = sum_to (λ l. cond (leb (l + spare) n) (level_hops f n a l) 0) 5

-- How many of a node's five levels those are, and how many positions.
abbrev pub levels_holding : ℕ → ℕ → ℕ
levels_holding spare n = cond (leb (4 + spare) n) 5 (suc n - spare)

abbrev pub holding : ℕ → ℕ → ℕ
holding spare n = 2 ^ levels_holding spare n - 1

-- The words of the node of 2 ^ n addresses in which x lies.
abbrev pub node_words : (ℕ → Answer) → ℕ → ℕ → ℕ → ℕ
node_words f spare n x = 160 + node_hops f spare n (start_of n x)

-- The words of the nodes of a table, where address x is answered by f x.
abbrev pub needed : (ℕ → Answer) → ℕ → List Route → ℕ
needed f w t = weighed (node_words f 0) w t

-- What each mode needs of a table of width w.
abbrev pub room_of : ℕ → Mode → List Route → ℕ
room_of w aggregate_set t = 160 * nodes w t
room_of w aggregate_consistent_map t = 160 * nodes w t
room_of w aggregate_map_drop t = needed (answer w t) w t
room_of w (aggregate_map_fill d) t = needed (filled d (answer w t)) w t
