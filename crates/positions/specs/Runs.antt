-- The routes of a table at a position and inside it, and the hops that cover the positions of a node.
-- A node (m + 5, a) has five levels of positions, position j of level l standing at (m + 5 - l, a + j * 2 ^ (m + 5 - l)), and 32 slots, its level 5.
use Rattle.std.specs.Prelude.{ℕ, zero, suc, ◌+◌, ◌-◌, ◌*◌, ◌/◌, ◌^◌, ◌≤◌, Bool, false, ◌&&◌, ◌||◌, cond, List, [], ◌∷◌, eqb, leb, ltb}
use Rattle.theory.specs.Routes.{Route, Answer, none, via, Aligned, All, Table}
use Rattle.theory.specs.Results.{part}
use Rattle.theory.specs.Shapes.{Within, routed}

-- Does the route stand at the position: is it the position's own?
abbrev pub is_at : ℕ → ℕ → ℕ → Route → Bool
is_at w n a r = eqb r.len (w - n) && eqb r.addr a

-- Does the route lie in the position?
abbrev pub is_in : ℕ → ℕ → ℕ → Route → Bool
is_in w n a r = leb (w - n) r.len && (leb a r.addr && ltb r.addr (a + 2 ^ n))

-- The routes that lie in the position.
abbrev pub inside : ℕ → ℕ → ℕ → List Route → List Route
inside w n a t = part (is_in w n a) t

-- The routes t are a run of the position (n, a): a table, all of it in the position.
pub record Run (w n a : ℕ) (t : List Route) : Type 0 where
  pub fits : n ≤ w
  pub aligned : Aligned n a
  pub table : Table w t
  pub within : All (Within w n a) t

-- The hop of the first route, if there is one.
abbrev pub head_hop : List Route → Answer
head_hop [] = none
head_hop (r ∷ t) = via r.hop

-- The position's own hop, if a route stands there.
abbrev pub own : ℕ → ℕ → ℕ → List Route → Answer
own w n a t = head_hop (part (is_at w n a) t)

-- The number by which the code says that there is no hop. Hops are below it.
abbrev pub no_hop : ℕ
no_hop = 64

-- What a hop of the code says: below no_hop that hop, else none.
abbrev pub hop_of : ℕ → Answer
hop_of h = cond (ltb h no_hop) (via h) none

-- The first answer, or, where it says nothing, the other.
abbrev pub or_else : Answer → Answer → Answer
or_else none g = g
or_else (via h) g = via h

-- The size and the address of position j of level l in a node (m + k, a) of k levels.
abbrev pub size_of : ℕ → ℕ → ℕ → ℕ
size_of k m l = m + (k - l)

abbrev pub place_of : ℕ → ℕ → ℕ → ℕ → ℕ → ℕ
place_of k m a l j = a + j * 2 ^ size_of k m l

-- The same in a node (m + 5, a); the slots are level 5.
abbrev pub size_at : ℕ → ℕ → ℕ
size_at m l = size_of 5 m l

abbrev pub place_at : ℕ → ℕ → ℕ → ℕ → ℕ
place_at m a l j = place_of 5 m a l j

-- What covers position j of level l, its own route included, where g covers the node from above.
unfoldable pub cover : ℕ → ℕ → ℕ → List Route → Answer → ℕ → ℕ → Answer
cover w m a t g zero j = or_else (own w (size_at m zero) (place_at m a zero j) t) g
cover w m a t g (suc l) j = or_else (own w (size_at m (suc l)) (place_at m a (suc l) j) t) (cover w m a t g l (j / 2))

-- What covers position j of level l from above: the same without its own route.
abbrev pub cover_over : ℕ → ℕ → ℕ → List Route → Answer → ℕ → ℕ → Answer
cover_over w m a t g zero j = g
cover_over w m a t g (suc l) j = cover w m a t g l (j / 2)

-- Does a route of the node stand above position j of level l, its own left out?
unfoldable pub member_over : ℕ → ℕ → ℕ → List Route → ℕ → ℕ → Bool
member_over w m a t zero j = false
member_over w m a t (suc l) j = routed (own w (size_at m l) (place_at m a l (j / 2)) t) || member_over w m a t l (j / 2)
