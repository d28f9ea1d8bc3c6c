-- The one-pass count over a table's bytes: what each depth of a record and one more record add. Over the width w and the size of a record.
use Prim.Native.Nat.{ℕ, zero, suc, ◌+◌, ◌-◌, ◌/◌, ◌≤◌, ◌<◌}
use mathlib.Core.Path.{◌≡◌, refl, sym, ap, ◌∙◌}
use mathlib.Core.Bool.{Bool, true, false, cond}
use mathlib.Core.List.{List, [], ◌∷◌}
use native.Mathlib.Omega.{arith}
use Rattle.theory.specs.Routes.{Route, Valid, All, Table}
use Rattle.nodecount.specs.Nodes.{levels, node_at, seen, fresh, nodes, bare, new_nodes}
use Rattle.records.specs.Sized.{route_in, records_in, routes_in}
use Rattle.nodecount.proofs.NodeCount.{root, passed, node-above, nodes_pass}
use Rattle.records.proofs.SizedReading.{rest_in, in_rest_end, in_rest_all, in_rest_next, in_all_next}

-- ---- The depths of a record, from the deepest up.
-- Where x lies in a node of p, nothing is new down to that depth.
pub fresh_shared : (w : ℕ) (p : Route) (x m : ℕ) → node_at w m x p ≡ true → fresh w (p ∷ []) x m ≡ 0
unfolding fresh
fresh_shared w p x zero e = refl
fresh_shared w p x (suc m) e = rw e (omega (arith, fresh_shared w p x m (node-above w m x p e)))

-- One depth more, at which p has no such node.
pub fresh_new : (w : ℕ) (p : Route) (x m : ℕ) → 0 < m → node_at w m x p ≡ false → fresh w (p ∷ []) x m ≡ fresh w (p ∷ []) x (m - 1) + 1
unfolding fresh
fresh_new w p x zero lt e = absurd (omega arith)
fresh_new w p x (suc m) lt e = let k : suc m - 1 ≡ m = omega arith in rw (e, k)

-- At each depth one at the most is new.
pub fresh-small : (w : ℕ) (earlier : List Route) (x m : ℕ) → fresh w earlier x m ≤ m
unfolding fresh
fresh-small w earlier x zero = omega arith
fresh-small w earlier x (suc m) = go (seen w (suc m) x earlier) (fresh-small w earlier x m)
  where
    go : (b : Bool) → fresh w earlier x m ≤ m → fresh w earlier x m + cond b 0 1 ≤ suc m
    go true ih = omega arith
    go false ih = omega arith

-- ---- One more record of a table.
-- The hop of the record before is of no account.
fresh-bare : (w : ℕ) (p : Route) (x m : ℕ) → fresh w (p ∷ []) x m ≡ fresh w (bare p.addr p.len ∷ []) x m
unfolding fresh
fresh-bare w p x zero = refl
fresh-bare w p x (suc m) = ap (λ (n : ℕ). n + cond (seen w (suc m) x (p ∷ [])) 0 1) (fresh-bare w p x m)

pub passed_bare : (w : ℕ) (p : Route) (t : List Route) → passed w p t ≡ passed w (bare p.addr p.len) t
unfolding passed
passed_bare w p [] = refl
passed_bare w p (r ∷ t) = ap (λ (n : ℕ). n + passed w r t) (fresh-bare w p r.addr (levels r))

module _ (size w : ℕ) (t : List ℕ) where
  -- Before the first record, and after the last.
  pub pass_start : Table w (routes_in size t) → (1 + passed w root (rest_in size t 0) ≡ nodes w (routes_in size t)) × All (Valid w) (rest_in size t 0)
  pass_start v = rw (in_rest_all size t 0 refl) (sym (nodes_pass w v), v.valid)

  pub pass_end : (p : Route) (i : ℕ) → i ≡ records_in size t → passed w p (rest_in size t i) ≡ 0
  unfolding passed
  pass_end p i e = rw (in_rest_end size t i e)

  module _ (i : ℕ) (lt : i < records_in size t) where
    -- What the records from record i on bring is what record i brings and what those after it bring.
    pub pass_next : (p : Route) (l count new total : ℕ) → l ≡ (route_in size t i).len → new ≡ new_nodes w p (bare (route_in size t i).addr l)
        → count + passed w p (rest_in size t i) ≡ total → count + new + passed w (bare (route_in size t i).addr l) (rest_in size t (i + 1)) ≡ total
    unfolding passed
    pass_next p l count new total el en e =
        let r : Route = route_in size t i in
        let h : count + (new_nodes w p r + passed w r (rest_in size t (i + 1))) ≡ total =
        ap (λ (s : List Route). count + passed w p s) (sym (in_rest_next size t i lt)) ∙ e in
        let f : new ≡ new_nodes w p r = en ∙ ap (λ (k : ℕ). new_nodes w p (bare r.addr k)) el in
        let g : passed w (bare r.addr l) (rest_in size t (i + 1)) ≡ passed w r (rest_in size t (i + 1)) =
        ap (λ (k : ℕ). passed w (bare r.addr k) (rest_in size t (i + 1))) el ∙ sym (passed_bare w r (rest_in size t (i + 1))) in
        omega arith

    -- Record i is valid: it brings a node at each of w / 5 depths at the most.
    pub len-small : (l : ℕ) → l ≡ (route_in size t i).len → All (Valid w) (rest_in size t i) → l ≤ w
    len-small l e v = omega (arith, (in_all_next size t i lt v).0.short)

    pub new_small : (p : Route) (a l new : ℕ) → l ≡ (route_in size t i).len → new ≡ new_nodes w p (bare a l) → All (Valid w) (rest_in size t i) → new ≤ w / 5
    new_small p a l new el en v = omega (arith, fresh-small w (p ∷ []) a (l / 5), len-small l el v)
