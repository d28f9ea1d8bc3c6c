-- Steps that can be done in turn, with a property of each table on the way: said along the list, and by the number of steps done.
use Prim.Native.Nat.{ℕ, zero, suc, ◌^◌, ◌≤◌, ◌<◌}
use mathlib.Core.Path.{◌≡◌}
use mathlib.Core.Bool.{true}
use mathlib.Core.List.{List, [], ◌∷◌, ◌++◌}
use mathlib.Core.Logic.{◌↔◌}
use lib.ListN.{length}
use Rattle.theory.specs.Routes.{Route}
use Rattle.steps.specs.Steps.{Step, can, apply, after, Possible, OldOrNew, Hitless}

-- The steps lead from t to u, and P holds of each table on the way, t and u included.
abbrev pub Leads : (List Route → Type 0) → List Step → List Route → List Route → Type 0
Leads P [] t u = P t × (t ≡ u)
Leads P (s ∷ ss) t u = P t × (can s t ≡ true) × Leads P ss (apply s t) u

pub leads_append : (P : List Route → Type 0) (ss rs : List Step) (t u v : List Route) → Leads P ss t u → Leads P rs u v → Leads P (ss ++ rs) t v
leads_append P [] rs t u v z y = rw z.1 y
leads_append P (s ∷ ss) rs t u v z y = (z.0, z.1, leads_append P ss rs (apply s t) u v z.2 y)

-- The same by the number of steps done.
abbrev Runs : (List Route → Type 0) → List Step → List Route → List Route → Type 0
Runs P ss t u = Possible ss t × ((k : ℕ) → P (after k ss t)) × (after (length ss) ss t ≡ u)

leads_runs : (P : List Route → Type 0) (ss : List Step) (t u : List Route) → Leads P ss t u → Runs P ss t u
leads_runs P [] t u z = (tt, at, z.1)
  where
    at : (k : ℕ) → P (after k [] t)
    at zero = z.0
    at (suc k) = z.0
leads_runs P (s ∷ ss) t u z =
    let y = leads_runs P ss (apply s t) u z.2 in
    ((z.1, y.0), at y.1, y.2)
  where
    at : ((k : ℕ) → P (after k ss (apply s t))) → (k : ℕ) → P (after k (s ∷ ss) t)
    at ih zero = z.0
    at ih (suc k) = ih k

runs_leads : (P : List Route → Type 0) (ss : List Step) (t u : List Route) → Runs P ss t u → Leads P ss t u
runs_leads P [] t u z = (z.1 zero, z.2)
runs_leads P (s ∷ ss) t u z = (z.1 zero, z.0.0, runs_leads P ss (apply s t) u (z.0.1, λ k. z.1 (suc k), z.2))

-- A table on the way: not too long, and with an old or a new answer at each address.
pub record Fine (w cap : ℕ) (old new t : List Route) : Type 0 where
  pub small : length t ≤ cap
  pub answered : (x : ℕ) → x < 2 ^ w → OldOrNew w old new t x

pub leads_hitless : (w cap : ℕ) (old new : List Route) (ss : List Step) → Leads (Fine w cap old new) ss old new ↔ Hitless w cap old new ss
leads_hitless w cap old new ss = (
  λ z. let y = leads_runs (Fine w cap old new) ss old new z in
      record { possible = y.0; small = λ k. (y.1 k).small; answered = λ k. (y.1 k).answered; arrives = y.2 },
  λ h. runs_leads (Fine w cap old new) ss old new
      (h.possible, λ k. record { small = h.small k; answered = h.answered k }, h.arrives),
)
