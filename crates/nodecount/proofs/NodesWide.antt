-- The nodes of a table at addresses of k more bits, all zero, are the table's: spare bits add none.
use Prim.Native.Nat.{ℕ, zero, suc, ◌+◌, ◌-◌, ◌*◌, ◌/◌, ◌^◌, ◌≤◌}
use mathlib.Core.Path.{◌≡◌, refl, ap, ap₂, ◌∙◌}
use mathlib.Core.Bool.{Bool, true, false, cond, ◌||◌, ◌&&◌}
use mathlib.Core.List.{List}
use native.Mathlib.Omega.{arith}
use lib.Dec.{leb, eqb}
use borrow.Author.Tests.{leb-true}
use Rattle.theory.specs.Routes.{Route, Valid, All, nil, cons}
use Rattle.positions.specs.Wide.{widen, widened}
use Rattle.positions.proofs.Wide.{unwide, bits-widen}
use Rattle.nodecount.specs.Nodes.{levels, node_at, seen, fresh, brought, nodes}

module _ (w k : ℕ) where
  -- A widened record has the nodes of the record.
  node_widen : (m x : ℕ) (s : Route) → s.len ≤ w → node_at (w + k) m (x * 2 ^ k) (widen k s) ≡ node_at w m x s
  node_widen m x s le = go (leb m (levels s)) refl
    where
      go : (b : Bool) → leb m (levels s) ≡ b
          → (b && eqb (s.addr * 2 ^ k / 2 ^ ((w + k) - 5 * m)) (x * 2 ^ k / 2 ^ ((w + k) - 5 * m)))
          ≡ (b && eqb (s.addr / 2 ^ (w - 5 * m)) (x / 2 ^ (w - 5 * m)))
      go false e = refl
      go true e =
          let low : 5 * m ≤ w = omega (arith, leb-true m (levels s) e) in
          let at : (y : ℕ) → y * 2 ^ k / 2 ^ ((w + k) - 5 * m) ≡ y / 2 ^ (w - 5 * m) =
          λ y. bits-widen k w (5 * m) (y * 2 ^ k) low ∙ ap (λ (z : ℕ). z / 2 ^ (w - 5 * m)) (unwide k y) in
          ap₂ eqb (at s.addr) (at x)

  seen-widen : (m x : ℕ) {t : List Route} → All (Valid w) t → seen (w + k) m (x * 2 ^ k) (widened k t) ≡ seen w m x t
  seen-widen m x nil = refl
  seen-widen m x (cons {r = r} v vs) = ap₂ ◌||◌ (node_widen m x r v.short) (seen-widen m x vs)

  fresh-widen : {t : List Route} → All (Valid w) t → (x m : ℕ) → fresh (w + k) (widened k t) (x * 2 ^ k) m ≡ fresh w t x m
  unfolding fresh
  fresh-widen vs x zero = refl
  fresh-widen vs x (suc m) = ap₂ (λ (n : ℕ) (b : Bool). n + cond b 0 1) (fresh-widen vs x m) (seen-widen (suc m) x vs)

  brought-widen : {earlier t : List Route} → All (Valid w) earlier → All (Valid w) t
      → brought (w + k) (widened k earlier) (widened k t) ≡ brought w earlier t
  unfolding brought
  brought-widen es nil = refl
  brought-widen es (cons {r = r} v vs) = ap₂ ◌+◌ (fresh-widen es r.addr (levels r)) (brought-widen (cons v es) vs)

  -- So a widened table has as many as the table.
  pub nodes-widen : {t : List Route} → All (Valid w) t → nodes (w + k) (widened k t) ≡ nodes w t
  unfolding nodes
  nodes-widen vs = ap (λ (n : ℕ). 1 + n) (brought-widen nil vs)
