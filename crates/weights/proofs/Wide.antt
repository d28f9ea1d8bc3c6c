-- At addresses of k more bits, all zero, a table weighs what it does without them, where each node does.
use Prim.Native.Nat.{ℕ, zero, suc, ◌+◌, ◌-◌, ◌*◌, ◌/◌, ◌^◌, ◌≤◌}
use mathlib.Core.Path.{◌≡◌, refl, sym, ap, ap₂, ◌∙◌}
use mathlib.Core.Bool.{Bool, true, false, cond, ◌||◌, ◌&&◌}
use mathlib.Core.List.{List}
use native.Mathlib.Nat.{zero-mul}
use native.Mathlib.Omega.{arith}
use lib.Dec.{leb, eqb}
use borrow.Author.Tests.{leb-true}
use Rattle.theory.specs.Routes.{Route, Valid, All, nil, cons}
use Rattle.positions.specs.Wide.{widen, widened}
use Rattle.positions.proofs.Wide.{unwide, bits-widen}
use Rattle.nodecount.specs.Nodes.{levels, node_at, seen}
use Rattle.weights.specs.Weights.{fresh_by, brought_by, weighed}

module _ (w k : ℕ) where
  -- A widened record has the nodes of the record.
  node_widen : (m x : ℕ) (s : Route) → s.len ≤ w → node_at (w + k) m (x * 2 ^ k) (widen k s) ≡ node_at w m x s
  node_widen m x s le = go (leb m (levels s)) refl
    where
      go : (b : Bool) → leb m (levels s) ≡ b
          → (b && eqb (s.addr * 2 ^ k / 2 ^ ((w + k) - 5 * m)) (x * 2 ^ k / 2 ^ ((w + k) - 5 * m)))
          ≡ (b && eqb (s.addr / 2 ^ (w - 5 * m)) (x / 2 ^ (w - 5 * m)))
      go false e = refl
      go true e =
          let low : 5 * m ≤ w = omega (arith, leb-true m (levels s) e) in
          let at : (y : ℕ) → y * 2 ^ k / 2 ^ ((w + k) - 5 * m) ≡ y / 2 ^ (w - 5 * m) =
          λ y. bits-widen k w (5 * m) (y * 2 ^ k) low ∙ ap (λ (z : ℕ). z / 2 ^ (w - 5 * m)) (unwide k y) in
          ap₂ eqb (at s.addr) (at x)

  seen-widen : (m x : ℕ) {t : List Route} → All (Valid w) t → seen (w + k) m (x * 2 ^ k) (widened k t) ≡ seen w m x t
  seen-widen m x nil = refl
  seen-widen m x (cons {r = r} v vs) = ap₂ ◌||◌ (node_widen m x r v.short) (seen-widen m x vs)

  -- A weight at the wider addresses and one at the table's that agree on each node.
  module _ (weight' weight : ℕ → ℕ → ℕ) (same : (n x : ℕ) → weight' (n + k) (x * 2 ^ k) ≡ weight n x) where
    fresh-widen : {t : List Route} → All (Valid w) t → (x m : ℕ) → 5 * m ≤ w
        → fresh_by weight' (w + k) (widened k t) (x * 2 ^ k) m ≡ fresh_by weight w t x m
    unfolding fresh_by
    fresh-widen vs x zero d = refl
    fresh-widen vs x (suc m) d =
        let low : 5 * m ≤ w = omega arith in
        let size : (w + k) - 5 * suc m ≡ (w - 5 * suc m) + k = omega arith in
        let here : weight' ((w + k) - 5 * suc m) (x * 2 ^ k) ≡ weight (w - 5 * suc m) x = ap (λ (n : ℕ). weight' n (x * 2 ^ k)) size ∙ same (w - 5 * suc m) x in
        ap₂ ◌+◌ (fresh-widen vs x m low) (ap₂ (λ (b : Bool) (n : ℕ). cond b 0 n) (seen-widen (suc m) x vs) here)

    brought-widen : {earlier t : List Route} → All (Valid w) earlier → All (Valid w) t
        → brought_by weight' (w + k) (widened k earlier) (widened k t) ≡ brought_by weight w earlier t
    unfolding brought_by
    brought-widen es nil = refl
    brought-widen es (cons {r = r} v vs) =
        let low : 5 * levels r ≤ w = omega (arith, v.short) in
        ap₂ ◌+◌ (fresh-widen es r.addr (levels r) low) (brought-widen (cons v es) vs)

    -- So a widened table weighs what the table does.
    pub weighed-widen : {t : List Route} → All (Valid w) t → weighed weight' (w + k) (widened k t) ≡ weighed weight w t
    unfolding weighed
    weighed-widen vs = ap₂ ◌+◌ (ap (weight' (w + k)) (sym (zero-mul (2 ^ k))) ∙ same w 0) (brought-widen nil vs)
