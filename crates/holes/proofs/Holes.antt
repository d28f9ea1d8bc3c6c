-- The list of holes over addresses: which addresses its prefixes have, which routes it has, in which order. Over the width. Assumes nothing.
use Prim.Native.Nat.{ℕ, suc, ◌-◌, ◌^◌, ◌<◌}
use mathlib.Core.Path.{◌≡◌, refl, sym, subst, ◌∙◌}
use mathlib.Core.Bool.{Bool, true, false}
use mathlib.Core.List.{List}
use mathlib.Core.Logic.{◌↔◌}
use native.Mathlib.Omega.{arith}
use Rattle.theory.specs.Results.{is_miss, start_of, throughout, Maximal}
use Rattle.theory.specs.Routes.{Route, held, Match, miss, hit, lookup, Valid, All, Table, Member}
use Rattle.theory.proofs.Blocks.{aligned-start, in_start}
use Rattle.theory.proofs.Maximal.{covered-matches, maximal-listed, maximal_holds, maximal-table, maximal-bare}
use Rattle.theory.proofs.Routed.{Bare}
use Rattle.holes.specs.Holes.{is_unrouted, holes_in, holes, NoneRouted, shorter, IsHole}

-- An address has no route exactly where its longest match is a miss.
is_miss_lem : (m : Match) → (is_miss m ≡ true) ↔ (m ≡ miss)
is_miss_lem miss = (λ e. refl, λ e. refl)
is_miss_lem (hit k h) = (
  λ e. let z : ◌≡◌ {A = ℕ} 0 1 = cc in absurd (omega arith),
  λ e. let z : ◌≡◌ {A = ℕ} 0 1 = cc in absurd (omega arith),
)

module _ (w : ℕ) (t : List Route) where
  -- An address lies in a listed prefix exactly when lookup finds no route for it.
  pub holes_hold : (x : ℕ) → x < 2 ^ w → (held w (holes w t) x ≡ true) ↔ (lookup w t x ≡ miss)
  unfolding holes_in
  holes_hold x lt =
      let e = maximal_holds w (is_unrouted w t) x lt in
      (λ h. (is_miss_lem (lookup w t x)).0 (sym e ∙ h), λ h. e ∙ (is_miss_lem (lookup w t x)).1 h)

  -- The list is a table: well-formed prefixes, each once, in order.
  pub holes-table : Table w (holes w t)
  unfolding holes_in
  holes-table = maximal-table w (is_unrouted w t)

  -- Their hops are 0.
  pub holes-bare : All Bare (holes w t)
  unfolding holes_in
  holes-bare = maximal-bare w (is_unrouted w t)

  -- ---- The listed prefixes are exactly the holes.

  -- A prefix none of whose addresses has a route, by its position.
  none_routed : {r : Route} → Valid w r → (throughout (is_unrouted w t) (w - r.len) r.addr ≡ true) ↔ NoneRouted w t r
  none_routed {r} v =
      let c = covered-matches w (is_unrouted w t) v in (
        λ e x m. (is_miss_lem (lookup w t x)).0 (c.0 e x m),
        λ h. c.1 (λ x m. (is_miss_lem (lookup w t x)).1 (h x m)),
      )

  -- The one-bit-shorter prefix of a well-formed one is well formed.
  shorter-valid : {r : Route} → Valid w r → 0 < r.len → Valid w (shorter w r)
  shorter-valid {r} v pos =
      let e : w - (r.len - 1) ≡ suc (w - r.len) = omega (arith, v.short) in
      record {
        short = omega (arith, v.short);
        clean = rw e (aligned-start (suc (w - r.len)) r.addr);
        small = omega (arith, in_start (suc (w - r.len)) r.addr, v.small);
      }

  -- Its position is the next larger one.
  shorter-covered : {r : Route} → Valid w r → 0 < r.len
      → (throughout (is_unrouted w t) (suc (w - r.len)) (start_of (suc (w - r.len)) r.addr) ≡ true) ↔ NoneRouted w t (shorter w r)
  shorter-covered {r} v pos =
      let e : w - (r.len - 1) ≡ suc (w - r.len) = omega (arith, v.short) in
      subst (λ (n : ℕ). (throughout (is_unrouted w t) n (start_of (suc (w - r.len)) r.addr) ≡ true) ↔ NoneRouted w t (shorter w r)) e
      (none_routed (shorter-valid v pos))

  not_both : {b : Bool} → b ≡ true → b ≡ false → ⊥
  not_both e f = let z : ◌≡◌ {A = ℕ} 0 1 = cc in omega arith

  is_false : (b : Bool) → (b ≡ true → ⊥) → b ≡ false
  is_false true n = absurd (n refl)
  is_false false n = refl

  maximal→hole : {r : Route} → Maximal w (is_unrouted w t) r → IsHole w t r
  maximal→hole {r} m =
      record {
        valid = m.valid;
        bare = m.bare;
        unrouted = (none_routed m.valid).0 m.covered;
        widest = λ pos h. not_both ((shorter-covered m.valid pos).1 h) (m.widest pos);
      }

  hole→maximal : {r : Route} → IsHole w t r → Maximal w (is_unrouted w t) r
  hole→maximal {r} h =
      record {
        valid = h.valid;
        bare = h.bare;
        covered = (none_routed h.valid).1 h.unrouted;
        widest = λ pos. is_false _ (λ e. h.widest pos ((shorter-covered h.valid pos).0 e));
      }

  pub holes-listed : (r : Route) → Member r (holes w t) ↔ IsHole w t r
  unfolding holes_in
  holes-listed r =
      let m = maximal-listed w (is_unrouted w t) r in
      (λ l. maximal→hole (m.0 l), λ h. m.1 (hole→maximal h))
