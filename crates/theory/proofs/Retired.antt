-- Mode 1 writes for a table that mode 2 wrote what it writes for the table it came from: both hold the same addresses. And what mode 2 wrote is a table, no
-- longer than the one that it came from.
use Prim.Native.Nat.{ℕ, zero, suc, ◌≤◌, ◌<◌}
use mathlib.Core.Path.{◌≡◌, refl, sym, ap, ◌∙◌}
use mathlib.Core.Bool.{Bool, true, not, not-not}
use mathlib.Core.List.{List}
use native.Mathlib.Nat.{le_refl}
use native.Mathlib.Omega.{arith}
use lib.ListN.{length}
use borrow.Author.Tests.{eqb-true}
use Rattle.theory.specs.Longest.{IsAbove}
use Rattle.theory.specs.Results.{nearest, is_miss, aggregate_set, result}
use Rattle.theory.specs.Retired.{consistent_set}
use Rattle.theory.specs.Routes.{Route, matches, held, Match, miss, hit, lookup, Table, Member, All}
use Rattle.theory.proofs.Kept.{nearest-found, part-miss}
use Rattle.theory.proofs.LongestMatch.{lookup-member, lookup-longest, lookup-held, matches-bits}
use Rattle.theory.proofs.Maximal.{maximal_alike}
use Rattle.theory.proofs.Parts.{member-part, all_part, table-part, length_parts}

module _ (w : ℕ) (t : List Route) where
  -- Does a member stay?
  abbrev stays : Route → Bool
  stays r = is_miss (nearest w t r)

  -- Over each address that a member matches one stays.
  stays-over : (n : ℕ) (x : ℕ) (r : Route) → r.len < n → Member r t → matches w r x ≡ true
      → (s : Route) × Member s (consistent_set w t) × (matches w s x ≡ true)
  stays-over zero x r lt m q = absurd (omega arith)
  stays-over (suc n) x r lt m q = go (nearest w t r) refl (λ s. stays-over n x s)
    where
      go : (a : Match) → nearest w t r ≡ a
          → ((s : Route) → s.len < n → Member s t → matches w s x ≡ true → (u : Route) × Member u (consistent_set w t) × (matches w u x ≡ true))
          → (s : Route) × Member s (consistent_set w t) × (matches w s x ≡ true)
      go miss e ih = (r, (member-part stays t).1 (m, ap is_miss e), q)
      go (hit k h) e ih =
          let z = nearest-found w t r e in
          let a : IsAbove w t r z.0 = z.1.above in
          let le : z.0.len < r.len = a.shorter in
          ih z.0 (omega arith) a.member (matches-bits w r.len x r.addr z.0 (omega arith) (eqb-true _ _ q) ∙ a.matching)

  same_miss : (x : ℕ) → is_miss (lookup w (consistent_set w t) x) ≡ is_miss (lookup w t x)
  same_miss x = go (lookup w t x) refl
    where
      go : (m : Match) → lookup w t x ≡ m → is_miss (lookup w (consistent_set w t) x) ≡ is_miss m
      go miss e = ap is_miss (part-miss w stays t x e)
      go (hit k h) e =
          let z = lookup-member w t x e in
          let y = stays-over (suc z.0.len) x z.0 (le_refl _) z.1 z.2 in
          ap is_miss (lookup-longest w x y.1 y.2).2

  -- It holds the addresses that its table held.
  same_held : (x : ℕ) → held w (consistent_set w t) x ≡ held w t x
  same_held x =
      sym (not-not (held w (consistent_set w t) x))
      ∙ ap not (sym (lookup-held w (consistent_set w t) x) ∙ same_miss x ∙ lookup-held w t x)
      ∙ not-not (held w t x)

  -- So mode 1 makes the same of both.
  pub retired_same : (choose : List ℕ → ℕ) → result choose w aggregate_set (consistent_set w t) ≡ result choose w aggregate_set t
  unfolding result
  retired_same choose = (maximal_alike w (held w (consistent_set w t)) (held w t)).1 (λ x lt. same_held x)

  -- It is a table,
  pub retired-table : Table w t → Table w (consistent_set w t)
  retired-table table = table-part w stays table

  -- of members of the one that it came from,
  pub retired-each : {P : Route → Type 0} → All P t → All P (consistent_set w t)
  retired-each ps = all_part stays (λ r p e. p) ps

  -- and no longer.
  pub retired-length : length (consistent_set w t) ≤ length t
  retired-length = omega (arith, length_parts stays t)
