-- The theorems of the four modes, over every width and every lawful choice of a hop: each result keeps what it must, is a table, has its
-- hops from the table, and is given back when it is rewritten again; and demand 3, when two tables have the same result.
use Prim.Native.Nat.{ℕ, ◌^◌, ◌<◌}
use mathlib.Core.Path.{◌≡◌, refl, ◌∙◌}
use mathlib.Core.List.{List}
use mathlib.Core.Logic.{◌↔◌, ◌⊎◌, inl, inr}
use native.Mathlib.Omega.{arith}
use Rattle.theory.specs.Routes.{Route, Table, All, Match, miss, hit, Answer, none, via, held, answer, lookup, under, or_default, filled, Alike}
use Rattle.theory.specs.Results.{Mode, aggregate_set, aggregate_consistent_map, aggregate_map_drop, aggregate_map_fill, result, Chooses}
use Rattle.theory.specs.Demands.{Keeps, HopIn, HopFrom}
use Rattle.theory.proofs.Lists.{all_map, member_all}
use Rattle.theory.proofs.LongestMatch.{lookup-member}
use Rattle.theory.proofs.Maximal.{maximal_holds, maximal_alike, maximal_again, maximal-table, maximal-bare}
use Rattle.theory.proofs.Kept.{consistent_map_answers, consistent_map_again, consistent_map_table, consistent_map_members}
use Rattle.theory.proofs.Preserve.{answers}
use Rattle.theory.proofs.Order.{hops, whole-valid, whole_ascending}
use Rattle.theory.proofs.Repeat.{alike, again, again_filled}

-- A hop that a table answers is a member's.
answer-hop : (w x h : ℕ) (t : List Route) → answer w t x ≡ via h → HopIn t h
answer-hop w x h t e = go (lookup w t x) refl e
  where
    go : (m : Match) → lookup w t x ≡ m → under none m ≡ via h → HopIn t h
    go miss q p = let z : ◌≡◌ {A = ℕ} 0 1 = cc in absurd (omega arith)
    go (hit k i) q p =
        let f = lookup-member w t x q in
        let same : i ≡ h = cc in
        (f.0, (f.1, f.4 ∙ same))

-- The same of a filled table: or it is the default.
filled-hop : (w x d h : ℕ) (t : List Route) → filled d (answer w t) x ≡ via h → (h ≡ d) ⊎ HopIn t h
filled-hop w x d h t e = go (answer w t x) refl e
  where
    go : (v : Answer) → answer w t x ≡ v → or_default d v ≡ via h → (h ≡ d) ⊎ HopIn t h
    go none q p = inl (cc)
    go (via k) q p = let same : k ≡ h = cc in inr (answer-hop w x h t (q ∙ p))

module _ (choose : List ℕ → ℕ) (law : Chooses choose) (w : ℕ) where
  -- Each result says of every address what it must.
  pub result-keeps : (mode : Mode) {t : List Route} → Table w t → (x : ℕ) → x < 2 ^ w → Keeps w mode t (result choose w mode t) x
  unfolding result
  result-keeps aggregate_set {t} ok x lt = maximal_holds w (held w t) x lt
  result-keeps aggregate_consistent_map {t} ok x lt = unfold result in consistent_map_answers choose w ok x
  result-keeps aggregate_map_drop {t} ok x lt = answers choose w law (answer w t) x lt
  result-keeps (aggregate_map_fill d) {t} ok x lt = answers choose w law (filled d (answer w t)) x lt

  -- Each result is a table.
  pub result-table : (mode : Mode) {t : List Route} → Table w t → Table w (result choose w mode t)
  unfolding result
  result-table aggregate_set {t} ok = maximal-table w (held w t)
  result-table aggregate_consistent_map ok = consistent_map_table choose w ok
  result-table aggregate_map_drop {t} ok =
      record { valid = whole-valid choose w (answer w t); order = whole_ascending choose w (answer w t) }
  result-table (aggregate_map_fill d) {t} ok =
      record { valid = whole-valid choose w (filled d (answer w t)); order = whole_ascending choose w (filled d (answer w t)) }

  -- Each hop of a result comes from where it may.
  pub result-hops : (mode : Mode) (t : List Route) → All (λ r. HopFrom mode t r.hop) (result choose w mode t)
  unfolding result
  result-hops aggregate_set t = maximal-bare w (held w t)
  result-hops aggregate_consistent_map t = member_all _ (λ r m. (r, (consistent_map_members choose w t r m, refl)))
  result-hops aggregate_map_drop t = all_map (λ r z. answer-hop w z.0 r.hop t z.1.1) (hops choose w law (answer w t) w 0 none)
  result-hops (aggregate_map_fill d) t =
      all_map (λ r z. filled-hop w z.0 d r.hop t z.1.1) (hops choose w law (filled d (answer w t)) w 0 none)

  -- A result, rewritten again in its mode, is given back.
  pub result_again : (mode : Mode) {t : List Route} → Table w t → result choose w mode (result choose w mode t) ≡ result choose w mode t
  unfolding result
  result_again aggregate_set {t} ok = maximal_again w (held w t)
  result_again aggregate_consistent_map ok = consistent_map_again choose w ok
  result_again aggregate_map_drop {t} ok = again choose w law (answer w t)
  result_again (aggregate_map_fill d) {t} ok = again_filled choose w law d (answer w t)

  -- Demand 3, mode 4: two tables have the same result exactly when they answer every address alike, no route included.
  pub drop_alike : (t s : List Route) → (result choose w aggregate_map_drop t ≡ result choose w aggregate_map_drop s) ↔ Alike w (answer w t) (answer w s)
  unfolding result
  drop_alike t s = alike choose w law (answer w t) (answer w s)

  -- Demand 3, mode 5: exactly when they do once unrouted addresses have the default.
  pub fill_alike : (d : ℕ) (t s : List Route)
      → (result choose w (aggregate_map_fill d) t ≡ result choose w (aggregate_map_fill d) s) ↔ Alike w (filled d (answer w t)) (filled d (answer w s))
  unfolding result
  fill_alike d t s = alike choose w law (filled d (answer w t)) (filled d (answer w s))

  -- The same for mode 1: exactly when they hold the same addresses.
  pub set_alike : (t s : List Route)
      → (result choose w aggregate_set t ≡ result choose w aggregate_set s) ↔ ((x : ℕ) → x < 2 ^ w → held w t x ≡ held w s x)
  unfolding result
  set_alike t s = maximal_alike w (held w t) (held w s)
