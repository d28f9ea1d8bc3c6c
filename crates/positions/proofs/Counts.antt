-- How many entries a walk puts out: of a run no more than it has routes, and one more in modes 4 and 5, where what covers the run from above or
-- fills can add one. So a count is small whatever the width. By the first slots of a node a walk puts out no more than by all.
use Prim.Native.Nat.{ℕ, zero, suc, ◌+◌, ◌-◌, ◌^◌, ◌≤◌, ◌<◌}
use mathlib.Core.Path.{◌≡◌, refl, ap}
use mathlib.Core.Bool.{Bool, true, false, cond}
use mathlib.Core.List.{List, [], ◌∷◌}
use mathlib.Core.Logic.{◌⊎◌, inl, inr}
use native.Mathlib.Nat.{eq-or-lt_of_le}
use native.Mathlib.Omega.{arith}
use lib.ListN.{length, length-append}
use Rattle.theory.specs.Routes.{Route, Match, miss, hit, lookup, Answer, under, All, nil, cons, held}
use Rattle.theory.specs.Results.{sets, Chooses, ortc, part, unhopped}
use Rattle.theory.specs.Shapes.{Within}
use Rattle.theory.proofs.Count.{missing_most}
use Rattle.theory.proofs.Least.{least}
use Rattle.theory.proofs.Routed.{length-unhopped}
use Rattle.theory.proofs.Shortest.{answer-unhopped, fewest}
use Rattle.positions.specs.Runs.{is_at, Run, head_hop, or_else}
use Rattle.positions.specs.Walk.{walk, slots_of}
use Rattle.positions.specs.Walks.{maximal_out, maximal_next, is_same, entry_unless, consistent_map_out, consistent_map_next}
use Rattle.positions.proofs.Modes.{maximal-covered, maximal-walk}
use Rattle.positions.proofs.Runs.{inside_all, inside-walk}

-- ---- Any walk.

-- A walk that puts out no more than another at each position puts out no more in all.
walk_fewer : {S : Type 0} (out other : ℕ → ℕ → S → List Route) (next : ℕ → ℕ → S → S)
    → ((k b : ℕ) (u : S) → length (out k b u) ≤ length (other k b u)) → (n a : ℕ) (s : S)
    → length (walk out next n a s) ≤ length (walk other next n a s)
unfolding walk
walk_fewer out other next fewer zero a s = fewer zero a s
walk_fewer out other next fewer (suc n) a s =
    let u = next (suc n) a s in
    simp length-append
    (omega (arith, fewer (suc n) a s, walk_fewer out other next fewer n a u, walk_fewer out other next fewer n (a + 2 ^ n) u))

-- The first slots of a node put out no more than more of them.
pub slots_fewer : (k : ℕ) (entry : ℕ → ℕ → List Route) (slot : ℕ → List Route) (c d : ℕ) → c ≤ d
    → length (slots_of k entry slot c) ≤ length (slots_of k entry slot d)
unfolding slots_of
slots_fewer k entry slot c zero le = let z : c ≡ 0 = omega arith in rw z (omega arith)
slots_fewer k entry slot c (suc d) le = go (eq-or-lt_of_le le) (slots_fewer k entry slot c d)
  where
    go : (c ≡ suc d) ⊎ (c < suc d) → (c ≤ d → length (slots_of k entry slot c) ≤ length (slots_of k entry slot d))
        → length (slots_of k entry slot c) ≤ length (slots_of k entry slot (suc d))
    go (inl e) up = rw e (omega arith)
    go (inr lt) up = simp length-append (omega (arith, up (omega arith)))

-- ---- Modes 4 and 5.

-- What covers a run, or else fills, answers where the run does not.
under_else : (g d : Answer) (m : Match) → under (or_else g d) m ≡ or_else (under g m) d
under_else g d miss = refl
under_else g d (hit k h) = refl

-- A run that g covers, and d fills, has a rewrite of one entry more than its routes at most.
pub ortc-few : (choose : List ℕ → ℕ) → Chooses choose → {w n a : ℕ} {t : List Route} → Run w n a t → (g d above : Answer)
    → length (ortc choose w (λ x. or_else (under g (lookup w t x)) d) n a above) ≤ length t + 1
ortc-few choose law {w} {n} {a} {t} run g d above =
    let f : ℕ → Answer = λ x. or_else (under g (lookup w t x)) d in
    omega (
      arith,
      least choose law w f n a (or_else g d) above t run.fits run.aligned run.within (λ x i. under_else g d (lookup w t x)),
      missing_most above (sets f n a),
    )

-- ---- Mode 1.

-- Without their hops the routes of a run lie in it too.
within-unhopped : {w n a : ℕ} {t : List Route} → All (Within w n a) t → All (Within w n a) (unhopped t)
within-unhopped nil = nil
within-unhopped (cons v vs) =
    cons (record { low = v.low; high = v.high; deep = v.deep; short = v.short; aligned = v.aligned }) (within-unhopped vs)

-- The maximal prefixes of a run are no more than its members.
pub maximal-few : {w n a : ℕ} {t : List Route} → Run w n a t → (s : Bool)
    → length (walk (maximal_out w (held w t)) (maximal_next (held w t)) n a s) ≤ length t
maximal-few {w} {n} {a} {t} run true = omega (arith, ap length (maximal-covered w (held w t) n a))
maximal-few {w} {n} {a} {t} run false =
    omega (
      arith,
      ap length (maximal-walk w (held w t) n a),
      fewest w (held w t) n a run.fits run.aligned (within-unhopped run.within) (λ x i. answer-unhopped w x t),
      length-unhopped t,
    )

-- ---- Mode 3.

-- A position puts out no more than the routes that stand there.
out_few : (w n a : ℕ) (s : Answer) (t : List Route) → length (consistent_map_out w t n a s) ≤ length (part (is_at w n a) t)
out_few w n a s t = go (part (is_at w n a) t)
  where
    one : (h : ℕ) (b : Bool) → length {A = Route} (cond b [] (record { addr = a; len = w - n; hop = h } ∷ [])) ≤ 1
    one h true = omega arith
    one h false = omega arith

    go : (u : List Route) → length (entry_unless w n a (head_hop u) s) ≤ length u
    go [] = omega arith
    go (r ∷ u) = omega (arith, one r.hop (is_same r.hop s))

-- So the routes of a run that are kept are no more than its routes.
pub kept-few : {w n a : ℕ} {t : List Route} → Run w n a t → (s : Answer)
    → length (walk (consistent_map_out w t) (consistent_map_next w t) n a s) ≤ length t
kept-few {w} {n} {a} {t} run s =
    omega (
      arith,
      walk_fewer (consistent_map_out w t) (λ k b u. part (is_at w k b) t) (consistent_map_next w t) (λ k b u. out_few w k b u t) n a s,
      ap length (inside-walk (consistent_map_next w t) w n a run.fits run.aligned run.table s),
      ap length (inside_all w n a run.within),
    )
