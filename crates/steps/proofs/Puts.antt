-- The routes that steps put; what holds of them and of the old table's holds on the way; and when a table is another. Assumes nothing.
use Prim.Native.Nat.{ℕ, zero, suc, ◌<◌}
use mathlib.Core.Path.{◌≡◌, refl, sym, ap, ap₂, ◌∙◌}
use mathlib.Core.Bool.{Bool, true, false, cond, not, false≢true}
use mathlib.Core.List.{List, [], ◌∷◌}
use native.Mathlib.Omega.{arith}
use lib.ListN.{length}
use Rattle.theory.specs.Routes.{Route, Answer, none, via, Valid, All, nil, cons, Ascending, Member, head, later}
use Rattle.theory.specs.Shapes.{routed}
use Rattle.theory.proofs.Lists.{all_member}
use Rattle.theory.proofs.Parts.{all_part}
use Rattle.steps.specs.Steps.{Step, putting, taking, same, entry, present, after, Sounds}
use Rattle.steps.proofs.Entries.{same_true, ascending_distinct, entry-member, fits, same_entries}
use Rattle.steps.proofs.Tables.{all_put}
use Rattle.steps.proofs.Turns.{nth}

-- A table of as many routes as t has, all of them t's, is t.
pub same_table : {s t : List Route} → Ascending s → Ascending t → length t ≡ length s
    → ((r : Route) → Member r s → entry t r.addr r.len ≡ via r.hop) → t ≡ s
same_table {s} {t} o p e k = same_entries p o (λ a l. go a l (entry s a l) refl (entry t a l) refl)
  where
    go : (a l : ℕ) (v : Answer) → entry s a l ≡ v → (u : Answer) → entry t a l ≡ u → u ≡ v
    go a l (via h) q u d =
        let z = entry-member s a l q in
        sym d ∙ ap₂ (entry t) (sym z.2) (sym z.3) ∙ k z.0 z.1 ∙ ap via z.4
    go a l none q none d = refl
    go a l none q (via h) d =
        absurd (omega (arith, fits (record { addr = a; len = l; hop = h } ∷ s) t (q, ascending_distinct o) (λ b m c. pick b m (same a l b m) refl c)))
      where
        pick : (b m : ℕ) (c : Bool) → same a l b m ≡ c → routed (cond c (via h) (entry s b m)) ≡ true → present t b m ≡ true
        pick b m true f g = let z = same_true a l b m f in ap routed (ap₂ (entry t) (sym z.0) (sym z.1) ∙ d)
        pick b m false f g = found (entry s b m) refl g
          where
            found : (v : Answer) → entry s b m ≡ v → routed v ≡ true → present t b m ≡ true
            found none f g = absurd (false≢true g)
            found (via i) f g =
                let z = entry-member s b m f in
                ap routed (ap₂ (entry t) (sym z.2) (sym z.3) ∙ k z.0 z.1)

-- The routes that the steps put.
abbrev pub routes_put : List Step → List Route
routes_put [] = []
routes_put (putting r ∷ ss) = r ∷ routes_put ss
routes_put (taking a l ∷ ss) = routes_put ss

-- What a step puts is among what the steps put.
pub put-among : (ss : List Step) (j : ℕ) (r : Route) → j < length ss → nth ss j ≡ putting r → Member r (routes_put ss)
put-among [] j r lt e = absurd (omega arith)
put-among (putting s ∷ ss) zero r lt e = let q : s ≡ r = cc in rw q head
put-among (putting s ∷ ss) (suc j) r lt e = later (put-among ss j r (omega arith) e)
put-among (taking a l ∷ ss) zero r lt e = let z : ◌≡◌ {A = ℕ} 0 1 = cc in absurd (omega arith)
put-among (taking a l ∷ ss) (suc j) r lt e = put-among ss j r (omega arith) e

pub all_puts : (P : Route → Type 0) (ss : List Step) → ((j : ℕ) (r : Route) → j < length ss → nth ss j ≡ putting r → P r) → All P (routes_put ss)
all_puts P [] f = nil
all_puts P (putting r ∷ ss) f = cons (f zero r (omega arith) refl) (all_puts P ss (λ j q lt e. f (suc j) q (omega arith) e))
all_puts P (taking a l ∷ ss) f = all_puts P ss (λ j q lt e. f (suc j) q (omega arith) e)

pub sounds_valid : {w : ℕ} (ss : List Step) → Sounds w ss → All (Valid w) (routes_put ss)
sounds_valid [] z = nil
sounds_valid (putting r ∷ ss) z = cons z.0 (sounds_valid ss z.1)
sounds_valid (taking a l ∷ ss) z = sounds_valid ss z.1

module _ (old : List Route) where
  -- Does old lack the prefix of r?
  abbrev pub lacks : Route → Bool
  lacks r = not (present old r.addr r.len)

  lacks_none : (r : Route) → entry old r.addr r.len ≡ none → lacks r ≡ true
  lacks_none r e = ap (λ (v : Answer). not (routed v)) e

  -- What holds of old's routes, and of those put whose prefix old lacks, and is a matter of the prefix alone, holds of every route on the way.
  module _ (P : Route → Type 0) (moves : (r s : Route) → r.addr ≡ s.addr → r.len ≡ s.len → P r → P s) (all : All P old) where
    pub of_put : (r : Route) → (lacks r ≡ true → P r) → P r
    of_put r f = go (entry old r.addr r.len) refl
      where
        go : (v : Answer) → entry old r.addr r.len ≡ v → P r
        go none e = f (lacks_none r e)
        go (via h) e = let z = entry-member old r.addr r.len e in moves z.0 r z.2 z.3 (all_member all z.1)

    pub spread : (k : ℕ) (ss : List Step) {t : List Route} → All (λ r. lacks r ≡ true → P r) (routes_put ss) → All P t → All P (after k ss t)
    spread zero ss f z = z
    spread (suc k) [] f z = z
    spread (suc k) (putting r ∷ ss) (cons f fs) z = spread k ss fs (all_put r (of_put r f) z)
    spread (suc k) (taking a l ∷ ss) fs z = spread k ss fs (all_part (λ r. not (same r.addr r.len a l)) (λ r y e. y) z)
