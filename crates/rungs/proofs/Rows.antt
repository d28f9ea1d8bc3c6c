-- A row of numbers by length: it is known by its elements, and its greatest length with a hop has the best answer. Assumes nothing.
use Prim.Native.Nat.{ℕ, zero, suc, ◌+◌, ◌≤◌, ◌<◌}
use mathlib.Core.Path.{◌≡◌, refl, sym, ap, ◌∙◌}
use mathlib.Core.Bool.{Bool, true, false, cond}
use mathlib.Core.List.{List}
use native.Mathlib.Omega.{arith}
use lib.Dec.{eqb}
use lib.ListN.{length, get_or}
use lib.Seq.{ext_get_or}
use borrow.Author.Tests.{eqb-true, eqb-false, eq-eqb, ne_eqb}
use Rattle.theory.specs.Routes.{Answer, none, via}
use Rattle.positions.specs.Runs.{no_hop, or_else}
use Rattle.steps.specs.Views.{best}
use Rattle.rungs.specs.Rungs.{number_of, row, top_from}

pub row-length : (f : ℕ → Answer) (l k : ℕ) → length (row f l k) ≡ k
unfolding row
row-length f l zero = refl
row-length f l (suc k) = ap suc (row-length f (suc l) k)

pub row_at : (f : ℕ → Answer) (l k i : ℕ) → i < k → get_or (row f l k) i 0 ≡ number_of (f (l + i))
unfolding row
row_at f l zero i lt = absurd (omega arith)
row_at f l (suc k) zero lt = ap (λ (m : ℕ). number_of (f m)) (omega arith)
row_at f l (suc k) (suc i) lt = row_at f (suc l) k i (omega arith) ∙ ap (λ (m : ℕ). number_of (f m)) (omega arith)

-- The element at a length up to 32.
pub row-hop : (f : ℕ → Answer) (l : ℕ) → l ≤ 32 → get_or (row f 0 33) l 0 ≡ number_of (f l)
row-hop f l le = row_at f 0 33 l (omega arith) ∙ ap (λ (m : ℕ). number_of (f m)) (omega arith)

-- A list with these elements is the row.
pub row_is : (f : ℕ → Answer) (hops : List ℕ) → length hops ≡ 33 → ((l : ℕ) → l ≤ 32 → get_or hops l 0 ≡ number_of (f l)) → hops ≡ row f 0 33
row_is f hops size k = ext_get_or 0 hops (row f 0 33) (size ∙ sym (row-length f 0 33)) (λ i lt. k i (omega arith) ∙ sym (row-hop f i (omega arith)))

-- ---- The top.

pub top-low : (hops : List ℕ) (k : ℕ) → top_from hops k ≤ k
unfolding top_from
top-low hops zero = omega arith
top-low hops (suc k) = go (eqb (get_or hops (suc k) 0) no_hop) (top-low hops k)
  where
    go : (b : Bool) → top_from hops k ≤ k → cond b (top_from hops k) (suc k) ≤ suc k
    go true le = omega arith
    go false le = omega arith

-- One more length without a hop changes nothing, and one with a hop is the top.
pub top-bare : (hops : List ℕ) (k : ℕ) → get_or hops (suc k) 0 ≡ no_hop → top_from hops (suc k) ≡ top_from hops k
unfolding top_from
top-bare hops k e = rw (eq-eqb (get_or hops (suc k) 0) no_hop e)

pub top-hop : (hops : List ℕ) (k : ℕ) → (get_or hops k 0 ≡ no_hop → ⊥) → top_from hops k ≡ k
unfolding top_from
top-hop hops zero n = refl
top-hop hops (suc k) n = rw (ne_eqb (get_or hops (suc k) 0) no_hop n)

-- So many lengths without a hop.
pub top_above : (hops : List ℕ) (m k : ℕ) → ((l : ℕ) → m < l → l ≤ m + k → get_or hops l 0 ≡ no_hop) → top_from hops (m + k) ≡ top_from hops m
top_above hops m zero bare = ap (top_from hops) (omega arith)
top_above hops m (suc k) bare =
    let e : m + suc k ≡ suc (m + k) = omega arith in
    ap (top_from hops) e ∙ top-bare hops (m + k) (ap (λ (l : ℕ). get_or hops l 0) (sym e) ∙ bare (m + suc k) (omega arith) (omega arith))
    ∙ top_above hops m k (λ l lt le. bare l lt (omega arith))

-- All above the top are bare.
pub bare-above : (hops : List ℕ) (k l : ℕ) → top_from hops k < l → l ≤ k → get_or hops l 0 ≡ no_hop
unfolding top_from
bare-above hops zero l lt le = absurd (omega arith)
bare-above hops (suc k) l lt le = go (eqb (get_or hops (suc k) 0) no_hop) refl lt (λ p q. bare-above hops k l p q)
  where
    go : (b : Bool) → eqb (get_or hops (suc k) 0) no_hop ≡ b → cond b (top_from hops k) (suc k) < l → (top_from hops k < l → l ≤ k → get_or hops l 0 ≡ no_hop)
        → get_or hops l 0 ≡ no_hop
    go false e p ih = absurd (omega arith)
    go true e p ih = pick (eqb l (suc k)) refl
      where
        pick : (c : Bool) → eqb l (suc k) ≡ c → get_or hops l 0 ≡ no_hop
        pick true q = ap (λ (m : ℕ). get_or hops m 0) (eqb-true l (suc k) q) ∙ eqb-true (get_or hops (suc k) 0) no_hop e
        pick false q = let d = eqb-false l (suc k) q in ih p (below d)
          where
            below : ((l ≡ suc k) → ⊥) → l ≤ k
            below d = omega (arith, d)

-- Answers whose hops are numbers below no_hop.
abbrev pub Small : Answer → Type 0
Small none = Unit {0}
Small (via h) = h < no_hop

-- They are known by their numbers.
pub number_one : (u v : Answer) → Small u → Small v → number_of u ≡ number_of v → u ≡ v
number_one none none s t e = refl
number_one none (via i) s t e = absurd (omega arith)
number_one (via h) none s t e = absurd (omega arith)
number_one (via h) (via i) s t e = ap via e

-- The number at the top is that of the best answer.
pub top-best : (f : ℕ → Answer) (hops : List ℕ) (k : ℕ) → ((l : ℕ) → l ≤ k → get_or hops l 0 ≡ number_of (f l)) → ((l : ℕ) → l ≤ k → Small (f l))
    → get_or hops (top_from hops k) 0 ≡ number_of (best f k)
unfolding top_from
top-best f hops zero at small = at zero (omega arith)
top-best f hops (suc k) at small = go (f (suc k)) refl (top-best f hops k (λ l le. at l (omega arith)) (λ l le. small l (omega arith)))
  where
    go : (v : Answer) → f (suc k) ≡ v → get_or hops (top_from hops k) 0 ≡ number_of (best f k)
        → get_or hops (top_from hops (suc k)) 0 ≡ number_of (or_else (f (suc k)) (best f k))
    go none e ih = rw (eq-eqb (get_or hops (suc k) 0) no_hop (at (suc k) (omega arith) ∙ ap number_of e), e) ih
    go (via h) e ih =
        let s : h < no_hop = rw e at (small (suc k) (omega arith)) in
        let here : get_or hops (suc k) 0 ≡ h = at (suc k) (omega arith) ∙ ap number_of e in
        rw (ne_eqb (get_or hops (suc k) 0) no_hop (λ q. omega arith), e) here
