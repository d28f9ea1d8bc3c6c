-- A walk through a node is the walk by its slots: at each slot the positions that begin there, from the top down, then the slot's own walk.
-- Where a walk comes, and walks that agree there.
use Prim.Native.Nat.{ℕ, zero, suc, ◌+◌, ◌-◌, ◌*◌, ◌/◌, ◌%◌, ◌^◌, ◌≤◌, ◌<◌}
use mathlib.Core.Path.{◌≡◌, refl, ap, ap₂, ◌∙◌}
use mathlib.Core.Bool.{Bool, true, false}
use mathlib.Core.List.{List, [], ◌++◌, append_assoc}
use native.Mathlib.Nat.{pow-suc, add_comm, le_refl, mod-one, div-one}
use native.Mathlib.Numerals.{add-one}
use native.Mathlib.Omega.{arith}
use lib.Pow.{mod-pow-add, shr-shr, shr_lt}
use lib.Dec.{eqb}
use borrow.Author.Tests.{eq-eqb, ne_eqb, eqb-true, eqb-false}
use Rattle.theory.specs.Routes.{Route, Aligned}
use Rattle.theory.proofs.Blocks.{aligned-left, aligned-right}
use Rattle.positions.specs.Runs.{size_of, place_of, size_at, place_at}
use Rattle.positions.specs.Walk.{walk, state_of, state_at, Reached, start, left, right, starts_of, heads_of, slots_of, starts_at, heads, slots}
use Rattle.positions.proofs.Runs.{Nested, nested_self}

-- ---- Of twice as many slots, the even ones begin what the slots before began, and the odd ones nothing.

-- Each level is one further from the slots of one level more.
up : (k l : ℕ) → l ≤ k → suc k - l ≡ (k - l) + 1
up k l le = omega arith

half_even : (c : ℕ) → c * 2 / 2 ≡ c
half_even c = omega arith

half_odd : (c : ℕ) → suc (c * 2) / 2 ≡ c
half_odd c = omega arith

even_mod : (i c : ℕ) → (c * 2) % 2 ^ (i + 1) ≡ (c % 2 ^ i) * 2
even_mod i c = mod-pow-add (c * 2) i 1 ∙ rw (half_even c) (omega arith)

even_div : (i c : ℕ) → (c * 2) / 2 ^ (i + 1) ≡ c / 2 ^ i
even_div i c = rw (← shr_shr_one i c, half_even c)
  where
    shr_shr_one : (i c : ℕ) → c * 2 / 2 / 2 ^ i ≡ c * 2 / 2 ^ (i + 1)
    shr_shr_one i c = rw (add_comm i 1) (shr-shr (c * 2) 1 i)

odd_mod : (i c : ℕ) → suc (c * 2) % 2 ^ (i + 1) ≡ 0 → ⊥
odd_mod i c e =
    let m : suc (c * 2) % 2 ^ (i + 1) ≡ suc (c * 2) / 2 % 2 ^ i * 2 + suc (c * 2) % 2 = mod-pow-add (suc (c * 2)) i 1 in
    omega arith

module _ (k : ℕ) (entry : ℕ → ℕ → List Route) where
  starts_even : (l c : ℕ) → l ≤ k → starts_of (suc k) entry l (c * 2) ≡ starts_of k entry l c
  starts_even l c le = rw (up k l le, even_mod (k - l) c, even_div (k - l) c, same (c % 2 ^ (k - l)))
    where
      same : (x : ℕ) → eqb (x * 2) 0 ≡ eqb x 0
      same x = go (eqb x 0) refl
        where
          go : (b : Bool) → eqb x 0 ≡ b → eqb (x * 2) 0 ≡ b
          go true e = eq-eqb (x * 2) 0 (omega (arith, eqb-true x 0 e))
          go false e = ne_eqb (x * 2) 0 (λ z. eqb-false x 0 e (omega arith))

  starts_odd : (l c : ℕ) → l ≤ k → starts_of (suc k) entry l (suc (c * 2)) ≡ []
  starts_odd l c le = rw (up k l le, ne_eqb _ _ (odd_mod (k - l) c))

  heads_even : (l c : ℕ) → l ≤ suc k → heads_of (suc k) entry l (c * 2) ≡ heads_of k entry l c
  unfolding heads_of
  heads_even zero c le = refl
  heads_even (suc l) c le = ap₂ ◌++◌ (heads_even l c (omega arith)) (starts_even l c (omega arith))

  heads_odd : (l c : ℕ) → l ≤ suc k → heads_of (suc k) entry l (suc (c * 2)) ≡ []
  unfolding heads_of
  heads_odd zero c le = refl
  heads_odd (suc l) c le = ap₂ ◌++◌ (heads_odd l c (omega arith)) (starts_odd l c (omega arith))

  -- A slot begins a position of the last level, itself.
  starts_last : (c : ℕ) → starts_of k entry k c ≡ entry k c
  starts_last c =
      let none : k - k ≡ 0 = omega arith in
      rw (none, mod-one c, div-one c)

  -- Where a slot has its own entry and then its halves, the slots are the halves of one level more.
  slots_halves : (slot half : ℕ → List Route) → ((c : ℕ) → slot c ≡ entry k c ++ (half (c * 2) ++ half (suc (c * 2))))
      → (c : ℕ) → slots_of k entry slot c ≡ slots_of (suc k) entry half (c * 2)
  unfolding slots_of heads_of
  slots_halves slot half e zero = refl
  slots_halves slot half e (suc c) =
      let two : suc c * 2 ≡ suc (suc (c * 2)) = omega arith in
      let even : heads_of (suc k) entry (suc k) (c * 2) ≡ heads_of k entry k c ++ entry k c =
      heads_even (suc k) c (le_refl (suc k)) ∙ ap (heads_of k entry k c ++◌) (starts_last c) in
      rw (two, slots_halves slot half e c, e c, even, heads_odd (suc k) c (le_refl (suc k))) (simp append_assoc)

-- ---- One level and one slot more, for a loop.

module _ (entry : ℕ → ℕ → List Route) where
  -- The positions that begin at a slot, with one level more.
  pub heads-next : (l c : ℕ) → heads entry (l + 1) c ≡ heads entry l c ++ starts_at entry l c
  unfolding heads_of
  heads-next l c = rw (add-one l)

  -- The slots, with one more.
  pub slots_next : (slot : ℕ → List Route) (c : ℕ) → slots entry slot (c + 1) ≡ slots entry slot c ++ (heads entry 5 c ++ slot c)
  unfolding slots_of
  slots_next slot c = rw (add-one c)

-- ---- Entries that agree at each position of a node give the same by its slots.

module _ (k : ℕ) (entry other : ℕ → ℕ → List Route) (same : (l j : ℕ) → l < k → j < 2 ^ l → entry l j ≡ other l j) where
  -- At one slot.
  pub heads-agree : (l c : ℕ) → l ≤ k → c < 2 ^ k → heads_of k entry l c ≡ heads_of k other l c
  unfolding heads_of
  heads-agree zero c le lt = refl
  heads-agree (suc l) c le lt =
      let all : l + (k - l) ≡ k = omega arith in
      let place : c / 2 ^ (k - l) < 2 ^ l = shr_lt l (k - l) (rw all lt) in
      rw (heads-agree l c (omega arith) lt, same l (c / 2 ^ (k - l)) (omega arith) place)

  -- At all of the first slots, where the slots' own entries agree too.
  pub slots-agree : (slot another : ℕ → List Route) → ((c : ℕ) → c < 2 ^ k → slot c ≡ another c)
      → (c : ℕ) → c ≤ 2 ^ k → slots_of k entry slot c ≡ slots_of k other another c
  unfolding slots_of
  slots-agree slot another e zero le = refl
  slots-agree slot another e (suc c) le =
      rw (slots-agree slot another e c (omega arith), heads-agree k c (le_refl k) le, e c le)

-- ---- The walk.

module _ {S : Type 0} (out : ℕ → ℕ → S → List Route) (next : ℕ → ℕ → S → S) where
  -- The node (suc m + k, a) of k levels is the node (m + suc k, a) of one more.
  size_up : (k m l : ℕ) → l ≤ k → size_of k (suc m) l ≡ size_of (suc k) m l
  size_up k m l le = omega arith

  state_up : (k m a : ℕ) (s : S) (l j : ℕ) → l ≤ k → state_of out next k (suc m) a s l j ≡ state_of out next (suc k) m a s l j
  unfolding state_of
  state_up k m a s zero j le = refl
  state_up k m a s (suc l) j le = rw (size_up k m l (omega arith), state_up k m a s l (j / 2) (omega arith))

  -- What a walk through a node of k levels puts out at position j of level l, and at slot c.
  abbrev pub entry_of : ℕ → ℕ → ℕ → S → ℕ → ℕ → List Route
  entry_of k m a s l j = out (size_of k m l) (place_of k m a l j) (state_of out next k m a s l j)

  abbrev pub slot_of : ℕ → ℕ → ℕ → S → ℕ → List Route
  slot_of k m a s c = walk out next m (place_of k m a k c) (state_of out next k m a s k c)

  -- A slot is a position, and then the two slots of the next level inside it.
  slot_halves : (k m a : ℕ) (s : S) (c : ℕ)
      → slot_of k (suc m) a s c ≡ entry_of (suc k) m a s k c ++ (slot_of (suc k) m a s (c * 2) ++ slot_of (suc k) m a s (suc (c * 2)))
  unfolding walk state_of
  slot_halves k m a s c =
      let at : size_of k (suc m) k ≡ suc m = omega arith in
      let up : size_of (suc k) m k ≡ suc m = omega arith in
      let down : size_of (suc k) m (suc k) ≡ m = omega arith in
      let left : a + c * 2 * 2 ^ m ≡ a + c * (2 ^ m * 2) = omega arith in
      let right : a + suc (c * 2) * 2 ^ m ≡ a + c * (2 ^ m * 2) + 2 ^ m = omega arith in
      rw (at, up, down, half_even c, half_odd c, ← state_up k m a s k c (le_refl k), pow-suc 2 m, left, right)

  -- A walk through a node of k levels by its 2 ^ k slots.
  pub walk-slots_of : (k m a : ℕ) (s : S) → walk out next (m + k) a s ≡ slots_of k (entry_of k m a s) (slot_of k m a s) (2 ^ k)
  unfolding slots_of heads_of state_of
  walk-slots_of zero m a s =
      let size : m + (0 - 0) ≡ m = omega arith in
      let place : a + 0 * 2 ^ m ≡ a = omega arith in
      rw (size, place)
  walk-slots_of (suc k) m a s =
      let size : m + suc k ≡ suc m + k = omega arith in
      rw (size, walk-slots_of k (suc m) a s, pow-suc 2 k) (
      slots-agree k (entry_of k (suc m) a s) (entry_of (suc k) m a s) (λ l j lt small.
      rw (size_up k m l (omega arith), state_up k m a s l j (omega arith)))
      (slot_of k (suc m) a s) (slot_of k (suc m) a s) (λ c lt. refl) (2 ^ k) (le_refl (2 ^ k))
      ∙ slots_halves k (entry_of (suc k) m a s) (slot_of k (suc m) a s) (slot_of (suc k) m a s) (slot_halves k m a s) (2 ^ k))

  -- A walk through a node by its 32 slots.
  pub walk-slots : (m a : ℕ) (s : S)
      → walk out next (m + 5) a s
      ≡ slots (λ l j. out (size_at m l) (place_at m a l j) (state_at out next m a s l j))
      (λ c. walk out next m (place_at m a 5 c) (state_at out next m a s 5 c)) 32
  walk-slots m a s = walk-slots_of 5 m a s

-- ---- The positions and states that a walk comes to.

module _ {S : Type 0} (next : ℕ → ℕ → S → S) (n a : ℕ) (s : S) where
  -- What holds at the start, and at a position's halves where it holds at the position, holds wherever the walk comes.
  pub reached_keeps : (P : ℕ → ℕ → S → Type 0)
      → ((k b : ℕ) (u : S) → P (suc k) b u → P k b (next (suc k) b u) × P k (b + 2 ^ k) (next (suc k) b u))
      → P n a s → {k b : ℕ} {u : S} → Reached next n a s k b u → P k b u
  reached_keeps P down p start = p
  reached_keeps P down p (left r) = (down _ _ _ (reached_keeps P down p r)).0
  reached_keeps P down p (right r) = (down _ _ _ (reached_keeps P down p r)).1

  -- It comes to positions inside its own.
  pub reached_nested : {k b : ℕ} {u : S} → Reached next n a s k b u → Nested k b n a
  reached_nested r =
      reached_keeps (λ k b u. Nested k b n a) (λ k b u i. (
        record { smaller = omega arith; from = i.from; upto = omega (arith, pow-suc 2 k) },
        record { smaller = omega arith; from = omega arith; upto = omega (arith, pow-suc 2 k) },
      )) (nested_self n a) r

  -- And to aligned ones, if its own is.
  pub reached_aligned : Aligned n a → {k b : ℕ} {u : S} → Reached next n a s k b u → Aligned k b
  reached_aligned d r = reached_keeps (λ k b u. Aligned k b) (λ k b u e. (aligned-left k b e, aligned-right k b e)) d r

-- Walks whose states stay related, and which put out the same at related states, are one.
pub walk_related : {S T : Type 0} (out : ℕ → ℕ → S → List Route) (next : ℕ → ℕ → S → S) (other : ℕ → ℕ → T → List Route) (step : ℕ → ℕ → T → T)
    (R : ℕ → ℕ → S → T → Type 0) → ((k b : ℕ) (u : S) (v : T) → R k b u v → out k b u ≡ other k b v)
    → ((k b : ℕ) (u : S) (v : T) → R (suc k) b u v
    → R k b (next (suc k) b u) (step (suc k) b v) × R k (b + 2 ^ k) (next (suc k) b u) (step (suc k) b v))
    → (n a : ℕ) (s : S) (t : T) → R n a s t → walk out next n a s ≡ walk other step n a t
unfolding walk
walk_related out next other step R same down zero a s t r = same zero a s t r
walk_related out next other step R same down (suc n) a s t r =
    let both = down n a s t r in
    ap₂ ◌++◌ (same (suc n) a s t r)
    (ap₂ ◌++◌ (walk_related out next other step R same down n a (next (suc n) a s) (step (suc n) a t) both.0)
    (walk_related out next other step R same down n (a + 2 ^ n) (next (suc n) a s) (step (suc n) a t) both.1))

module _ {S : Type 0} (out other : ℕ → ℕ → S → List Route) (next step : ℕ → ℕ → S → S) (n a : ℕ) (s : S) where
  -- Walks that agree wherever one of them comes are one.
  pub walk-agree : ((k b : ℕ) (u : S) → Reached next n a s k b u → (out k b u ≡ other k b u) × (next k b u ≡ step k b u))
      → walk out next n a s ≡ walk other step n a s
  walk-agree same =
      walk_related out next other step (λ k b u v. Reached next n a s k b u × (u ≡ v)) (λ k b u v r. (same k b u r.0).0 ∙ ap (other k b) r.1)
      (λ k b u v r. let e = (same (suc k) b u r.0).1 ∙ ap (step (suc k) b) r.1 in ((left r.0, e), (right r.0, e)))
      n a s s (start, refl)

module _ {S : Type 0} (out : ℕ → ℕ → S → List Route) (next : ℕ → ℕ → S → S) where
  -- A walk that puts out nothing where P holds, and keeps P.
  silent : (P : ℕ → ℕ → S → Type 0) → ((k b : ℕ) (u : S) → P k b u → out k b u ≡ [])
      → ((k b : ℕ) (u : S) → P (suc k) b u → P k b (next (suc k) b u) × P k (b + 2 ^ k) (next (suc k) b u))
      → (n a : ℕ) (s : S) → P n a s → walk out next n a s ≡ []
  unfolding walk
  silent P none down zero a s p = none zero a s p
  silent P none down (suc n) a s p =
      let both = down n a s p in
      rw (none (suc n) a s p, silent P none down n a (next (suc n) a s) both.0, silent P none down n (a + 2 ^ n) (next (suc n) a s) both.1)

  -- A walk that puts out nothing wherever it comes is empty.
  pub walk-nothing : (n a : ℕ) (s : S) → ((k b : ℕ) (u : S) → Reached next n a s k b u → out k b u ≡ []) → walk out next n a s ≡ []
  walk-nothing n a s none = silent (Reached next n a s) none (λ k b u r. (left r, right r)) n a s start
