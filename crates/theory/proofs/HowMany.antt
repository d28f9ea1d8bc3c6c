-- How many addresses of a position pass a test: by tests that agree, tests apart, a test and its contrary, and by the maximal prefixes of a test.
use Prim.Native.Nat.{ℕ, zero, suc, ◌+◌, ◌-◌, ◌^◌, ◌≤◌, ◌<◌}
use mathlib.Core.Path.{◌≡◌, refl, sym, ap, ap₂, ◌∙◌}
use mathlib.Core.Bool.{Bool, true, false, cond, not, ◌||◌, ◌&&◌}
use mathlib.Core.List.{List, [], ◌∷◌, ◌++◌}
use mathlib.Core.Logic.{◌↔◌, ◌⊎◌, inl, inr}
use native.Mathlib.Nat.{pow-suc, eq-or-lt_of_le}
use native.Mathlib.Omega.{arith}
use Rattle.theory.specs.Routes.{Route, matches, Aligned, Valid}
use Rattle.theory.specs.Results.{In, throughout, prefix, maximal}
use Rattle.theory.specs.Reach.{how_many, sizes}
use Rattle.theory.proofs.Blocks.{pow_pos, aligned-zero, aligned-left, aligned-right, in_left, in_right, in_halves, same_start, start_is, in_nested}
use Rattle.theory.proofs.Maximal.{throughout-each}
use Rattle.theory.proofs.Preserve.{back}
use Rattle.theory.proofs.Routed.{matches_in}

module _ (p q : ℕ → Bool) where
  -- Tests that agree pass as many.
  pub many-agree : (n a : ℕ) → ((x : ℕ) → In n a x → p x ≡ q x) → how_many p n a ≡ how_many q n a
  unfolding how_many
  many-agree zero a h = rw (h a (omega arith))
  many-agree (suc n) a h =
      ap₂ ◌+◌ (many-agree n a (λ x i. h x (in_left n a x i))) (many-agree n (a + 2 ^ n) (λ x i. h x (in_right n a x i)))

  -- Of two tests that pass no address both, the one or the other passes as many as each by itself.
  pub many-apart : (n a : ℕ) → ((x : ℕ) → In n a x → (p x && q x) ≡ false) → how_many (λ x. p x || q x) n a ≡ how_many p n a + how_many q n a
  unfolding how_many
  many-apart zero a h = go (p a) (q a) (h a (omega arith))
    where
      go : (b c : Bool) → (b && c) ≡ false → cond (b || c) 1 0 ≡ cond b 1 0 + cond c 1 0
      go true true e = let z : ◌≡◌ {A = ℕ} 0 1 = cc in absurd (omega arith)
      go true false e = refl
      go false true e = refl
      go false false e = refl
  many-apart (suc n) a h =
      omega (arith, many-apart n a (λ x i. h x (in_left n a x i)), many-apart n (a + 2 ^ n) (λ x i. h x (in_right n a x i)))

-- A test that passes no address.
pub many_none : (p : ℕ → Bool) (n a : ℕ) → ((x : ℕ) → In n a x → p x ≡ false) → how_many p n a ≡ 0
unfolding how_many
many_none p zero a h = rw (h a (omega arith))
many_none p (suc n) a h =
    omega (arith, many_none p n a (λ x i. h x (in_left n a x i)), many_none p n (a + 2 ^ n) (λ x i. h x (in_right n a x i)))

module _ (p : ℕ → Bool) where
  -- A test and its contrary pass every address between them.
  pub many_contrary : (n a : ℕ) → how_many p n a + how_many (λ x. not (p x)) n a ≡ 2 ^ n
  unfolding how_many
  many_contrary zero a = go (p a)
    where
      go : (b : Bool) → cond b 1 0 + cond (not b) 1 0 ≡ 1
      go true = refl
      go false = refl
  many_contrary (suc n) a = omega (arith, many_contrary n a, many_contrary n (a + 2 ^ n), pow-suc 2 n)

  -- A test that passes every address.
  pub many_all : (n a : ℕ) → throughout p n a ≡ true → how_many p n a ≡ 2 ^ n
  many_all n a e =
      omega (arith, many_contrary n a, many_none (λ x. not (p x)) n a (λ x i. ap not ((throughout-each p n a).0 e x i)))

-- A test that passes the addresses of one position, and no others, passes as many as that has.
module _ (p : ℕ → Bool) (k b : ℕ) (c : Aligned k b) (exactly : (x : ℕ) → (p x ≡ true) ↔ In k b x) where
  -- The position lies in any larger one that it starts in.
  inside : (n a : ℕ) → k ≤ n → Aligned n a → In n a b → (x : ℕ) → In k b x → In n a x
  inside n a le d i x j = in_nested k n a b x le d i (rw (start_is k b b c (omega (arith, pow_pos k))) j)

  -- None where the position has none.
  many_outside : (n a : ℕ) → ((x : ℕ) → In k b x → In n a x → ⊥) → how_many p n a ≡ 0
  many_outside n a out = many_none p n a (λ x i. go (p x) (λ e. out x ((exactly x).0 e) i))
    where
      go : (v : Bool) → (v ≡ true → ⊥) → v ≡ false
      go true out = absurd (out refl)
      go false out = refl

  -- All of the position itself.
  many_itself : (n a : ℕ) → k ≡ n → Aligned n a → In n a b → how_many p n a ≡ 2 ^ k
  many_itself n a e d i =
      let same : b ≡ a = same_start n a b d (rw e at c) i in
      rw e (many_all p n a ((throughout-each p n a).1 (λ x j. (exactly x).1 (rw (e, same) j))))

  pub many-position : (n a : ℕ) → k ≤ n → Aligned n a → In n a b → how_many p n a ≡ 2 ^ k
  unfolding how_many
  many-position zero a le d i = many_itself zero a (omega arith) d i
  many-position (suc n) a le d i =
      go (eq-or-lt_of_le le) (in_halves n a b i) (many-position n a) (many-position n (a + 2 ^ n))
    where
      low : Aligned n a
      low = aligned-left n a d

      high : Aligned n (a + 2 ^ n)
      high = aligned-right n a d

      go : (k ≡ suc n) ⊎ (k < suc n) → In n a b ⊎ In n (a + 2 ^ n) b → (k ≤ n → Aligned n a → In n a b → how_many p n a ≡ 2 ^ k)
          → (k ≤ n → Aligned n (a + 2 ^ n) → In n (a + 2 ^ n) b → how_many p n (a + 2 ^ n) ≡ 2 ^ k) → how_many p n a + how_many p n (a + 2 ^ n) ≡ 2 ^ k
      go (inl e) half l r = many_itself (suc n) a e d i
      go (inr lt) (inl j) l r =
          omega (arith, l (omega arith) low j, many_outside n (a + 2 ^ n) (λ x m o. omega (arith, inside n a (omega arith) low j x m)))
      go (inr lt) (inr j) l r =
          omega (arith, r (omega arith) high j, many_outside n a (λ x m o. omega (arith, inside n (a + 2 ^ n) (omega arith) high j x m)))

-- A route matches as many addresses as its prefix has.
pub many_matched : (w : ℕ) {r : Route} → Valid w r → how_many (matches w r) w 0 ≡ 2 ^ (w - r.len)
many_matched w {r} v =
    many-position (matches w r) (w - r.len) r.addr v.clean (matches_in w v) w 0 (omega arith) (aligned-zero w) (omega (arith, v.small))

-- ---- The prefixes throughout which a test passes.

-- The sizes of two lists one after the other.
sizes-append : (w : ℕ) (s t : List Route) → sizes w (s ++ t) ≡ sizes w s + sizes w t
unfolding sizes
sizes-append w [] t = omega arith
sizes-append w (r ∷ s) t = omega (arith, sizes-append w s t)

-- No sizes are those of no prefixes.
pub sizes-zero : (w : ℕ) (t : List Route) → sizes w t ≡ 0 → t ≡ []
unfolding sizes
sizes-zero w [] e = refl
sizes-zero w (r ∷ t) e = absurd (omega (arith, pow_pos (w - r.len)))

module _ (w : ℕ) (p : ℕ → Bool) where
  sizes-prefix : (n a : ℕ) → n ≤ w → sizes w (prefix w n a ∷ []) ≡ 2 ^ n
  unfolding sizes
  sizes-prefix n a le = rw (back w n le) (omega arith)

  -- The maximal ones have as many addresses as pass.
  pub maximal-sizes : (n a : ℕ) → n ≤ w → sizes w (maximal w p n a) ≡ how_many p n a
  unfolding maximal how_many sizes
  maximal-sizes zero a le = go (p a)
    where
      go : (v : Bool) → sizes w (cond v (prefix w zero a ∷ []) []) ≡ cond v 1 0
      go true = sizes-prefix zero a le
      go false = refl
  maximal-sizes (suc n) a le =
      go (throughout p (suc n) a) refl (maximal-sizes n a (omega arith)) (maximal-sizes n (a + 2 ^ n) (omega arith))
    where
      go : (v : Bool) → throughout p (suc n) a ≡ v → sizes w (maximal w p n a) ≡ how_many p n a
          → sizes w (maximal w p n (a + 2 ^ n)) ≡ how_many p n (a + 2 ^ n)
          → sizes w (cond v (prefix w (suc n) a ∷ []) (maximal w p n a ++ maximal w p n (a + 2 ^ n))) ≡ how_many p (suc n) a
      go true e l r = sizes-prefix (suc n) a le ∙ sym (many_all p (suc n) a e)
      go false e l r = sizes-append w (maximal w p n a) (maximal w p n (a + 2 ^ n)) ∙ ap₂ ◌+◌ l r
