-- The entries that begin at a slot, level by level, as the code tests for them and finds them. Assumes nothing.
use Prim.Native.Nat.{ℕ, zero, suc, ◌+◌, ◌-◌, ◌*◌, ◌/◌, ◌%◌, ◌^◌, ◌≤◌, ◌<◌}
use mathlib.Core.Path.{◌≡◌, refl, sym, ◌∙◌}
use mathlib.Core.Bool.{Bool, true, false}
use mathlib.Core.List.{List, [], ◌∷◌}
use native.Mathlib.Omega.{arith}
use native.Mathlib.Numerals.{add-one}
use lib.Dec.{lit<, eqb, leb, leb-zero, leb-suc-zero, leb-suc-suc}
use lib.Count.{count_trailing_zeros, under}
use lib.ListN.{length, get_or}
use lib.Pow.{shl_exact, shr_lt, mod-pow-add}
use borrow.Author.Tests.{eqb-true, eqb-false, eq-eqb, ne_eqb, leb-false, le-leb, lt-leb}
use Rattle.records.specs.Sized.{IsSize, route}
use Rattle.words.specs.Bits.{bit}
use Rattle.words.specs.Positions.{position}
use Rattle.words.proofs.BitLaws.{bit-zero, if_le}
use Rattle.words.proofs.PositionLaws.{in_word}
use Rattle.nodes.specs.Output.{Wrote, slot_head, slot_heads}
use Rattle.nodes.proofs.OutputLaws.{wrote_none, wrote_then}

-- ---- The entry of the position of a level that begins at a slot.

-- The code's `1 << k`.
pub shifted_one : (k : ℕ) → k < 64 → 1 * 2 ^ k % 2 ^ 64 ≡ 2 ^ k
shifted_one k h = let e : 1 * 2 ^ k ≡ 2 ^ k = omega arith in shl_exact {a = 1} 1 k 64 (lit< tt) (omega arith) ∙ e

-- The number of the position of level l over slot c, as the code has it.
pub index_is : (l c : ℕ) → l < 5 → (1 * 2 ^ l % 2 ^ 64 - 1) + c / 2 ^ (5 - l) ≡ position l (c / 2 ^ (5 - l))
index_is l c h = rw (shifted_one l (omega arith))

-- It is one of the level's,
pub index_in : (l c : ℕ) → l < 5 → c < 32 → c / 2 ^ (5 - l) < 2 ^ l
index_in l c h b =
    let e : 32 ≡ 2 ^ (l + (5 - l)) = let s : l + (5 - l) ≡ 5 = omega arith in rw s in
    shr_lt l (5 - l) (rw e at b)

-- and one of 31.
pub index_lt : (l c : ℕ) → l < 5 → c < 32 → (1 * 2 ^ l % 2 ^ 64 - 1) + c / 2 ^ (5 - l) < 31
index_lt l c h b = rw (index_is l c h) (in_word l (c / 2 ^ (5 - l)) (omega arith) (index_in l c h b))

module _ (entries : ℕ) (hops : List ℕ) (depth addr c l : ℕ) (level : l < 5) where
  -- No position of the level begins at the slot.
  pub head_apart : (c % (1 * 2 ^ (5 - l) % 2 ^ 64) ≡ 0 → ⊥) → slot_head entries hops depth addr c l ≡ []
  head_apart n = rw (ne_eqb (c % 2 ^ (5 - l)) 0 (rw (shifted_one (5 - l) (omega arith)) at n))

  module _ (begins : c % (1 * 2 ^ (5 - l) % 2 ^ 64) ≡ 0) where
    begins-here : eqb (c % 2 ^ (5 - l)) 0 ≡ true
    begins-here = eq-eqb (c % 2 ^ (5 - l)) 0 (rw (shifted_one (5 - l) (omega arith)) at begins)

    -- One does, and has no entry.
    pub head_absent : bit entries ((1 * 2 ^ l % 2 ^ 64 - 1) + c / 2 ^ (5 - l)) ≡ false → slot_head entries hops depth addr c l ≡ []
    head_absent e = rw (begins-here, rw (index_is l c level) at e)

    -- One does, and has one.
    pub head-entry : bit entries ((1 * 2 ^ l % 2 ^ 64 - 1) + c / 2 ^ (5 - l)) ≡ true
        → slot_head entries hops depth addr c l ≡ route addr (depth + l) (get_or hops ((1 * 2 ^ l % 2 ^ 64 - 1) + c / 2 ^ (5 - l)) 0) ∷ []
    head-entry e = rw (begins-here, rw (index_is l c level) at e, index_is l c level)

-- ---- The first level of which a position begins at a slot.

-- 2 ^ m divides n where n ends in m zeros or more, and only there.
trailing_divides : (k n m : ℕ) → m ≤ k → eqb (n % 2 ^ m) 0 ≡ leb m (count_trailing_zeros k n)
unfolding count_trailing_zeros
trailing_divides k n zero h = eq-eqb (n % 1) 0 (omega arith) ∙ sym (leb-zero (count_trailing_zeros k n))
trailing_divides zero n (suc m) h = absurd (omega arith)
trailing_divides (suc k) n (suc m) h = go (n % 2) refl (trailing_divides k (n / 2) m (omega arith))
  where
    split : n % 2 ^ suc m ≡ (n / 2 % 2 ^ m) * 2 + n % 2
    split = rw (← add-one m) (mod-pow-add n m 1)

    same : (b : Bool) → eqb (n / 2 % 2 ^ m) 0 ≡ b → n % 2 ≡ 0 → eqb (n % 2 ^ suc m) 0 ≡ b
    same true e even = eq-eqb (n % 2 ^ suc m) 0 (omega (arith, split, eqb-true (n / 2 % 2 ^ m) 0 e))
    same false e even = ne_eqb (n % 2 ^ suc m) 0 (λ z. eqb-false (n / 2 % 2 ^ m) 0 e (omega (arith, split)))

    go : (r : ℕ) → n % 2 ≡ r → eqb (n / 2 % 2 ^ m) 0 ≡ leb m (count_trailing_zeros k (n / 2))
        → eqb (n % 2 ^ suc m) 0 ≡ leb (suc m) (under r (count_trailing_zeros k (n / 2)))
    go zero e rest = same (eqb (n / 2 % 2 ^ m) 0) refl e ∙ rest ∙ sym (leb-suc-suc m (count_trailing_zeros k (n / 2)))
    go (suc r) e rest = ne_eqb (n % 2 ^ suc m) 0 (λ z. omega (arith, split)) ∙ sym (leb-suc-zero m)

module _ (c : ℕ) (some : c ≡ 0 → ⊥) (within : c < 32) where
  -- A slot other than the first ends in fewer than 5 zeros,
  pub trailing_few : count_trailing_zeros 32 c < 5
  trailing_few =
      leb-false 5 (count_trailing_zeros 32 c)
      (sym (trailing_divides 32 c 5 (omega arith)) ∙ ne_eqb (c % 32) 0 (λ z. some (omega arith)))

  -- and positions of a level begin at it where it ends in as many as the levels below have.
  pub first-begins : (l : ℕ) → l < 5 → eqb (c % 2 ^ (5 - l)) 0 ≡ leb (5 - count_trailing_zeros 32 c) l
  first-begins l h =
      trailing_divides 32 c (5 - l) (omega arith)
      ∙ if_le (λ t. t ≡ leb (5 - count_trailing_zeros 32 c) l) (5 - l) (count_trailing_zeros 32 c)
      (λ le. sym (le-leb (5 - count_trailing_zeros 32 c) l (omega arith)))
      (λ lt. sym (lt-leb (5 - count_trailing_zeros 32 c) l (omega arith)))

-- ---- The entries that begin at a slot, level by level.

module _ (entries : ℕ) (hops : List ℕ) (depth addr c : ℕ) where
  -- Where no entry of the first levels begins there,
  heads-empty : (l : ℕ) → ((i : ℕ) → i < l → slot_head entries hops depth addr c i ≡ []) → slot_heads entries hops depth addr c l ≡ []
  unfolding slot_heads
  heads-empty zero none = refl
  heads-empty (suc l) none = rw (heads-empty l (λ i h. none i (omega arith)), none l (omega arith))

  -- as before the first level of which a position does,
  pub heads-before : {size : ℕ} → IsSize size → (r : ℕ) → r ≤ 5 → ((l : ℕ) → l < 5 → eqb (c % 2 ^ (5 - l)) 0 ≡ leb r l) → (o : List ℕ)
      → Wrote size (slot_heads entries hops depth addr c r) 0 0 o o
  heads-before is r h first o =
      rw (heads-empty r (λ l lt. rw (first l (omega arith), lt-leb r l lt))) (wrote_none is 0 o)

  -- or where there is no entry at all, nothing is written.
  pub heads_none : {size : ℕ} → IsSize size → entries ≡ 0 → (l : ℕ) (o : List ℕ) → Wrote size (slot_heads entries hops depth addr c l) 0 0 o o
  heads_none is e l o = rw (heads-empty l (λ i h. go i (eqb (c % 2 ^ (5 - i)) 0) refl)) (wrote_none is 0 o)
    where
      go : (l : ℕ) (b : Bool) → eqb (c % 2 ^ (5 - l)) 0 ≡ b → slot_head entries hops depth addr c l ≡ []
      go l true q = rw (q, e, bit-zero (position l (c / 2 ^ (5 - l))))
      go l false q = rw q

  -- One level more.
  pub heads_more : {size : ℕ} → IsSize size → (l : ℕ) {n k : ℕ} {o o₁ o₂ : List ℕ} → Wrote size (slot_heads entries hops depth addr c l) 0 n o o₁
      → length o₁ ≡ length o
      → Wrote size (slot_head entries hops depth addr c l) n k o₁ o₂ → Wrote size (slot_heads entries hops depth addr c (l + 1)) 0 k o o₂
  unfolding slot_heads
  heads_more is l p same q = rw (add-one l) (wrote_then is p q same)
