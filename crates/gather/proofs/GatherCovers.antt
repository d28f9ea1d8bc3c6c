-- The hop that covers each position of a node, from the positions above it.
use Prim.Native.Nat.{ℕ, zero, suc, ◌+◌, ◌-◌, ◌/◌, ◌^◌, ◌≤◌, ◌<◌}
use mathlib.Core.Path.{◌≡◌, sym, ap, ◌∙◌}
use mathlib.Core.Bool.{Bool, cond}
use mathlib.Core.List.{List}
use mathlib.Core.Logic.{◌⊎◌, inl, inr}
use native.Mathlib.Nat.{pow-suc, eq-or-lt_of_le}
use native.Mathlib.Omega.{arith}
use lib.ListN.{length, get_or, set, length-set}
use lib.Seq.{get_or-set_same, get_or-set_other}
use lib.Pow.{pow_pos}
use borrow.Author.Tests.{le-ltb, eq-eqb, ne_eqb}
use Rattle.words.specs.Positions.{position}
use Rattle.words.proofs.PositionLaws.{in_word, above}
use Rattle.gather.specs.Gathered.{value_of, over_at, covering_at}

-- The hops of the positions numbered below b are found.
pub record Covering (size : ℕ) (t first end : List ℕ) (inherited : ℕ) (hops : List ℕ) (b : ℕ) : Type 0 where
  pub sized : length hops ≡ 31
  pub each : (l j : ℕ) → l ≤ 4 → j < 2 ^ l → position l j < b → get_or hops (position l j) 0 ≡ covering_at size t first end inherited l j

module _ {size : ℕ} {t first end : List ℕ} {inherited : ℕ} {hops : List ℕ} {b : ℕ} (c : Covering size t first end inherited hops b) where
  -- What the code finds for a position, from what it found for the one above.
  covering_here : (l j : ℕ) → l ≤ 4 → j < 2 ^ l → b ≡ position l j
      → value_of size t (get_or first b 0) (get_or end b 0) (over_at hops b inherited) ≡ covering_at size t first end inherited l j
  unfolding covering_at
  covering_here zero j le lt e =
      let z : position 0 j ≡ 0 = omega arith in
      rw (e, eq-eqb (position 0 j) 0 z)
  covering_here (suc l) j le lt e =
      let p : position l (j / 2) < b = omega (arith, pow-suc 2 l, pow_pos l) in
      let h : j / 2 < 2 ^ l = omega (arith, pow-suc 2 l) in
      let over : over_at hops b inherited ≡ covering_at size t first end inherited l (j / 2) =
      ap (λ (s : Bool). cond s inherited (get_or hops ((b - 1) / 2) 0)) (ne_eqb b 0 (λ z. omega (arith, pow-suc 2 l, pow_pos l)))
      ∙ ap (λ (n : ℕ). get_or hops ((n - 1) / 2) 0) e ∙ ap (λ (n : ℕ). get_or hops n 0) (above l j)
      ∙ c.each l (j / 2) (omega arith) h p in
      rw (over, e)

  -- So one more is found.
  pub covering_next : (v : ℕ) → b < 31 → v ≡ value_of size t (get_or first b 0) (get_or end b 0) (over_at hops b inherited)
      → Covering size t first end inherited (set hops b v) (b + 1)
  covering_next v small is = record { sized = length-set hops b v ∙ c.sized; each = λ l j le lt h. go l j le lt (eq-or-lt_of_le h) }
    where
      go : (l j : ℕ) → l ≤ 4 → j < 2 ^ l → (suc (position l j) ≡ b + 1) ⊎ (suc (position l j) < b + 1)
          → get_or (set hops b v) (position l j) 0 ≡ covering_at size t first end inherited l j
      go l j le lt (inl e) =
          let q : b ≡ position l j = omega arith in
          ap (λ (n : ℕ). get_or (set hops b v) n 0) (sym q) ∙ get_or-set_same hops b v 0 (omega (arith, c.sized)) ∙ is ∙ covering_here l j le lt q
      go l j le lt (inr h) =
          get_or-set_other hops b (position l j) v 0 (λ e. omega arith) ∙ c.each l j le lt (omega arith)

-- Where no position has a record the inherited hop covers them all.
pub covering_none : (size : ℕ) (t first end : List ℕ) (inherited : ℕ) → ((b : ℕ) → b < 31 → get_or end b 0 ≤ get_or first b 0)
    → (l j : ℕ) → l ≤ 4 → j < 2 ^ l → covering_at size t first end inherited l j ≡ inherited
unfolding covering_at
covering_none size t first end inherited none zero j le lt =
    rw (le-ltb (get_or first (position 0 j) 0) (get_or end (position 0 j) 0) (none (position 0 j) (in_word 0 j le lt)))
covering_none size t first end inherited none (suc l) j le lt =
    rw (le-ltb (get_or first (position (suc l) j) 0) (get_or end (position (suc l) j) 0) (none (position (suc l) j) (in_word (suc l) j le lt)))
    (covering_none size t first end inherited none l (j / 2) (omega arith) (omega (arith, pow-suc 2 l)))
