-- A position's routes taken apart: those at its top, those of its left half and those of its right half, and what each half then answers.
use Prim.Native.Nat.{ℕ, suc, ◌+◌, ◌-◌, ◌^◌, ◌≤◌, ◌<◌}
use mathlib.Core.Path.{◌≡◌, sym, ap, ◌∙◌}
use mathlib.Core.Bool.{Bool, true, false}
use mathlib.Core.List.{List}
use native.Mathlib.Nat.{pow-suc, eq-or-lt_of_le}
use native.Mathlib.Omega.{arith}
use mathlib.Core.Logic.{◌⊎◌, inl, inr}
use lib.Dec.{ltb}
use borrow.Author.Tests.{ltb-true, ltb-false, eqb-true, eqb-false, eq-eqb}
use Rattle.theory.specs.Shapes.{Within}
use Rattle.theory.specs.Results.{In, part}
use Rattle.theory.specs.Routes.{Route, matches, Match, lookup, Answer, under, Aligned, All}
use Rattle.theory.proofs.Blocks.{pow_pos, aligned-right, in→block, in_left, in_right, aligned_down, next-block}
use Rattle.theory.proofs.Lists.{all_map}
use Rattle.theory.proofs.Parts.{rest, all_part, all_rest, lookup_shallow, under-longer, lookup-part, lookup_rest, lookup_alike, of_len, part-len, lookup_lens}
use Rattle.theory.proofs.Preserve.{lookup_outside, lookup-deep}

-- A position's routes: those at its top, those of its left half and those of its right half; and what those at its top hand down.
abbrev pub is_low : ℕ → ℕ → Route → Bool
is_low n a r = ltb r.addr (a + 2 ^ n)

abbrev pub tops : ℕ → ℕ → List Route → List Route
tops w n t = part (of_len (w - suc n)) t

abbrev pub below : ℕ → ℕ → List Route → List Route
below w n t = rest (of_len (w - suc n)) t

abbrev pub lefts : ℕ → ℕ → ℕ → List Route → List Route
lefts w n a t = part (is_low n a) (below w n t)

abbrev pub rights : ℕ → ℕ → ℕ → List Route → List Route
rights w n a t = rest (is_low n a) (below w n t)

abbrev pub handed : ℕ → ℕ → ℕ → Answer → List Route → Answer
handed w n a g t = under g (lookup w (tops w n t) a)

-- A position's routes: those at its top, those of its left half and those of its right half.
module _ (w n a : ℕ) (le : suc n ≤ w) (d : Aligned (suc n) a) (t : List Route) (tw : All (Within w (suc n) a) t) where
  abbrev Inner : Route → Type 0
  Inner r = Within w (suc n) a r × (w - suc n < r.len)

  lens : All (λ r. w - suc n ≤ r.len) t
  lens = all_map (λ r i. i.deep) tw

  below-inner : All Inner (below w n t)
  below-inner = all_rest (of_len (w - suc n)) (λ r i e. (i, go r i e (eq-or-lt_of_le i.deep))) tw
    where
      go : (r : Route) → Within w (suc n) a r → of_len (w - suc n) r ≡ false → (w - suc n ≡ r.len) ⊎ (w - suc n < r.len) → w - suc n < r.len
      go r i e (inl q) = absurd (eqb-false r.len (w - suc n) e (sym q))
      go r i e (inr lt) = lt

  top_match : (x : ℕ) → In (suc n) a x → (r : Route) → Within w (suc n) a r → of_len (w - suc n) r ≡ true → matches w r x ≡ true
  top_match x j r i e =
      let l : r.len ≡ w - suc n = eqb-true r.len (w - suc n) e in
      let m : w - r.len ≡ suc n = omega arith in
      let p : 2 ^ (w - r.len) ≡ 2 ^ suc n = ap (λ (k : ℕ). 2 ^ k) m in
      eq-eqb _ _ (in→block (w - r.len) r.addr x i.aligned (omega arith))

  pub left : All (Within w n a) (lefts w n a t)
  left = all_part (is_low n a) half below-inner
    where
      half : (r : Route) → Inner r → is_low n a r ≡ true → Within w n a r
      half r i e =
          let lt : r.addr < a + 2 ^ n = ltb-true r.addr (a + 2 ^ n) e in
          let k : w - r.len ≤ n = omega (arith, i.0.short) in
          record {
            low = i.0.low;
            high = next-block (w - r.len) r.addr (a + 2 ^ n) i.0.aligned (aligned_down (w - r.len) n (a + 2 ^ n) k (aligned-right n a d)) lt;
            deep = omega arith;
            short = i.0.short;
            aligned = i.0.aligned;
          }

  pub right : All (Within w n (a + 2 ^ n)) (rights w n a t)
  right = all_rest (is_low n a) half below-inner
    where
      half : (r : Route) → Inner r → is_low n a r ≡ false → Within w n (a + 2 ^ n) r
      half r i e =
          record {
            low = ltb-false r.addr (a + 2 ^ n) e;
            high = omega (arith, i.0.high, pow-suc 2 n);
            deep = omega arith;
            short = i.0.short;
            aligned = i.0.aligned;
          }

  module _ (f : ℕ → Answer) (g : Answer) (sem : (x : ℕ) → In (suc n) a x → under g (lookup w t x) ≡ f x) where
    pub below_sem : (x : ℕ) → In (suc n) a x → under (handed w n a g t) (lookup w (below w n t) x) ≡ f x
    below_sem x i =
        ap (λ (m : Match). under (under g m) (lookup w (below w n t) x))
        (lookup_alike w a x (all_part (of_len (w - suc n)) (λ r p e. top_match a (omega (arith, pow_pos (suc n))) r p e ∙ sym (top_match x i r p e)) tw))
        ∙ sym (under-longer (w - suc n) g (lookup w (tops w n t) x) (lookup w (below w n t) x) (lookup_shallow w (w - suc n) x (part-len lens))
        (lookup-deep w (suc n) a x (all_map (λ r p. p.0) below-inner)))
        ∙ ap (under g) (sym (lookup_lens w x (w - suc n) lens))
        ∙ sem x i

    pub left_sem : (x : ℕ) → In n a x → under (handed w n a g t) (lookup w (lefts w n a t) x) ≡ f x
    left_sem x i =
        ap (under (handed w n a g t)) (sym (lookup-part w x (is_low n a) (below w n t) (lookup_outside w n (a + 2 ^ n) x right (λ j. omega arith))))
        ∙ below_sem x (in_left n a x i)

    pub right_sem : (x : ℕ) → In n (a + 2 ^ n) x → under (handed w n a g t) (lookup w (rights w n a t) x) ≡ f x
    right_sem x i =
        ap (under (handed w n a g t)) (sym (lookup_rest w x (is_low n a) (below w n t) (lookup_outside w n a x left (λ j. omega arith))))
        ∙ below_sem x (in_right n a x i)
