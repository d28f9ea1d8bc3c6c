-- What the marks of a class say: the greater word has the longest length that has a hop, so it tells whether the class's answer is an old or a new one.
-- Assumes nothing.
use Prim.Native.Nat.{ℕ, zero, suc, ◌+◌, ◌-◌, ◌*◌, ◌/◌, ◌%◌, ◌^◌, ◌≤◌, ◌<◌}
use mathlib.Core.Path.{◌≡◌, refl, sym, ap, ap₂, ◌∙◌}
use mathlib.Core.Bool.{Bool, true, false, cond, not, ◌||◌, ◌&&◌, true≢false}
use mathlib.Core.List.{List}
use mathlib.Core.Logic.{◌⊎◌, inl, inr}
use native.Mathlib.Decide.{dec_lt}
use native.Mathlib.Nat.{eq-or-lt_of_le, mod-lt}
use native.Mathlib.Omega.{arith}
use lib.Bits.{and_lt, or_lt}
use lib.Dec.{eqb, ltb}
use lib.ListN.{get_or}
use borrow.Author.Tests.{eqb-true, eqb-false, eq-eqb, ne_eqb, lt-ltb, le-ltb, ltb-true, ltb-false}
use Rattle.theory.specs.Routes.{Answer, none, via}
use Rattle.theory.proofs.Blocks.{pow_pos}
use Rattle.words.specs.Bits.{bit}
use Rattle.words.proofs.BitLaws.{bit-and, bit-or, bit_not, bit_one, bit-over, bit-zero, top-clear}
use Rattle.positions.specs.Runs.{no_hop, or_else}
use Rattle.steps.specs.Views.{best}
use Rattle.rungs.specs.Rungs.{number_of}
use Rattle.rungs.proofs.Rows.{Small}
use Rattle.checking.specs.declared.marks.Marks.{Marks}
use Rattle.checking.specs.Marks.{alone_of, fine_of, is_fine, mark_of, cleared_of, set_to, marked_of, bare_of, marks_upto}

-- ---- One bit of a word.

mark-small : (l : ℕ) → mark_of l < 2 ^ 64
mark-small l = mod-lt (1 * 2 ^ (l + 1)) (pow_pos 64)

cleared_small : (m l : ℕ) → m < 2 ^ 64 → cleared_of m l < 2 ^ 64
cleared_small m l small = and_lt 64 m ((2 ^ 64 - 1) - mark_of l) small (omega arith)

set-small : (m l : ℕ) (on : Bool) → m < 2 ^ 64 → set_to m l on < 2 ^ 64
set-small m l true small = or_lt 64 (cleared_of m l) (mark_of l) (cleared_small m l small) (mark-small l)
set-small m l false small = cleared_small m l small

cleared_bit : (m l i : ℕ) → l ≤ 32 → i < 64 → bit (cleared_of m l) i ≡ (bit m i && not (eqb i (l + 1)))
cleared_bit m l i le lt =
    bit-and m ((2 ^ 64 - 1) - mark_of l) i
    ∙ ap (λ (b : Bool). bit m i && b) (bit_not 64 (mark_of l) i (mark-small l) lt ∙ ap not (bit_one 64 (l + 1) i (omega arith) lt))

-- The bit of the length is as it is set, and the others are as they were.
set-bit : (m l i : ℕ) (on : Bool) → l ≤ 32 → i < 64 → bit (set_to m l on) i ≡ cond (eqb i (l + 1)) on (bit m i)
set-bit m l i true le lt =
    bit-or (cleared_of m l) (mark_of l) i ∙ ap₂ ◌||◌ (cleared_bit m l i le lt) (bit_one 64 (l + 1) i (omega arith) lt) ∙ go (bit m i) (eqb i (l + 1))
  where
    go : (a b : Bool) → ((a && not b) || b) ≡ cond b true a
    go true true = refl
    go true false = refl
    go false true = refl
    go false false = refl
set-bit m l i false le lt = cleared_bit m l i le lt ∙ go (bit m i) (eqb i (l + 1))
  where
    go : (a b : Bool) → (a && not b) ≡ cond b false a
    go true true = refl
    go true false = refl
    go false true = refl
    go false false = refl

-- A word without bits from k on is below 2 ^ k, and one with bit k is not.
below : (n k x : ℕ) → k ≤ n → x < 2 ^ n → ((i : ℕ) → k ≤ i → i < n → bit x i ≡ false) → x < 2 ^ k
below zero k x le lt clear = let e : zero ≡ k = omega arith in rw (sym e) lt
below (suc n) k x le lt clear = go (eq-or-lt_of_le le) (λ j q. below n k x j q (λ i a b. clear i a (omega arith)))
  where
    go : (k ≡ suc n) ⊎ (k < suc n) → (k ≤ n → x < 2 ^ n → x < 2 ^ k) → x < 2 ^ k
    go (inl e) ih = rw e lt
    go (inr h) ih = ih (omega arith) (top-clear n x lt (clear n (omega arith) (omega arith)))

least : (k x : ℕ) → bit x k ≡ true → 2 ^ k ≤ x
least k x e = go (dec_lt x (2 ^ k))
  where
    go : Dec (x < 2 ^ k) → 2 ^ k ≤ x
    go (yes lt) = absurd (true≢false (sym e ∙ bit-over k x k lt (omega arith)))
    go (no ge) = omega arith

-- ---- A set of two answers' hops.

alone_bit : (h i : ℕ) → i < 64 → bit (alone_of h) i ≡ eqb i h
alone_bit h i lt = go (ltb h no_hop) refl
  where
    go : (b : Bool) → ltb h no_hop ≡ b → bit (cond b (1 * 2 ^ h % 2 ^ 64) 0) i ≡ eqb i h
    go true e = bit_one 64 h i (ltb-true h no_hop e) lt
    go false e = bit-zero i ∙ sym (ne_eqb i h (λ q. let g = ltb-false h no_hop e in omega arith))

-- A number that is a hop is in the set exactly if it is one of the two.
pub fine_hop : (was goal h : ℕ) → h < no_hop → is_fine (fine_of was goal) h ≡ (eqb h was || eqb h goal)
unfolding bit
fine_hop was goal h lt =
    ap (λ (b : Bool). cond b (eqb (fine_of was goal / 2 ^ h % 2) 1) false) (lt-ltb h no_hop lt)
    ∙ bit-or (alone_of was) (alone_of goal) h ∙ ap₂ ◌||◌ (alone_bit was h lt) (alone_bit goal h lt)

-- ---- The marks of a class.

-- The marks m are those of the answers f at the lengths up to d, where was and goal are the numbers of the old and the new answer.
pub record Marked (was goal : ℕ) (f : ℕ → Answer) (d : ℕ) (m : Marks) : Type 0 where
  pub fair_small : m.fair < 2 ^ 64
  pub foul_small : m.foul < 2 ^ 64
  pub fair_none : bit m.fair 0 ≡ (eqb was no_hop || eqb goal no_hop)
  pub foul_none : bit m.foul 0 ≡ not (eqb was no_hop || eqb goal no_hop)
  pub fair_at : (l : ℕ) → l ≤ d → bit m.fair (suc l) ≡ is_fine (fine_of was goal) (number_of (f l))
  pub foul_at : (l : ℕ) → l ≤ d → bit m.foul (suc l) ≡ (ltb (number_of (f l)) no_hop && not (is_fine (fine_of was goal) (number_of (f l))))
  pub fair_above : (i : ℕ) → suc d < i → i < 64 → bit m.fair i ≡ false
  pub foul_above : (i : ℕ) → suc d < i → i < 64 → bit m.foul i ≡ false

module _ {was goal : ℕ} {f : ℕ → Answer} {d : ℕ} {m : Marks} (le : d ≤ 32) (small : (l : ℕ) → l ≤ d → Small (f l)) (z : Marked was goal f d m) where
  -- The word with bit k, where the other has none from k on, is the greater one.
  above : (x y k : ℕ) → k < 64 → y < 2 ^ 64 → bit x k ≡ true → ((i : ℕ) → k ≤ i → i < 64 → bit y i ≡ false) → y < x
  above x y k lt fits e clear = omega (arith, below 64 k y (omega arith) fits clear, least k x e)

  none_fair : (l : ℕ) → l ≤ d → f l ≡ none → bit m.fair (suc l) ≡ false
  none_fair l h e = z.fair_at l h ∙ ap (λ (v : Answer). is_fine (fine_of was goal) (number_of v)) e

  none_foul : (l : ℕ) → l ≤ d → f l ≡ none → bit m.foul (suc l) ≡ false
  none_foul l h e = z.foul_at l h ∙ ap (λ (v : Answer). ltb (number_of v) no_hop && not (is_fine (fine_of was goal) (number_of v))) e

  -- From bit suc l on, where the lengths above l have no answer and that of l is not in the word.
  clear_fair : (k : ℕ) → bit m.fair k ≡ false → ((l : ℕ) → k ≤ l → l ≤ d → f l ≡ none) → (i : ℕ) → k ≤ i → i < 64 → bit m.fair i ≡ false
  clear_fair k e bare i ge lt = go (eq-or-lt_of_le ge)
    where
      go : (k ≡ i) ⊎ (k < i) → bit m.fair i ≡ false
      go (inl q) = ap (bit m.fair) (sym q) ∙ e
      go (inr h) = pick (dec_lt (suc d) i)
        where
          pick : Dec (suc d < i) → bit m.fair i ≡ false
          pick (yes g) = z.fair_above i g lt
          pick (no g) = let q : i ≡ suc (i - 1) = omega arith in ap (bit m.fair) q ∙ none_fair (i - 1) (omega arith) (bare (i - 1) (omega arith) (omega arith))

  clear_foul : (k : ℕ) → bit m.foul k ≡ false → ((l : ℕ) → k ≤ l → l ≤ d → f l ≡ none) → (i : ℕ) → k ≤ i → i < 64 → bit m.foul i ≡ false
  clear_foul k e bare i ge lt = go (eq-or-lt_of_le ge)
    where
      go : (k ≡ i) ⊎ (k < i) → bit m.foul i ≡ false
      go (inl q) = ap (bit m.foul) (sym q) ∙ e
      go (inr h) = pick (dec_lt (suc d) i)
        where
          pick : Dec (suc d < i) → bit m.foul i ≡ false
          pick (yes g) = z.foul_above i g lt
          pick (no g) = let q : i ≡ suc (i - 1) = omega arith in ap (bit m.foul) q ∙ none_foul (i - 1) (omega arith) (bare (i - 1) (omega arith) (omega arith))

  -- The word that the best answer is in, by the first bit that one of the words has: bit k, whose fairness is b.
  decided : (k : ℕ) (b : Bool) → k < 64 → bit m.fair k ≡ b → bit m.foul k ≡ not b → ((l : ℕ) → k ≤ l → l ≤ d → f l ≡ none)
      → ltb m.fair m.foul ≡ not b
  decided k true lt e g bare =
      le-ltb m.fair m.foul (let h = above m.fair m.foul k lt z.foul_small e (clear_foul k g bare) in omega arith)
  decided k false lt e g bare = lt-ltb m.fair m.foul (above m.foul m.fair k lt z.fair_small g (clear_fair k e bare))

  flip : (a b : ℕ) → eqb a b ≡ eqb b a
  flip a b = go (eqb a b) refl
    where
      go : (c : Bool) → eqb a b ≡ c → c ≡ eqb b a
      go true e = sym (eq-eqb b a (sym (eqb-true a b e)))
      go false e = sym (ne_eqb b a (λ q. eqb-false a b e (sym q)))

  -- The answer at length n is a hop, and none is above it.
  one : (n i : ℕ) → n ≤ d → ((l : ℕ) → n < l → l ≤ d → f l ≡ none) → f n ≡ via i → ltb m.fair m.foul ≡ not (eqb i was || eqb i goal)
  one n i h bare e =
      let s : i < no_hop = rw e at (small n h) in
      let q : number_of (f n) ≡ i = ap number_of e in
      decided (suc n) (eqb i was || eqb i goal) (omega arith) (z.fair_at n h ∙ ap (is_fine (fine_of was goal)) q ∙ fine_hop was goal i s)
      (z.foul_at n h ∙ ap₂ ◌&&◌ (ap (λ (k : ℕ). ltb k no_hop) q ∙ lt-ltb i no_hop s) (ap not (ap (is_fine (fine_of was goal)) q ∙ fine_hop was goal i s)))
      (λ l ge up. bare l (omega arith) up)

  -- The answer is that of the greatest length with one.
  found : (n : ℕ) → n ≤ d → ((l : ℕ) → n < l → l ≤ d → f l ≡ none) → ltb m.fair m.foul ≡ not (eqb (number_of (best f n)) was || eqb (number_of (best f n)) goal)
  found zero h bare = go (f zero) refl
    where
      go : (v : Answer) → f zero ≡ v → ltb m.fair m.foul ≡ not (eqb (number_of (f zero)) was || eqb (number_of (f zero)) goal)
      go none e =
          decided 0 (eqb was no_hop || eqb goal no_hop) (omega arith) z.fair_none z.foul_none (λ l ge up. all l up (dec_lt 0 l))
          ∙ ap not (ap₂ ◌||◌ (flip was no_hop) (flip goal no_hop)) ∙ sym (ap (λ (v : Answer). not (eqb (number_of v) was || eqb (number_of v) goal)) e)
        where
          all : (l : ℕ) → l ≤ d → Dec (0 < l) → f l ≡ none
          all l up (yes p) = bare l p up
          all l up (no p) = let i : l ≡ 0 = omega arith in ap f i ∙ e
      go (via i) e = one zero i h bare e ∙ sym (ap (λ (v : Answer). not (eqb (number_of v) was || eqb (number_of v) goal)) e)
  found (suc n) h bare = go (f (suc n)) refl (found n (omega arith))
    where
      go : (v : Answer) → f (suc n) ≡ v
          → (((l : ℕ) → n < l → l ≤ d → f l ≡ none) → ltb m.fair m.foul ≡ not (eqb (number_of (best f n)) was || eqb (number_of (best f n)) goal))
          → ltb m.fair m.foul ≡ not (eqb (number_of (or_else (f (suc n)) (best f n))) was || eqb (number_of (or_else (f (suc n)) (best f n))) goal)
      go none e ih =
          ih (λ l lt up. more l up lt (dec_lt (suc n) l))
          ∙ sym (ap (λ (v : Answer). not (eqb (number_of (or_else v (best f n))) was || eqb (number_of (or_else v (best f n))) goal)) e)
        where
          more : (l : ℕ) → l ≤ d → n < l → Dec (suc n < l) → f l ≡ none
          more l up lt (yes p) = bare l p up
          more l up lt (no p) = let i : l ≡ suc n = omega arith in ap f i ∙ e
      go (via i) e ih =
          one (suc n) i h bare e ∙ sym (ap (λ (v : Answer). not (eqb (number_of (or_else v (best f n))) was || eqb (number_of (or_else v (best f n))) goal)) e)

  -- The marks are worse exactly if the best answer is neither.
  pub worse_is : ltb m.fair m.foul ≡ not (eqb (number_of (best f d)) was || eqb (number_of (best f d)) goal)
  worse_is = found d (omega arith) (λ l lt up. absurd (omega arith))

-- ---- Marks as they are made.

-- They are of the answers at the lengths up to d alone.
pub marked_alike : {was goal d : ℕ} {f g : ℕ → Answer} {m : Marks} → Marked was goal f d m → ((l : ℕ) → l ≤ d → g l ≡ f l) → Marked was goal g d m
marked_alike {was} {goal} z alike =
    record {
      fair_small = z.fair_small;
      foul_small = z.foul_small;
      fair_none = z.fair_none;
      foul_none = z.foul_none;
      fair_at = λ l h. z.fair_at l h ∙ ap (λ (v : Answer). is_fine (fine_of was goal) (number_of v)) (sym (alike l h));
      foul_at = λ l h. z.foul_at l h ∙ ap (λ (v : Answer). ltb (number_of v) no_hop && not (is_fine (fine_of was goal) (number_of v))) (sym (alike l h));
      fair_above = z.fair_above;
      foul_above = z.foul_above;
    }

-- A length up to d is given another answer.
pub marked_next : {was goal d : ℕ} {f g : ℕ → Answer} {m : Marks} → d ≤ 32 → Marked was goal f d m → (k hop : ℕ) → k ≤ d → hop ≡ number_of (g k)
    → ((l : ℕ) → (l ≡ k → ⊥) → g l ≡ f l) → Marked was goal g d (marked_of (fine_of was goal) m k hop)
marked_next {was} {goal} {d} {f} {g} {m} le z k hop in-d e others =
    record {
      fair_small = set-small m.fair k (is_fine fine hop) z.fair_small;
      foul_small = set-small m.foul k (ltb hop no_hop && not (is_fine fine hop)) z.foul_small;
      fair_none = other m.fair (is_fine fine hop) 0 (omega arith) (λ q. omega arith) ∙ z.fair_none;
      foul_none = other m.foul (ltb hop no_hop && not (is_fine fine hop)) 0 (omega arith) (λ q. omega arith) ∙ z.foul_none;
      fair_at = λ l h. at m.fair (is_fine fine) l h (z.fair_at l h) (eqb l k) refl;
      foul_at = λ l h. at m.foul (λ v. ltb v no_hop && not (is_fine fine v)) l h (z.foul_at l h) (eqb l k) refl;
      fair_above = λ i gt lt. other m.fair (is_fine fine hop) i lt (λ q. omega arith) ∙ z.fair_above i gt lt;
      foul_above = λ i gt lt. other m.foul (ltb hop no_hop && not (is_fine fine hop)) i lt (λ q. omega arith) ∙ z.foul_above i gt lt;
    }
  where
    fine : ℕ
    fine = fine_of was goal

    other : (x : ℕ) (on : Bool) (i : ℕ) → i < 64 → (i ≡ k + 1 → ⊥) → bit (set_to x k on) i ≡ bit x i
    other x on i lt n = set-bit x k i on (omega arith) lt ∙ ap (λ (c : Bool). cond c on (bit x i)) (ne_eqb i (k + 1) n)

    at : (x : ℕ) (test : ℕ → Bool) (l : ℕ) → l ≤ d → bit x (suc l) ≡ test (number_of (f l)) → (b : Bool) → eqb l k ≡ b
        → bit (set_to x k (test hop)) (suc l) ≡ test (number_of (g l))
    at x test l h q true c =
        let i = eqb-true l k c in
        set-bit x k (suc l) (test hop) (omega arith) (omega arith)
        ∙ ap (λ (t : Bool). cond t (test hop) (bit x (suc l))) (eq-eqb (suc l) (k + 1) (omega arith)) ∙ ap test e ∙ ap (λ (j : ℕ). test (number_of (g j))) (sym i)
    at x test l h q false c =
        let n = eqb-false l k c in
        other x (test hop) (suc l) (omega arith) (λ y. n (omega arith)) ∙ q ∙ ap (λ (v : Answer). test (number_of v)) (sym (others l n))

-- The answers at the lengths below k.
abbrev upto : ℕ → (ℕ → Answer) → ℕ → Answer
upto k f l = cond (ltb l k) (f l) none

one_bit : bit 1 0 ≡ true
unfolding bit
one_bit = refl

bare-marked : (was goal d : ℕ) → d ≤ 32 → Marked was goal (λ l. none) d (bare_of was goal)
bare-marked was goal d le = go (eqb was no_hop || eqb goal no_hop) refl
  where
    go : (b : Bool) → (eqb was no_hop || eqb goal no_hop) ≡ b → Marked was goal (λ l. none) d (record { fair = cond b 1 0; foul = cond b 0 1 })
    go true e =
        record {
          fair_small = omega arith;
          foul_small = omega arith;
          fair_none = one_bit ∙ sym e;
          foul_none = bit-zero 0 ∙ ap not (sym e);
          fair_at = λ l h. bit-over 1 1 (suc l) (omega arith) (omega arith);
          foul_at = λ l h. bit-zero (suc l);
          fair_above = λ i gt lt. bit-over 1 1 i (omega arith) (omega arith);
          foul_above = λ i gt lt. bit-zero i;
        }
    go false e =
        record {
          fair_small = omega arith;
          foul_small = omega arith;
          fair_none = bit-zero 0 ∙ sym e;
          foul_none = one_bit ∙ ap not (sym e);
          fair_at = λ l h. bit-zero (suc l);
          foul_at = λ l h. bit-over 1 1 (suc l) (omega arith) (omega arith);
          fair_above = λ i gt lt. bit-zero i;
          foul_above = λ i gt lt. bit-over 1 1 i (omega arith) (omega arith);
        }

-- The marks of a row.
pub row-marked : (was goal d : ℕ) (f : ℕ → Answer) (hops : List ℕ) → d ≤ 32 → ((l : ℕ) → l ≤ 32 → get_or hops l 0 ≡ number_of (f l))
    → Marked was goal f d (marks_upto was goal hops (suc d))
unfolding marks_upto
row-marked was goal d f hops le at =
    marked_alike (so_far (suc d) (omega arith)) (λ l h. sym (ap (λ (b : Bool). cond b (f l) none) (lt-ltb l (suc d) (omega arith))))
  where
    so_far : (k : ℕ) → k ≤ suc d → Marked was goal (upto k f) d (marks_upto was goal hops k)
    so_far zero h =
        marked_alike (bare-marked was goal d le) (λ l h. ap (λ (b : Bool). cond b (f l) none) (le-ltb l 0 (omega arith)))
    so_far (suc k) h =
        marked_next le (so_far k (omega arith)) k (get_or hops k 0) (omega arith) (at k (omega arith) ∙ ap number_of (sym (here k)))
        (λ l n. there l n (ltb l k) refl)
      where
        here : (k : ℕ) → upto (suc k) f k ≡ f k
        here k = ap (λ (b : Bool). cond b (f k) none) (lt-ltb k (suc k) (omega arith))

        there : (l : ℕ) → (l ≡ k → ⊥) → (b : Bool) → ltb l k ≡ b → upto (suc k) f l ≡ upto k f l
        there l n true e =
            let g = ltb-true l k e in
            ap (λ (b : Bool). cond b (f l) none) (lt-ltb l (suc k) (omega arith) ∙ sym e)
        there l n false e =
            let g = ltb-false l k e in
            ap (λ (b : Bool). cond b (f l) none) (le-ltb l (suc k) (apart g n) ∙ sym e)
          where
            apart : k ≤ l → (l ≡ k → ⊥) → suc k ≤ l
            apart g n = omega (arith, n)
