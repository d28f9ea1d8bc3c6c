-- Where words and sets meet: a word shows one set and a set is shown by one word, and what each operation on words does to the sets they show.
use Prim.Native.Nat.{ℕ, zero, suc, ◌+◌, ◌*◌, ◌/◌, ◌%◌, ◌^◌, ◌≤◌, ◌<◌}
use mathlib.Core.Path.{◌≡◌, refl, sym, ap, subst, ◌∙◌}
use mathlib.Core.Bool.{Bool, true, false, true≢false, cond, ◌||◌}
use mathlib.Core.List.{List, [], ◌∷◌}
use mathlib.Core.Logic.{◌↔◌, ⊎_elim}
use native.Mathlib.Nat.{mod-lt}
use native.Mathlib.Omega.{arith}
use lib.Bits.{bit_and, bit_or, and_self, and_lt, or_lt}
use lib.Count.{count_trailing_zeros}
use lib.Dec.{eqb}
use lib.Pow.{pow_pos}
use borrow.Author.Tests.{ne_eqb, lt-ltb}
use Rattle.theory.specs.Shapes.{Some}
use Rattle.theory.specs.Routes.{Answer, none, via}
use Rattle.theory.specs.Results.{In, has, union, common, Cand, hole, of, leaf, combine, sets, smallest, allowed, assigned}
use Rattle.theory.proofs.Blocks.{in_left, in_right}
use Rattle.theory.proofs.Hops.{has-union, has-common, some-union, or_cases, and_left}
use Rattle.theory.proofs.Chosen.{sorted-union, sorted-common, sorted_unique, smallest_chooses, smallest_least}
use Rattle.theory.proofs.Preserve.{has_one}
use Rattle.words.specs.Bits.{bit}
use Rattle.words.proofs.BitLaws.{bit-zero, bit-and, bit-or, bit_one, same_bits, trailing_lowest, if_lt, if_eq}
use Rattle.positions.specs.Runs.{no_hop, hop_of}
use Rattle.hops.specs.Sets.{ShowsHops, ShowsSet}

-- ---- one word for a set, one set for a word

-- From 64 on no hop is in a set that a word shows.
past : (x : ℕ) (s : List ℕ) → ShowsHops x s → (h : ℕ) → 64 ≤ h → has h s ≡ false
past x s p h l = go (has h s) refl
  where
    go : (b : Bool) → has h s ≡ b → has h s ≡ false
    go true e = let lt : h < 64 = p.low h e in absurd (omega arith)
    go false e = e

-- Two words that show the same hops are equal.
pub hops_unique_word : (x y : ℕ) (s : List ℕ) → ShowsHops x s → ShowsHops y s → x ≡ y
hops_unique_word x y s p q = same_bits 64 p.small q.small (λ h l. p.bits h l ∙ sym (q.bits h l))

-- A word shows one list of hops.
pub hops_unique_list : (x : ℕ) (s t : List ℕ) → ShowsHops x s → ShowsHops x t → s ≡ t
hops_unique_list x s t p q = sorted_unique s t p.sorted q.sorted
    (λ h. if_lt (λ _. has h s ≡ has h t) h 64 (λ l. sym (p.bits h l) ∙ q.bits h l) (λ l. past x s p h l ∙ sym (past x t q h l)))

-- The word 0 shows no hops.
pub shows_none : ShowsHops 0 []
shows_none = record { sorted = tt; low = λ h e. absurd (true≢false (sym e)); small = pow_pos 64; bits = λ h l. bit-zero h }

-- A word is 0 exactly where it shows no hops.
pub zero-shows_none : (x : ℕ) (s : List ℕ) → ShowsHops x s → (x ≡ 0) ↔ (s ≡ [])
zero-shows_none x s p = (
  λ e. hops_unique_list x s [] p (subst (λ (y : ℕ). ShowsHops y []) (sym e) shows_none),
  λ e. hops_unique_word x 0 s p (subst (λ (t : List ℕ). ShowsHops 0 t) (sym e) shows_none),
)

-- So a set that is not empty is shown by no 0.
pub some_not_zero : (x : ℕ) (s : List ℕ) → ShowsHops x s → Some s → x ≡ 0 → ⊥
some_not_zero x s p m e = subst Some ((zero-shows_none x s p).0 e) m

-- Two words that show the same candidates are equal.
pub shows_unique_word : (x y : ℕ) (S : Cand) → ShowsSet x S → ShowsSet y S → x ≡ y
shows_unique_word x y hole p q = p ∙ sym q
shows_unique_word x y (of s) p q = hops_unique_word x y s p.0 q.0

-- A word shows one set of candidates.
pub shows_unique_set : (x : ℕ) (S R : Cand) → ShowsSet x S → ShowsSet x R → S ≡ R
shows_unique_set x hole hole p q = refl
shows_unique_set x hole (of t) p q = absurd (some_not_zero x t q.0 q.1 p)
shows_unique_set x (of s) hole p q = absurd (some_not_zero x s p.0 p.1 q)
shows_unique_set x (of s) (of t) p q = ap of (hops_unique_list x s t p.0 q.0)

-- So words are equal exactly where the sets that they show are.
pub same_word_same_set : (x y : ℕ) (S R : Cand) → ShowsSet x S → ShowsSet y R → (x ≡ y) ↔ (S ≡ R)
same_word_same_set x y S R p q = (
  λ e. shows_unique_set x S R p (subst (λ (z : ℕ). ShowsSet z R) (sym e) q),
  λ e. shows_unique_word x y S p (subst (ShowsSet y) (sym e) q),
)

-- Only a hole is shown by 0.
pub zero-shows-hole : (x : ℕ) (S : Cand) → ShowsSet x S → x ≡ 0 → S ≡ hole
zero-shows-hole x S p e = shows_unique_set x S hole p e

-- A word that shows candidates has 64 bits.
pub shows-small : (x : ℕ) (S : Cand) → ShowsSet x S → x < 2 ^ 64
shows-small x hole p = subst (λ (y : ℕ). y < 2 ^ 64) (sym p) (pow_pos 64)
shows-small x (of s) p = p.0.small

-- ---- the operations

-- `1 << h` shows the hop h alone.
pub shows_one : (h : ℕ) → h < 64 → ShowsHops (1 * 2 ^ h % 2 ^ 64) (h ∷ [])
shows_one h l = record {
  sorted = (tt, tt);
  low = λ k e. let same : k ≡ h = has_one k h e in omega arith;
  small = mod-lt (1 * 2 ^ h) (pow_pos 64);
  bits = λ k m. bit_one 64 h k l m ∙ or-false (eqb k h);
}
  where
    or-false : (b : Bool) → b ≡ (b || false)
    or-false true = refl
    or-false false = refl

-- What a hop of the code says is shown by some word.
pub hop-shown : (h : ℕ) → (x : ℕ) × ShowsSet x (leaf (hop_of h))
hop-shown h =
    if_lt (λ t. (x : ℕ) × ShowsSet x (leaf (cond t (via h) none))) h no_hop (λ lt. (1 * 2 ^ h % 2 ^ 64, (shows_one h lt, tt))) (λ le. (0, refl))

module _ (x y : ℕ) (s t : List ℕ) (p : ShowsHops x s) (q : ShowsHops y t) where
  -- `x & y` shows the hops of both.
  pub shows-common : ShowsHops (bit_and x y) (common s t)
  shows-common = record {
    sorted = sorted-common s t p.sorted;
    low = λ h e. p.low h (and_left (has h s) (has h t) (sym (has-common h s t) ∙ e));
    small = and_lt 64 x y p.small q.small;
    bits = λ h l. bit-and x y h ∙ rw (p.bits h l, q.bits h l) (sym (has-common h s t));
  }

  -- `x | y` shows the hops of either.
  pub shows-union : ShowsHops (bit_or x y) (union s t)
  shows-union = record {
    sorted = sorted-union s t q.sorted;
    low = λ h e. ⊎_elim (p.low h) (q.low h) (or_cases (has h s) (has h t) (sym (has-union h s t) ∙ e));
    small = or_lt 64 x y p.small q.small;
    bits = λ h l. bit-or x y h ∙ rw (p.bits h l, q.bits h l) (sym (has-union h s t));
  }

-- `(x >> h) % 2 == 1` asks whether h is among the hops.
pub shows-has : (x : ℕ) (s : List ℕ) → ShowsHops x s → (h : ℕ) → h < 64 → eqb (x / 2 ^ h % 2) 1 ≡ has h s
unfolding bit
shows-has x s p h l = p.bits h l

-- The lowest set bit is a hop of the set, and no hop is below it.
pub shows_least : (x : ℕ) (s : List ℕ) → ShowsHops x s → 0 < x
    → (has (count_trailing_zeros 64 x) s ≡ true) × ((h : ℕ) → has h s ≡ true → count_trailing_zeros 64 x ≤ h)
shows_least x s p l =
    let t = count_trailing_zeros 64 x in
    let lowest = trailing_lowest 64 x l p.small in (
      sym (p.bits t lowest.inside) ∙ lowest.is_set,
      λ h e. if_lt (λ _. t ≤ h) h t (λ m. absurd (true≢false (sym (p.bits h (p.low h e) ∙ e) ∙ lowest.clear h m))) (λ m. m),
    )

-- So it is the smallest, the first of the list.
pub shows-smallest : (x : ℕ) (s : List ℕ) → ShowsHops x s → 0 < x → count_trailing_zeros 64 x ≡ smallest s
shows-smallest x [] p l = let z : x ≡ 0 = (zero-shows_none x [] p).1 refl in absurd (omega arith)
shows-smallest x (k ∷ s) p l =
    let least = shows_least x (k ∷ s) p l in
    let above : k ≤ count_trailing_zeros 64 x = smallest_least (k ∷ s) p.sorted (count_trailing_zeros 64 x) least.0 in
    omega (arith, least.1 k (smallest_chooses k s))

-- ---- a position's candidates

-- The word of a position's candidates from those of its halves: 0 where one is 0; else what both have, or, if that is nothing, what either has.
unfoldable pub combine_words : ℕ → ℕ → ℕ
combine_words x y = cond (eqb x 0) 0 (cond (eqb y 0) 0 (cond (eqb (bit_and x y) 0) (bit_or x y) (bit_and x y)))

-- It shows the combined candidates.
pub shows-combine : (x y : ℕ) (S R : Cand) → ShowsSet x S → ShowsSet y R → ShowsSet (combine_words x y) (combine S R)
unfolding combine_words
shows-combine x y hole R p q = rw p
shows-combine x y (of s) hole p q = if_eq (λ b. cond b 0 (cond (eqb y 0) 0 (cond (eqb (bit_and x y) 0) (bit_or x y) (bit_and x y))) ≡ 0) x 0
    (λ e. refl) (λ e. rw q)
shows-combine x y (of s) (of t) p q =
    rw (ne_eqb x 0 (some_not_zero x s p.0 p.1), ne_eqb y 0 (some_not_zero y t q.0 q.1))
    (if_eq (λ b. ShowsSet (cond b (bit_or x y) (bit_and x y)) (combine (of s) (of t))) (bit_and x y) 0 apart (meet (common s t) refl))
  where
    both : ShowsHops (bit_and x y) (common s t)
    both = shows-common x y s t p.0 q.0

    apart : bit_and x y ≡ 0 → ShowsSet (bit_or x y) (combine (of s) (of t))
    apart e = rw ((zero-shows_none (bit_and x y) (common s t) both).0 e) (shows-union x y s t p.0 q.0, some-union s t p.1)

    meet : (c : List ℕ) → common s t ≡ c → (bit_and x y ≡ 0 → ⊥) → ShowsSet (bit_and x y) (combine (of s) (of t))
    meet [] e m = absurd (m ((zero-shows_none (bit_and x y) (common s t) both).1 e))
    meet (h ∷ c) e m = rw e (rw e at both, tt)

-- Where both halves are shown by one word, it shows what they come to together.
pub same_halves : (x : ℕ) (S R : Cand) → ShowsSet x S → ShowsSet x R → ShowsSet x (combine S R)
unfolding combine_words
same_halves x S R p q = subst (λ (y : ℕ). ShowsSet y (combine S R)) same (shows-combine x x S R p q)
  where
    same : combine_words x x ≡ x
    same =
        if_eq (λ t. cond t 0 (cond t 0 (cond (eqb (bit_and x x) 0) (bit_or x x) (bit_and x x))) ≡ x) x 0
        (λ e. sym e) (λ e. rw (and_self x, ne_eqb x 0 e))

-- Every position's candidates are shown by a word, where its hops are below 64.
pub sets-shown : (f : ℕ → Answer) (n a : ℕ) → ((x : ℕ) → In n a x → (h : ℕ) → f x ≡ via h → h < 64) → (x : ℕ) × ShowsSet x (sets f n a)
unfolding sets
sets-shown f zero a low = go (f a) refl
  where
    go : (v : Answer) → f a ≡ v → (x : ℕ) × ShowsSet x (leaf v)
    go none e = (0, refl)
    go (via h) e = (1 * 2 ^ h % 2 ^ 64, (shows_one h (low a (omega arith) h e), tt))
sets-shown f (suc n) a low =
    let left = sets-shown f n a (λ x i. low x (in_left n a x i)) in
    let right = sets-shown f n (a + 2 ^ n) (λ x i. low x (in_right n a x i)) in
    (combine_words left.0 right.0, shows-combine left.0 right.0 (sets f n a) (sets f n (a + 2 ^ n)) left.1 right.1)

-- ---- What a position is assigned.
module _ (choose : List ℕ → ℕ) (x : ℕ) (v : Answer) where
  -- Where the set has the hop above, that stays.
  pub kept : (S : Cand) → ShowsSet x S → (x ≡ 0 → ⊥) → ((s : List ℕ) → ShowsHops x s → true ≡ allowed v s) → v ≡ assigned choose S v
  kept hole p n e = absurd (n p)
  kept (of s) p n e = rw (← e s p.0)

  -- Where it has not, one is chosen.
  pub chosen : (r : ℕ) → r < no_hop → (S : Cand) → ShowsSet x S → (x ≡ 0 → ⊥) → ((s : List ℕ) → ShowsHops x s → false ≡ allowed v s)
      → ((s : List ℕ) → ShowsHops x s → r ≡ choose s) → hop_of r ≡ assigned choose S v
  chosen r lt hole p n e m = absurd (n p)
  chosen r lt (of s) p n e m = rw (lt-ltb r no_hop lt, ← e s p.0) (ap via (m s p.0))
