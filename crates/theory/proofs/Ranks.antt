-- The choice by rank: it is lawful whatever ranks are lent, the hop that it takes has the lowest rank of its set, and without ranks it is the
-- smallest. What a choice decides of a result, and what not: its hops, not how many routes it has. And what the test of ranks means.
use Prim.Native.Nat.{ℕ, zero, suc, ◌+◌, ◌-◌, ◌^◌, ◌≤◌, ◌<◌}
use mathlib.Core.Path.{◌≡◌, refl, sym, ap, ap₂, ◌∙◌}
use mathlib.Core.Bool.{Bool, true, false, true≢false, cond, not, ◌||◌, ◌&&◌, or-false}
use mathlib.Core.List.{List, [], ◌∷◌, ◌++◌}
use mathlib.Core.Logic.{◌↔◌, inl, inr, ⊎_elim}
use native.Mathlib.Nat.{le_refl, le_antisymm}
use native.Mathlib.Omega.{arith}
use lib.Dec.{eqb, ltb}
use lib.ListN.{length, get_or}
use borrow.Author.Tests.{eq-eqb, lt-ltb, le-ltb, eqb-true, ltb-true, ltb-false}
use Rattle.theory.specs.Ranks.{rank_of, better, best, lowest, RankedFirst, three_ranks, EachOnce, Ranking, differing, is_ranking}
use Rattle.theory.specs.Results.{has, insert, union, Cand, hole, of, sets, smallest, allowed, Chooses, assigned, here, ortc, whole, Mode, aggregate_set, aggregate_consistent_map, aggregate_map_drop, aggregate_map_fill, result}
use Rattle.theory.specs.Routes.{Route, Answer, none, answer, filled, All, nil, cons}
use Rattle.theory.specs.Shapes.{Above, Sorted}
use Rattle.theory.proofs.Blocks.{aligned-zero}
use Rattle.theory.proofs.Chosen.{SortedC, sets-sorted, sorted-union, above-has}
use Rattle.theory.proofs.Hops.{has-union, or_cases, and_left, some-chosen, Held, sets-held}
use Rattle.theory.proofs.Least.{least}
use Rattle.theory.proofs.Lists.{all_append, all_map}
use Rattle.theory.proofs.Order.{whole-valid, valid-within}
use Rattle.theory.proofs.Preserve.{back, answers}

-- ---- The hop of lowest rank.

-- What is second holds after either.
pub or_right : (p q : Bool) → q ≡ true → (p || q) ≡ true
or_right true q e = refl
or_right false q e = e

module _ (ranks : List ℕ) where
  -- The best of a hop and a list is one of them.
  best_in : (h : ℕ) (s : List ℕ) → has (best ranks h s) (h ∷ s) ≡ true
  unfolding best
  best_in h [] = rw (eq-eqb h h refl)
  best_in h (k ∷ s) = go (ltb (rank_of ranks k) (rank_of ranks h)) (best ranks (better ranks h k) s) (best_in (better ranks h k) s)
    where
      later : (p q r : Bool) → (p || r) ≡ true → (p || (q || r)) ≡ true
      later true q r e = refl
      later false true r e = refl
      later false false r e = e

      go : (b : Bool) (x : ℕ) → has x (cond b k h ∷ s) ≡ true → has x (h ∷ k ∷ s) ≡ true
      go true x e = or_right (eqb x h) (has x (k ∷ s)) e
      go false x e = later (eqb x h) (eqb x k) (has x s) e

  -- So it is a lawful choice, whatever the ranks.
  pub lowest_chooses : Chooses (lowest ranks)
  lowest_chooses h s = best_in h s

  -- The better of two hops has no higher rank than either,
  better_least : (h k : ℕ) → (rank_of ranks (better ranks h k) ≤ rank_of ranks h) × (rank_of ranks (better ranks h k) ≤ rank_of ranks k)
  better_least h k = go (ltb (rank_of ranks k) (rank_of ranks h)) refl
    where
      go : (b : Bool) → ltb (rank_of ranks k) (rank_of ranks h) ≡ b
          → (rank_of ranks (cond b k h) ≤ rank_of ranks h) × (rank_of ranks (cond b k h) ≤ rank_of ranks k)
      go true e = (omega (arith, ltb-true (rank_of ranks k) (rank_of ranks h) e), omega arith)
      go false e = (omega arith, ltb-false (rank_of ranks k) (rank_of ranks h) e)

  -- nor has the best of a hop and a list.
  best_least : (h : ℕ) (s : List ℕ)
      → (rank_of ranks (best ranks h s) ≤ rank_of ranks h) × ((k : ℕ) → has k s ≡ true → rank_of ranks (best ranks h s) ≤ rank_of ranks k)
  unfolding best
  best_least h [] = (omega arith, λ k e. absurd (true≢false (sym e)))
  best_least h (j ∷ s) =
      let own = better_least h j in
      let rest = best_least (better ranks h j) s in (
        omega (arith, own.0, rest.0),
        λ k e. ⊎_elim (λ q. rw (eqb-true k j q) (omega (arith, own.1, rest.0))) (rest.1 k) (or_cases (eqb k j) (has k s) e),
      )

  -- The hop chosen has the lowest rank of its set.
  pub lowest_least : (s : List ℕ) (k : ℕ) → has k s ≡ true → rank_of ranks (lowest ranks s) ≤ rank_of ranks k
  lowest_least [] k e = absurd (true≢false (sym e))
  lowest_least (h ∷ s) k e =
      let low = best_least h s in
      ⊎_elim (λ q. rw (eqb-true k h q) low.0) (low.1 k) (or_cases (eqb k h) (has k s) e)

-- Lists that rank every hop alike choose alike.
pub alike_lowest : (p q : List ℕ) → ((h : ℕ) → rank_of p h ≡ rank_of q h) → (s : List ℕ) → lowest p s ≡ lowest q s
unfolding best
alike_lowest p q e [] = refl
alike_lowest p q e (h ∷ s) = go h s
  where
    go : (h : ℕ) (s : List ℕ) → best p h s ≡ best q h s
    go h [] = refl
    go h (k ∷ s) = rw (e k, e h) (go (better q h k) s)

-- Without ranks the first hop of an ascending set is chosen, its smallest.
pub unranked_smallest : (s : List ℕ) → Sorted s → lowest [] s ≡ smallest s
unfolding best
unranked_smallest [] p = refl
unranked_smallest (h ∷ s) p = first h s p.0
  where
    first : (h : ℕ) (s : List ℕ) → Above h s → best [] h s ≡ h
    first h [] p = refl
    first h (k ∷ s) p = rw (le-ltb k h (omega arith)) (first h s p.1)

-- Within a list its numbers do not depend on what stands for those past it.
pub within_list : (xs : List ℕ) (h d e : ℕ) → h < length xs → get_or xs h d ≡ get_or xs h e
within_list [] h d e lt = absurd (omega arith)
within_list (x ∷ xs) zero d e lt = refl
within_list (x ∷ xs) (suc h) d e lt = within_list xs h d e (omega arith)

-- Past its end those do.
pub past_list : (xs : List ℕ) (h d : ℕ) → length xs ≤ h → get_or xs h d ≡ d
past_list [] h d le = refl
past_list (x ∷ xs) zero d le = absurd (omega arith)
past_list (x ∷ xs) (suc h) d le = past_list xs h d (omega arith)

-- Ranks that are the hop numbers choose as no ranks do.
pub numbered_unranked : (ranks : List ℕ) → ((h : ℕ) → h < length ranks → get_or ranks h 0 ≡ h) → (s : List ℕ) → lowest ranks s ≡ lowest [] s
numbered_unranked ranks own s = alike_lowest ranks [] (λ h. go h (ltb h (length ranks)) refl) s
  where
    go : (h : ℕ) (b : Bool) → ltb h (length ranks) ≡ b → rank_of ranks h ≡ h
    go h true e = let lt : h < length ranks = ltb-true h (length ranks) e in within_list ranks h h 0 lt ∙ own h lt
    go h false e = past_list ranks h h (ltb-false h (length ranks) e)

-- The worked case.
pub three_chosen : lowest three_ranks (0 ∷ 1 ∷ 2 ∷ []) ≡ 2
unfolding best
three_chosen = refl

-- ---- What a choice decides of a result.

module _ (c d : List ℕ → ℕ) (same : (s : List ℕ) → Sorted s → c s ≡ d s) (w : ℕ) where
  -- Choices that agree on ascending sets make the same rewrite,
  ortc_same : (f : ℕ → Answer) (n a : ℕ) (above : Answer) → ortc c w f n a above ≡ ortc d w f n a above
  unfolding ortc
  ortc_same f zero a above = here_same (sets f zero a) zero a above (sets-sorted f zero a)
    where
      here_same : (S : Cand) (n a : ℕ) (above : Answer) → SortedC S → here c w S n a above ≡ here d w S n a above
      here_same hole n a above p = refl
      here_same (of s) n a above p = rw (same s p)
  ortc_same f (suc n) a above = go (sets f (suc n) a) (sets-sorted f (suc n) a)
      (λ g. ortc_same f n a g) (λ g. ortc_same f n (a + 2 ^ n) g)
    where
      go : (S : Cand) → SortedC S
          → ((g : Answer) → ortc c w f n a g ≡ ortc d w f n a g) → ((g : Answer) → ortc c w f n (a + 2 ^ n) g ≡ ortc d w f n (a + 2 ^ n) g)
          → ◌≡◌ {A = List Route} (here c w S (suc n) a above ++ (ortc c w f n a (assigned c S above) ++ ortc c w f n (a + 2 ^ n) (assigned c S above)))
          (here d w S (suc n) a above ++ (ortc d w f n a (assigned d S above) ++ ortc d w f n (a + 2 ^ n) (assigned d S above)))
      go hole p left right = ap₂ ◌++◌ (left none) (right none)
      go (of s) p left right = rw (same s p, left (assigned d (of s) above), right (assigned d (of s) above))

  -- and the same result.
  pub result_same : (mode : Mode) (t : List Route) → result c w mode t ≡ result d w mode t
  unfolding result
  result_same aggregate_set t = refl
  result_same aggregate_consistent_map t = refl
  result_same aggregate_map_drop t = ortc_same (answer w t) w 0 none
  result_same (aggregate_map_fill x) t = ortc_same (filled x (answer w t)) w 0 none

-- So without ranks the result is that of the smallest hop.
pub unranked_result : (w : ℕ) (mode : Mode) (t : List Route) → result (lowest []) w mode t ≡ result smallest w mode t
unranked_result w mode t = result_same (lowest []) smallest unranked_smallest w mode t

-- Each route of a rewrite has, of the candidates of its prefix, the hop of lowest rank.
module _ (ranks : List ℕ) (w : ℕ) where
  module _ (f : ℕ → Answer) where
    here-first : (S : Cand) (n a : ℕ) (above : Answer) → n ≤ w → sets f n a ≡ S → Held f n a S
        → All (RankedFirst ranks w f) (here (lowest ranks) w S n a above)
    here-first hole n a above le e p = nil
    here-first (of s) n a above le e p = go (allowed above s)
      where
        go : (b : Bool) → All (RankedFirst ranks w f) (cond b [] (record { addr = a; len = w - n; hop = lowest ranks s } ∷ []))
        go true = nil
        go false =
            cons
            (record {
              candidates = s;
              are = ap (λ (k : ℕ). sets f k a) (back w n le) ∙ e;
              one = some-chosen (lowest ranks) (lowest_chooses ranks) s p.0;
              first = lowest_least ranks s;
            })
            nil

    ortc-first : (n a : ℕ) (above : Answer) → n ≤ w → All (RankedFirst ranks w f) (ortc (lowest ranks) w f n a above)
    unfolding ortc
    ortc-first zero a above le = here-first (sets f zero a) zero a above le refl (sets-held f zero a)
    ortc-first (suc n) a above le =
        let g : Answer = assigned (lowest ranks) (sets f (suc n) a) above in
        all_append (here-first (sets f (suc n) a) (suc n) a above le refl (sets-held f (suc n) a))
        (all_append (ortc-first n a g (omega arith)) (ortc-first n (a + 2 ^ n) g (omega arith)))

  -- So of modes 4 and 5.
  pub drop-first : (t : List Route) → All (RankedFirst ranks w (answer w t)) (result (lowest ranks) w aggregate_map_drop t)
  unfolding result
  drop-first t = ortc-first (answer w t) w 0 none (le_refl w)

  pub fill_first : (d : ℕ) (t : List Route) → All (RankedFirst ranks w (filled d (answer w t))) (result (lowest ranks) w (aggregate_map_fill d) t)
  unfolding result
  fill_first d t = ortc-first (filled d (answer w t)) w 0 none (le_refl w)

module _ (w : ℕ) where
  -- No rewrite is longer than that of another choice, which answers as it does.
  no_longer : (c d : List ℕ → ℕ) → Chooses c → Chooses d → (f : ℕ → Answer) → length (whole c w f) ≤ length (whole d w f)
  no_longer c d p q f =
      omega (
        arith,
        least c p w f w 0 none none (whole d w f) (le_refl w) (aligned-zero w) (all_map (valid-within w) (whole-valid d w f))
            (λ x i. answers d w q f x (omega arith)),
      )

  -- So how many routes a result has does not depend on the choice.
  pub result_count : (c d : List ℕ → ℕ) → Chooses c → Chooses d → (mode : Mode) (t : List Route) → length (result c w mode t) ≡ length (result d w mode t)
  unfolding result
  result_count c d p q aggregate_set t = refl
  result_count c d p q aggregate_consistent_map t = refl
  result_count c d p q aggregate_map_drop t = le_antisymm (no_longer c d p q (answer w t)) (no_longer d c q p (answer w t))
  result_count c d p q (aggregate_map_fill x) t =
      le_antisymm (no_longer c d p q (filled x (answer w t))) (no_longer d c q p (filled x (answer w t)))

-- ---- Which ranks may be lent.

-- A list has what its set has.
pub in_set : (h : ℕ) (rs : List ℕ) → has h (union rs []) ≡ has h rs
in_set h rs = has-union h rs [] ∙ or-false (has h rs)

-- A set with a hop that it had not has one more.
length-insert : (h : ℕ) (s : List ℕ) → has h s ≡ false → length (insert h s) ≡ suc (length s)
length-insert h [] e = refl
length-insert h (k ∷ s) e = go (eqb h k) refl (ltb h k) (length-insert h s)
  where
    go : (b : Bool) → eqb h k ≡ b → (c : Bool) → (has h s ≡ false → length (insert h s) ≡ suc (length s))
        → length (cond c (h ∷ k ∷ s) (cond b (k ∷ s) (k ∷ insert h s))) ≡ suc (suc (length s))
    go true q c ih = absurd (true≢false (sym (ap (λ (b : Bool). b || has h s) q) ∙ e))
    go false q true ih = refl
    go false q false ih = ap suc (ih (sym (ap (λ (b : Bool). b || has h s) q) ∙ e))

-- An ascending set of numbers from l on and below n has at most n - l.
sorted-few : (n l : ℕ) (s : List ℕ) → Sorted s → ((h : ℕ) → has h s ≡ true → l ≤ h) → ((h : ℕ) → has h s ≡ true → h < n) → length s ≤ n - l
sorted-few n l [] p from low = omega arith
sorted-few n l (h ∷ s) p from low =
    let first : has h (h ∷ s) ≡ true = rw (eq-eqb h h refl) in
    omega (
      arith,
      from h first,
      low h first,
      sorted-few n (suc h) s p.1 (λ k e. above-has h s p.0 k e) (λ k e. low k (or_right (eqb k h) (has k s) e)),
    )

-- What the test says of a list's first number and of the others.
pub first_differs : (n r : ℕ) (rs : List ℕ) → differing n (r ∷ rs) ≡ true → (r < n) × (has r rs ≡ false) × (differing n rs ≡ true)
first_differs n r rs e = go (ltb r n) refl (has r rs) refl (differing n rs) refl e
  where
    go : (b : Bool) → ltb r n ≡ b → (c : Bool) → has r rs ≡ c → (d : Bool) → differing n rs ≡ d → ((b && not c) && d) ≡ true
        → (r < n) × (has r rs ≡ false) × (differing n rs ≡ true)
    go true b false c true d z = (ltb-true r n b, c, d)
    go true b false c false d z = absurd (true≢false (sym z))
    go true b true c d q z = absurd (true≢false (sym z))
    go false b c q d s z = absurd (true≢false (sym z))

pub differ_first : (n r : ℕ) (rs : List ℕ) → r < n → has r rs ≡ false → differing n rs ≡ true → differing n (r ∷ rs) ≡ true
differ_first n r rs low new rest = rw (lt-ltb r n low, new, rest)

-- The numbers of a list that passes it are below n,
differing-low : (n : ℕ) (rs : List ℕ) → differing n rs ≡ true → (h : ℕ) → has h rs ≡ true → h < n
differing-low n [] e h m = absurd (true≢false (sym m))
differing-low n (r ∷ rs) e h m =
    let p = first_differs n r rs e in
    ⊎_elim (λ q. rw (eqb-true h r q) p.0) (differing-low n rs p.2 h) (or_cases (eqb h r) (has h rs) m)

-- as many as their set,
differing-set : (n : ℕ) (rs : List ℕ) → differing n rs ≡ true → length (union rs []) ≡ length rs
differing-set n [] e = refl
differing-set n (r ∷ rs) e =
    let p = first_differs n r rs e in
    length-insert r (union rs []) (in_set r rs ∙ p.1) ∙ ap suc (differing-set n rs p.2)

-- so at most n,
differing-few : (n : ℕ) (rs : List ℕ) → differing n rs ≡ true → length rs ≤ n
differing-few n rs e =
    omega (
      arith,
      differing-set n rs e,
      sorted-few n 0 (union rs []) (sorted-union rs [] tt) (λ h m. omega arith) (λ h m. differing-low n rs e h (sym (in_set h rs) ∙ m)),
    )

-- and where they are n, each of those below n is there.
differing_all : (n : ℕ) (rs : List ℕ) → differing n rs ≡ true → length rs ≡ n → (r : ℕ) → r < n → has r rs ≡ true
differing_all n rs e full r lt = go (has r rs) refl
  where
    go : (b : Bool) → has r rs ≡ b → has r rs ≡ true
    go true q = q
    go false q = absurd (omega (arith, differing-few n (r ∷ rs) (differ_first n r rs lt q e)))

-- A number of a list has a place in it, and what has a place in it is one of its numbers.
has-place : (rs : List ℕ) (r : ℕ) → has r rs ≡ true → (h : ℕ) × (h < length rs) × (get_or rs h 0 ≡ r)
has-place [] r e = absurd (true≢false (sym e))
has-place (x ∷ rs) r e =
    ⊎_elim
    (λ q. (0, omega arith, sym (eqb-true r x q)))
    (λ q. let p = has-place rs r q in (suc p.0, omega (arith, p.1), p.2))
    (or_cases (eqb r x) (has r rs) e)

place-has : (rs : List ℕ) (h : ℕ) → h < length rs → has (get_or rs h 0) rs ≡ true
place-has [] h lt = absurd (omega arith)
place-has (x ∷ rs) zero lt = rw (eq-eqb x x refl)
place-has (x ∷ rs) (suc h) lt = or_right (eqb (get_or rs h 0) x) (has (get_or rs h 0) rs) (place-has rs h (omega arith))

-- Each number stands at one place,
differing-once : (n : ℕ) (rs : List ℕ) → differing n rs ≡ true → (h k : ℕ) → h < length rs → k < length rs → get_or rs h 0 ≡ get_or rs k 0 → h ≡ k
differing-once n [] e h k p q same = absurd (omega arith)
differing-once n (r ∷ rs) e zero zero p q same = refl
differing-once n (r ∷ rs) e zero (suc k) p q same =
    absurd (true≢false (sym (place-has rs k (omega arith)) ∙ ap (λ (x : ℕ). has x rs) (sym same) ∙ (first_differs n r rs e).1))
differing-once n (r ∷ rs) e (suc h) zero p q same =
    absurd (true≢false (sym (place-has rs h (omega arith)) ∙ ap (λ (x : ℕ). has x rs) same ∙ (first_differs n r rs e).1))
differing-once n (r ∷ rs) e (suc h) (suc k) p q same =
    ap suc (differing-once n rs (first_differs n r rs e).2 h k (omega arith) (omega arith) same)

-- and such a list passes the test.
once-differing : (n : ℕ) (rs : List ℕ) → ((h : ℕ) → h < length rs → get_or rs h 0 < n)
    → ((h k : ℕ) → h < length rs → k < length rs → get_or rs h 0 ≡ get_or rs k 0 → h ≡ k) → differing n rs ≡ true
once-differing n [] low once = refl
once-differing n (r ∷ rs) low once =
    differ_first n r rs (low 0 (omega arith)) (go (has r rs) refl)
    (once-differing n rs (λ h lt. low (suc h) (omega arith))
    (λ h k p q e. let same : suc h ≡ suc k = once (suc h) (suc k) (omega arith) (omega arith) e in omega arith))
  where
    go : (b : Bool) → has r rs ≡ b → has r rs ≡ false
    go false q = q
    go true q =
        let p = has-place rs r q in
        let same : 0 ≡ suc p.0 = once 0 (suc p.0) (omega arith) (omega (arith, p.1)) (sym p.2) in
        absurd (omega arith)

-- The test passes the lists that are empty or have each of the numbers below n once, and no others.
pub ranking_tested : (n : ℕ) (ranks : List ℕ) → (is_ranking n ranks ≡ true) ↔ Ranking n ranks
ranking_tested n ranks = (
  λ e.
      ⊎_elim (λ q. inl (empty ranks (eqb-true (length ranks) 0 q))) (λ q. inr (full q))
      (or_cases (eqb (length ranks) 0) (eqb (length ranks) n && differing n ranks) e),
  back,
)
  where
    empty : (rs : List ℕ) → length rs ≡ 0 → rs ≡ []
    empty [] e = refl
    empty (r ∷ rs) e = absurd (omega arith)

    full : (eqb (length ranks) n && differing n ranks) ≡ true → EachOnce n ranks
    full e =
        let long : length ranks ≡ n = eqb-true (length ranks) n (and_left (eqb (length ranks) n) (differing n ranks) e) in
        let apart : differing n ranks ≡ true = and_right (eqb (length ranks) n) (differing n ranks) e in
        record {
          count = long;
          low = λ h lt. differing-low n ranks apart (get_or ranks h 0) (place-has ranks h (omega arith));
          once = λ h k p q same. differing-once n ranks apart h k (omega arith) (omega arith) same;
          each = λ r lt. let p = has-place ranks r (differing_all n ranks apart long r lt) in (p.0, omega (arith, p.1), p.2);
        }
      where
        and_right : (p q : Bool) → (p && q) ≡ true → q ≡ true
        and_right true q e = e
        and_right false q e = absurd (true≢false (sym e))

    back : Ranking n ranks → is_ranking n ranks ≡ true
    back (inl e) = rw e
    back (inr p) =
        rw (
          eq-eqb (length ranks) n p.count,
          once-differing n ranks (λ h lt. p.low h (omega (arith, p.count))) (λ h k lt lt' e. p.once h k (omega (arith, p.count)) (omega (arith, p.count)) e),
        )
        (or_right (eqb (length ranks) 0) true refl)

-- Under such ranks no two hops rank alike, so the hop of lowest rank is the only one.
pub lowest_only : (n : ℕ) (ranks : List ℕ) → Ranking n ranks → (s : List ℕ) → ((k : ℕ) → has k s ≡ true → k < n)
    → (h : ℕ) → has h s ≡ true → ((k : ℕ) → has k s ≡ true → rank_of ranks h ≤ rank_of ranks k) → h ≡ lowest ranks s
lowest_only n ranks ok [] low h e least-of = absurd (true≢false (sym e))
lowest_only n ranks ok (j ∷ s) low h e least-of =
    apart ok (low h e) (low (lowest ranks (j ∷ s)) (lowest_chooses ranks j s))
    (le_antisymm (least-of (lowest ranks (j ∷ s)) (lowest_chooses ranks j s)) (lowest_least ranks (j ∷ s) h e))
  where
    apart : {h k : ℕ} → Ranking n ranks → h < n → k < n → rank_of ranks h ≡ rank_of ranks k → h ≡ k
    apart {h} {k} (inl none') p q same = rw none' at same
    apart {h} {k} (inr each) p q same =
        each.once h k p q
        (within_list ranks h 0 h (omega (arith, each.count)) ∙ same ∙ within_list ranks k k 0 (omega (arith, each.count)))
