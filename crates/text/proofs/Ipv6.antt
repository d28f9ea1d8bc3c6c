-- The IPv6 address whose lower half is zero, group by group: up to the last group that is not zero, and `::`. Assumes nothing.
use mathlib.Core.Path.{◌≡◌, refl, ap, ap₂, ◌∙◌}
use mathlib.Core.Bool.{Bool, true, false, cond}
use mathlib.Core.List.{List, [], ◌∷◌, ◌++◌, append_assoc}
use Prim.Native.Nat.{ℕ, zero, suc, ◌/◌, ◌%◌, ◌≤◌, ◌<◌}
use native.Mathlib.Nat.{max-eq_left, max-eq_right}
use native.Mathlib.Omega.{arith}
use borrow.Author.Tests.{eq-eqb, ne_eqb, eqb-true, eqb-false, le-ltb}
use lib.Dec.{eqb}
use lib.ListN.{length, drop, replicate}
use Rattle.text.specs.Ipv6.{hexadecimal, joined, zeros, longest, first_row, without, shortened, groups_of, ipv6, group_part}

-- ---- The row that is shortened, in any groups.

-- No row of zeros is longer than the longest.
no_zeros : zeros [] ≤ 0
unfolding zeros
no_zeros = omega arith

pub longest-most : (gs : List ℕ) (k : ℕ) → zeros (drop k gs) ≤ longest gs
unfolding longest
longest-most [] zero = no_zeros
longest-most [] (suc k) = no_zeros
longest-most (g ∷ gs) zero = omega arith
longest-most (g ∷ gs) (suc k) = let rest = longest-most gs k in omega arith

-- The longest stands where it is said to.
pub first-there : (n : ℕ) (gs : List ℕ) → longest gs ≡ n → zeros (drop (first_row n gs) gs) ≡ n
unfolding longest zeros first_row
first-there n [] e = e
first-there n (g ∷ gs) e = go (eqb (zeros (g ∷ gs)) n) refl (first-there n gs)
  where
    go : (b : Bool) → eqb (zeros (g ∷ gs)) n ≡ b → (longest gs ≡ n → zeros (drop (first_row n gs) gs) ≡ n)
        → zeros (drop (cond b 0 (suc (first_row n gs))) (g ∷ gs)) ≡ n
    go true f rest = eqb-true (zeros (g ∷ gs)) n f
    go false f rest = let other = eqb-false (zeros (g ∷ gs)) n f in rest (omega (arith, other, e))

-- None that is as long begins in front of it.
pub first-before : (n : ℕ) (gs : List ℕ) (k : ℕ) → k < first_row n gs → zeros (drop k gs) ≡ n → ⊥
unfolding first_row
first-before n [] k h e = omega arith
first-before n (g ∷ gs) k h e = go (eqb (zeros (g ∷ gs)) n) refl k h e (first-before n gs)
  where
    go : (b : Bool) → eqb (zeros (g ∷ gs)) n ≡ b → (k : ℕ) → k < cond b 0 (suc (first_row n gs)) → zeros (drop k (g ∷ gs)) ≡ n
        → ((j : ℕ) → j < first_row n gs → zeros (drop j gs) ≡ n → ⊥) → ⊥
    go true f k h e rest = omega arith
    go false f zero h e rest = eqb-false (zeros (g ∷ gs)) n f e
    go false f (suc k) h e rest = rest k (omega arith) e

-- ---- A row of zeros at the end.

zeros_all : (m : ℕ) → zeros (replicate m 0) ≡ m
unfolding zeros
zeros_all zero = refl
zeros_all (suc m) = ap suc (zeros_all m)

longest_all : (m : ℕ) → longest (replicate m 0) ≡ m
unfolding longest
longest_all zero = refl
longest_all (suc m) = rw (longest_all m, zeros_all (suc m)) (max-eq_left (omega arith))

first_all : (m : ℕ) → 0 < m → first_row m (replicate m 0) ≡ 0
unfolding first_row
first_all zero some = absurd (omega arith)
first_all (suc m) some = rw (eq-eqb (zeros (replicate (suc m) 0)) (suc m) (zeros_all (suc m)))

module _ (g m : ℕ) (some : g ≡ 0 → ⊥) where
  -- Groups, one that is not zero, and m zeros.
  abbrev ending : List ℕ → List ℕ
  ending front = front ++ (g ∷ replicate m 0)

  -- In front of that one a row has no more zeros than there are groups.
  zeros_front : (front : List ℕ) → zeros (ending front) ≤ length front
  unfolding zeros
  zeros_front [] = rw (ne_eqb g 0 some) (omega arith)
  zeros_front (f ∷ front) = either (eqb f 0) (zeros_front front)
    where
      either : (b : Bool) → zeros (ending front) ≤ length front → cond b (suc (zeros (ending front))) 0 ≤ suc (length front)
      either true h = omega arith
      either false h = omega arith

  -- Where they are fewer than m, the row at the end is the longest, and the only one as long.
  longest_end : (front : List ℕ) → length front < m → longest (ending front) ≡ m
  unfolding longest
  longest_end [] few =
      let none = zeros_front [] in rw (longest_all m) (max-eq_right (omega (arith, none)))
  longest_end (f ∷ front) few =
      let less = zeros_front (f ∷ front) in rw (longest_end front (omega arith)) (max-eq_right (omega (arith, less)))

  first_end : (front : List ℕ) → length front < m → first_row m (ending front) ≡ suc (length front)
  unfolding first_row
  first_end [] few =
      let none = zeros_front [] in
      rw (ne_eqb (zeros (ending [])) m (λ e. omega (arith, none))) (ap suc (first_all m few))
  first_end (f ∷ front) few =
      let less = zeros_front (f ∷ front) in
      rw (ne_eqb (zeros (ending (f ∷ front))) m (λ e. omega (arith, less))) (ap suc (first_end front (omega arith)))

  -- So it is the one that is shortened.
  pub shortened_end : (front : List ℕ) → length front < m → 2 ≤ m → shortened (ending front) ≡ without (suc (length front)) m (ending front)
  unfolding shortened
  shortened_end front few two = rw (longest_end front few, le-ltb m 2 two, first_end front few)

-- ---- Joined.

-- Groups with a colon behind each, and a colon, are the groups joined, and two colons.
one_joined : (x : List ℕ) → x ++ (58 ∷ 58 ∷ []) ≡ (x ++ (58 ∷ [])) ++ (58 ∷ [])
one_joined x = simp append_assoc

two-joined : (x y : List ℕ) → (x ++ (58 ∷ y)) ++ (58 ∷ 58 ∷ []) ≡ (x ++ (58 ∷ [])) ++ ((y ++ (58 ∷ [])) ++ (58 ∷ []))
two-joined x y = simp append_assoc

three_joined : (x y z : List ℕ)
    → (x ++ (58 ∷ (y ++ (58 ∷ z)))) ++ (58 ∷ 58 ∷ []) ≡ (x ++ (58 ∷ [])) ++ ((y ++ (58 ∷ [])) ++ ((z ++ (58 ∷ [])) ++ (58 ∷ [])))
three_joined x y z = simp append_assoc

four_joined : (x y z w : List ℕ)
    → (x ++ (58 ∷ (y ++ (58 ∷ (z ++ (58 ∷ w)))))) ++ (58 ∷ 58 ∷ [])
    ≡ (x ++ (58 ∷ [])) ++ ((y ++ (58 ∷ [])) ++ ((z ++ (58 ∷ [])) ++ ((w ++ (58 ∷ [])) ++ (58 ∷ []))))
four_joined x y z w = simp append_assoc

-- ---- Addresses.

-- 0 is `::`.
pub ipv6-zero : ipv6 0 ≡ 58 ∷ 58 ∷ []
unfolding ipv6 shortened longest zeros first_row joined
ipv6-zero = refl

-- Any other address is its groups, each with a colon, as long as not all that is left is zero, and a colon.
pub ipv6_parts : (a : ℕ) → (a ≡ 0 → ⊥)
    → ipv6 a
    ≡ group_part (a / 281474976710656) a
    ++ (group_part (a % 281474976710656 / 4294967296) (a % 281474976710656)
    ++ (group_part (a % 4294967296 / 65536) (a % 4294967296)
    ++ (group_part (a % 65536) (a % 65536) ++ (58 ∷ []))))
unfolding ipv6 group_part joined
ipv6_parts a some = go (eqb (a % 65536) 0) refl (eqb (a / 65536 % 65536) 0) refl (eqb (a / 4294967296 % 65536) 0) refl
  where
    second : a % 281474976710656 / 4294967296 ≡ a / 4294967296 % 65536
    second = omega arith

    third : a % 4294967296 / 65536 ≡ a / 65536 % 65536
    third = omega arith

    go : (x : Bool) → eqb (a % 65536) 0 ≡ x → (y : Bool) → eqb (a / 65536 % 65536) 0 ≡ y → (z : Bool) → eqb (a / 4294967296 % 65536) 0 ≡ z
        → shortened (groups_of a)
        ≡ group_part (a / 281474976710656) a
        ++ (group_part (a % 281474976710656 / 4294967296) (a % 281474976710656)
        ++ (group_part (a % 4294967296 / 65536) (a % 4294967296)
        ++ (group_part (a % 65536) (a % 65536) ++ (58 ∷ []))))
    go false e y f z g =
        let d = eqb-false (a % 65536) 0 e in
        rw (second, third, ne_eqb a 0 some, ne_eqb (a % 281474976710656) 0 (λ q. d (omega arith)), ne_eqb (a % 4294967296) 0 (λ q. d (omega arith)), e)
        (shortened_end (a % 65536) 4 d (a / 281474976710656 ∷ a / 4294967296 % 65536 ∷ a / 65536 % 65536 ∷ []) (omega arith) (omega arith)
        ∙ four_joined (hexadecimal (a / 281474976710656)) (hexadecimal (a / 4294967296 % 65536)) (hexadecimal (a / 65536 % 65536)) (hexadecimal (a % 65536)))
    go true e false f z g =
        let c = eqb-false (a / 65536 % 65536) 0 f in
        rw (second, third, ne_eqb a 0 some, ne_eqb (a % 281474976710656) 0 (λ q. c (omega arith)), ne_eqb (a % 4294967296) 0 (λ q. c (omega arith)), e)
        (ap (λ (n : ℕ). shortened (a / 281474976710656 ∷ a / 4294967296 % 65536 ∷ a / 65536 % 65536 ∷ n ∷ 0 ∷ 0 ∷ 0 ∷ 0 ∷ [])) (eqb-true (a % 65536) 0 e)
        ∙ shortened_end (a / 65536 % 65536) 5 c (a / 281474976710656 ∷ a / 4294967296 % 65536 ∷ []) (omega arith) (omega arith)
        ∙ three_joined (hexadecimal (a / 281474976710656)) (hexadecimal (a / 4294967296 % 65536)) (hexadecimal (a / 65536 % 65536)))
    go true e true f false g =
        let b = eqb-false (a / 4294967296 % 65536) 0 g in
        let no-c = eqb-true (a / 65536 % 65536) 0 f in
        let no-d = eqb-true (a % 65536) 0 e in
        rw (second, third, ne_eqb a 0 some, ne_eqb (a % 281474976710656) 0 (λ q. b (omega (arith, second))), eq-eqb (a % 4294967296) 0 (omega (arith, third)), e)
        (ap₂ (λ (m n : ℕ). shortened (a / 281474976710656 ∷ a / 4294967296 % 65536 ∷ m ∷ n ∷ 0 ∷ 0 ∷ 0 ∷ 0 ∷ [])) no-c no-d
        ∙ shortened_end (a / 4294967296 % 65536) 6 b (a / 281474976710656 ∷ []) (omega arith) (omega arith)
        ∙ two-joined (hexadecimal (a / 281474976710656)) (hexadecimal (a / 4294967296 % 65536)))
    go true e true f true g =
        let no-b = eqb-true (a / 4294967296 % 65536) 0 g in
        let no-c = eqb-true (a / 65536 % 65536) 0 f in
        let no-d = eqb-true (a % 65536) 0 e in
        rw (second, third, ne_eqb a 0 some, eq-eqb (a % 281474976710656) 0 (omega (arith, second, third)), eq-eqb (a % 4294967296) 0 (omega (arith, third)), e)
        (ap (λ (l : ℕ). shortened (a / 281474976710656 ∷ l ∷ a / 65536 % 65536 ∷ a % 65536 ∷ 0 ∷ 0 ∷ 0 ∷ 0 ∷ [])) no-b
        ∙ ap₂ (λ (m n : ℕ). shortened (a / 281474976710656 ∷ 0 ∷ m ∷ n ∷ 0 ∷ 0 ∷ 0 ∷ 0 ∷ [])) no-c no-d
        ∙ shortened_end (a / 281474976710656) 7 (λ q. some (omega (arith, second, third))) [] (omega arith) (omega arith)
        ∙ one_joined (hexadecimal (a / 281474976710656)))
