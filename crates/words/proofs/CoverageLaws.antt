-- The coverage sweeps, one law a step, over the level. Assumes nothing.
use mathlib.Core.Path.{◌≡◌, refl, sym, ap, ap₂, ◌∙◌, subst}
use mathlib.Core.Bool.{Bool, true, false, cond, not, ◌&&◌, ◌||◌, and-true, or-true, or-false, and-or_distrib_right}
use Prim.Native.Nat.{ℕ, zero, suc, ◌+◌, ◌-◌, ◌*◌, ◌/◌, ◌^◌, ◌≤◌, ◌<◌}
use native.Mathlib.Nat.{pow-suc}
use native.Mathlib.Omega.{arith}
use lib.Dec.{eqb, ltb, leb, lit<, lit≤}
use lib.Bits.{bit_or}
use lib.Pow.{shr-shr}
use borrow.Author.Tests.{le-leb, lt-leb, lt-ltb, le-ltb, eq-eqb, ne_eqb, eqb-true}
use Rattle.words.specs.Bits.{bit, WithBit}
use Rattle.words.specs.Coverage.{UnderMembers, WhollyCovered, ParentCovered, Kept}
use Rattle.words.specs.Positions.{position, at_level, first, member, under, whole}
use Rattle.words.specs.Rules.{stray, Folded, Pushed, PushedSlots}
use Rattle.words.proofs.BitLaws.{if_lt, if_le, if_eq, bit-zero, bit-or}
use Rattle.words.proofs.PositionLaws.{in_word, level_of, above, fold_at, push_at, push_slot, no_stray}

-- Two thresholds that differ at n alone.
past : (n l : ℕ) → (n ≡ l → ⊥) → leb (suc n) l ≡ leb n l
past n l e = if_le (λ t. leb (suc n) l ≡ t) n l (λ a. le-leb (suc n) l (omega arith)) (λ a. lt-leb (suc n) l (omega arith))

upto : (n l : ℕ) → (suc n ≡ l → ⊥) → leb l n ≡ leb l (suc n)
upto n l e = if_le (λ t. leb l n ≡ t) l (suc n) (λ a. le-leb l n (omega arith)) (λ a. lt-leb l n (omega arith))

-- ---- folds: wholly covered positions, from the slots up

-- `whole` by the level of the position.
pub whole_at : (d cc n j : ℕ) → n ≤ 4 → whole d cc (5 - n) j ≡ (member d n j || (whole d cc (4 - n) (2 * j) && whole d cc (4 - n) (2 * j + 1)))
unfolding whole
whole_at d cc n j h =
    let e : 5 - n ≡ suc (4 - n) = omega arith in
    let q : 4 - (4 - n) ≡ n = omega arith in
    ap (λ (m : ℕ). whole d cc m j) e
    ∙ ap (λ (l : ℕ). member d l j || (whole d cc (4 - n) (2 * j) && whole d cc (4 - n) (2 * j + 1))) q

-- c has the wholly covered positions of the levels n to 4, and the members of the levels above.
pub record WholeFrom (d cc n c : ℕ) : Type 0 where
  pub inside : (l j : ℕ) → l ≤ 4 → j < 2 ^ l → bit c (position l j) ≡ cond (leb n l) (whole d cc (5 - l) j) (member d l j)
  pub top : bit c 31 ≡ bit d 31

-- The two positions below (l, j), in a word with level n + 1.
abbrev halves : ℕ → ℕ → ℕ → ℕ → Bool
halves x n l j = bit x (position (suc l) (2 * j) - first (n + 1)) && bit x (position (suc l) (2 * j + 1) - first (n + 1))

-- Before the first fold: the members.
whole-start : (d cc : ℕ) → WholeFrom d cc 5 d
whole-start d cc = record {
  inside = λ l j h g. sym (ap (λ (t : Bool). cond t (whole d cc (5 - l) j) (member d l j)) (lt-leb 5 l (omega arith)));
  top = refl;
}

-- The fold into level n of a word x that has the wholly covered positions of the level below.
whole_step : (d cc n c x r : ℕ) → n ≤ 4 → WholeFrom d cc (suc n) c → Folded n x r
    → ((j : ℕ) → j < 2 ^ suc n → bit x (position (suc n) j - first (n + 1)) ≡ whole d cc (4 - n) j) → WholeFrom d cc n (bit_or c r)
whole_step d cc n c x r h w f below = record { inside = inside; top = top }
  where
    here : (j : ℕ) → j < 2 ^ n → (cond (leb (suc n) n) (whole d cc (5 - n) j) (member d n j) || halves x n n j) ≡ cond (leb n n) (whole d cc (5 - n) j) (member d n j)
    here j g =
        ap₂ ◌||◌ (ap (λ (t : Bool). cond t (whole d cc (5 - n) j) (member d n j)) (lt-leb (suc n) n (omega arith)))
        (ap₂ ◌&&◌ (below (2 * j) (omega (arith, pow-suc 2 n))) (below (2 * j + 1) (omega (arith, pow-suc 2 n))))
        ∙ sym (whole_at d cc n j h)
        ∙ sym (ap (λ (t : Bool). cond t (whole d cc (5 - n) j) (member d n j)) (le-leb n n (omega arith)))

    inside : (l j : ℕ) → l ≤ 4 → j < 2 ^ l → bit (bit_or c r) (position l j) ≡ cond (leb n l) (whole d cc (5 - l) j) (member d l j)
    inside l j a g =
        let b : position l j < 32 = omega (arith, in_word l j a g) in
        bit-or c r (position l j) ∙ ap₂ ◌||◌ (w.inside l j a g) (fold_at n x r f l j g b)
        ∙ if_eq (λ t. (cond (leb (suc n) l) (whole d cc (5 - l) j) (member d l j) || (t && halves x n l j)) ≡ cond (leb n l) (whole d cc (5 - l) j) (member d l j)) n l
        (λ e. subst (λ (i : ℕ). j < 2 ^ i → (cond (leb (suc n) i) (whole d cc (5 - i) j) (member d i j) || halves x n i j) ≡ cond (leb n i) (whole d cc (5 - i) j) (member d i j)) e (here j) g)
        (λ e. or-false (cond (leb (suc n) l) (whole d cc (5 - l) j) (member d l j))
        ∙ ap (λ (t : Bool). cond t (whole d cc (5 - l) j) (member d l j)) (past n l e))

    top : bit (bit_or c r) 31 ≡ bit d 31
    top =
        bit-or c r 31
        ∙ ap₂ ◌||◌ w.top
        (fold_at n x r f 5 0 (lit< tt) (lit< tt) ∙ ap (λ (t : Bool). t && halves x n 5 0) (ne_eqb n 5 (λ e. omega arith)))
        ∙ or-false (bit d 31)

-- The fold of the child slots.
pub whole-slots : (d cc r : ℕ) → Folded 4 cc r → WholeFrom d cc 4 (bit_or d r)
unfolding whole
whole-slots d cc r f =
    whole_step d cc 4 d cc r (lit≤ tt) (whole-start d cc) f
    (λ j g. let e : position 5 j - 31 ≡ j = omega arith in ap (bit cc) e)

-- The fold into level n, one of 0 to 3.
pub whole_fold : (n : ℕ) {d cc c : ℕ} → n ≤ 3 → WholeFrom d cc (suc n) c → (r : ℕ) → Folded n c r → WholeFrom d cc n (bit_or c r)
whole_fold n {d} {cc} {c} h w r f = whole_step d cc n c c r (omega arith) w f below
  where
    below : (j : ℕ) → j < 2 ^ suc n → bit c (position (suc n) j - first (n + 1)) ≡ whole d cc (4 - n) j
    below j g =
        let i : n + 1 < 5 = omega arith in
        let z : first (n + 1) ≡ 0 = ap (λ (t : Bool). cond t 0 31) (lt-ltb (n + 1) 5 i) in
        let e : position (suc n) j - first (n + 1) ≡ position (suc n) j = omega arith in
        let q : 5 - suc n ≡ 4 - n = omega arith in
        ap (bit c) e ∙ w.inside (suc n) j (omega arith) g
        ∙ ap (λ (t : Bool). cond t (whole d cc (5 - suc n) j) (member d (suc n) j)) (le-leb (suc n) (suc n) (omega arith))
        ∙ ap (λ (m : ℕ). whole d cc m j) q

-- After the last fold: the wholly covered positions of all levels.
pub whole_end : {d cc c : ℕ} → WholeFrom d cc 0 c → WhollyCovered d cc c
whole_end {d} {cc} {c} w = record {
  inside = λ l j h g. w.inside l j h g ∙ ap (λ (t : Bool). cond t (whole d cc (5 - l) j) (member d l j)) (le-leb 0 l (omega arith));
  top = w.top;
}

-- ---- pushes: positions below a member, from the top down

-- v has the positions of the levels 0 to n that stand strictly below a member of d, and nothing else.
pub record UnderTo (d n v : ℕ) : Type 0 where
  pub at : (l j : ℕ) → j < 2 ^ l → position l j < 32 → bit v (position l j) ≡ (leb l n && under d l j)

nothing-under : (d l j : ℕ) → j < 2 ^ l → position l j < 32 → bit 0 (position l j) ≡ (leb l 0 && under d l j)
unfolding under
nothing-under d zero j g b = bit-zero (position 0 j)
nothing-under d (suc l) j g b =
    bit-zero (position (suc l) j) ∙ sym (ap (λ (t : Bool). t && under d (suc l) j) (lt-leb (suc l) 0 (omega arith)))

-- Before the first push: nothing.
pub under-start : (d : ℕ) → UnderTo d 0 0
under-start d = record { at = nothing-under d }

under_step : (d n v r : ℕ) → n ≤ 3 → UnderTo d n v → Pushed n (bit_or d v) r
    → (l j : ℕ) → j < 2 ^ l → position l j < 32 → bit (bit_or v r) (position l j) ≡ (leb l (suc n) && under d l j)
unfolding under
under_step d n v r h u f l j g b =
    bit-or v r (position l j) ∙ ap₂ ◌||◌ (u.at l j g b) (push_at n (bit_or d v) r h f l j g b)
    ∙ if_eq (λ t. ((leb l n && under d l j) || (t && bit (bit_or d v) ((position l j - 1) / 2))) ≡ (leb l (suc n) && under d l j)) (suc n) l
    (λ e. subst (λ (i : ℕ). j < 2 ^ i → ((leb i n && under d i j) || bit (bit_or d v) ((position i j - 1) / 2)) ≡ (leb i (suc n) && under d i j)) e here g)
    (λ e. or-false (leb l n && under d l j) ∙ ap (λ (t : Bool). t && under d l j) (upto n l e))
  where
    here : j < 2 ^ suc n → ((leb (suc n) n && under d (suc n) j) || bit (bit_or d v) ((position (suc n) j - 1) / 2)) ≡ (leb (suc n) (suc n) && under d (suc n) j)
    here a =
        let c : j / 2 < 2 ^ n = omega (arith, pow-suc 2 n) in
        ap₂ ◌||◌ (ap (λ (t : Bool). t && under d (suc n) j) (lt-leb (suc n) n (omega arith)))
        (ap (bit (bit_or d v)) (above n j) ∙ bit-or d v (position n (j / 2))
        ∙ ap (λ (t : Bool). member d n (j / 2) || t)
        (u.at n (j / 2) c (omega (arith, in_word n (j / 2) (omega arith) c)) ∙ ap (λ (t : Bool). t && under d n (j / 2)) (le-leb n n (omega arith))))
        ∙ sym (ap (λ (t : Bool). t && under d (suc n) j) (le-leb (suc n) (suc n) (omega arith)))

-- The push out of level n, one of 0 to 3, of the members and what stands below them.
pub under_push : (n : ℕ) {d v : ℕ} → n ≤ 3 → UnderTo d n v → (r : ℕ) → Pushed n (bit_or d v) r → UnderTo d (suc n) (bit_or v r)
under_push n {d} {v} h u r f = record { at = under_step d n v r h u f }

-- After the last push, and the push into the slots: the positions and slots below a member.
pub under_end : {d v : ℕ} → UnderTo d 4 v → (s : ℕ) → PushedSlots (bit_or d v) s → UnderMembers d v s
unfolding under
under_end {d} {v} u s f = record { inside = inside; slot = slot; top = u.at 5 0 (lit< tt) (lit< tt) }
  where
    inside : (l j : ℕ) → l ≤ 4 → j < 2 ^ l → bit v (position l j) ≡ under d l j
    inside l j h g = u.at l j g (omega (arith, in_word l j h g)) ∙ ap (λ (t : Bool). t && under d l j) (le-leb l 4 h)

    slot : (c : ℕ) → c < 32 → bit s c ≡ (stray d c || under d 5 c)
    slot c h =
        let i : c / 2 < 2 ^ 4 = omega arith in
        push_slot (bit_or d v) s f c h
        ∙ ap₂ ◌||◌ (ap (λ (t : Bool). eqb (c / 2) 8 && t) (bit-or d v 31 ∙ ap (λ (t : Bool). bit d 31 || t) (u.at 5 0 (lit< tt) (lit< tt)) ∙ or-false (bit d 31)))
        (bit-or d v (position 4 (c / 2)) ∙ ap (λ (t : Bool). member d 4 (c / 2) || t) (inside 4 (c / 2) (lit≤ tt) i))

-- With bit 31 of the members clear nothing strays: a slot is marked exactly when it stands below a member.
pub slot-under : {d v s : ℕ} → bit d 31 ≡ false → UnderMembers d v s → (c : ℕ) → c < 32 → bit s c ≡ under d 5 c
slot-under {d} {v} {s} z m c h = m.slot c h ∙ ap (λ (t : Bool). t || under d 5 c) (no_stray d c z)

-- ---- the slots below one position

module _ (l j d : ℕ) (le : l ≤ 4) (lt : j < 2 ^ l) (only : WithBit 0 (position l j) d) where
  -- The position (l, j) is the one member of d.
  only_member : (m i : ℕ) → m ≤ 4 → i < 2 ^ m → member d m i ≡ (eqb m l && eqb i j)
  only_member m i h g =
      only (position m i) (omega (arith, in_word m i h g))
      ∙ ap (λ (t : Bool). eqb (position m i) (position l j) || t) (bit-zero (position m i)) ∙ or-false (eqb (position m i) (position l j))
      ∙ if_eq (λ t. eqb (position m i) (position l j) ≡ (t && eqb i j)) m l same (λ e. ne_eqb (position m i) (position l j) (λ q. e (level q)))
    where
      same : m ≡ l → eqb (position m i) (position l j) ≡ eqb i j
      same e =
          let q : 2 ^ m ≡ 2 ^ l = ap (λ (n : ℕ). 2 ^ n) e in
          if_eq (λ t. eqb (position m i) (position l j) ≡ t) i j (λ z. eq-eqb (position m i) (position l j) (omega arith))
          (λ z. ne_eqb (position m i) (position l j) (λ p. z (omega arith)))

      level : position m i ≡ position l j → m ≡ l
      level q = sym (eqb-true l m (sym (level_of l m i g) ∙ ap (at_level l) q ∙ level_of l l j lt ∙ eq-eqb l l refl))

  -- So a place stands below a member when it is deeper than (l, j) and (l, j) is above it.
  only_under : (m i : ℕ) → m ≤ 5 → i < 2 ^ m → under d m i ≡ (ltb l m && eqb (i / 2 ^ (m - l)) j)
  unfolding under
  only_under zero i h g = sym (ap (λ (t : Bool). t && eqb (i / 2 ^ (0 - l)) j) (le-ltb l 0 (omega arith)))
  only_under (suc m) i h g =
      let a : i / 2 < 2 ^ m = omega (arith, pow-suc 2 m) in
      ap₂ ◌||◌ (only_member m (i / 2) (omega arith) a) (only_under m (i / 2) (omega arith) a)
      ∙ if_eq (λ t. ((t && eqb (i / 2) j) || (ltb l m && eqb (i / 2 / 2 ^ (m - l)) j)) ≡ (ltb l (suc m) && eqb (i / 2 ^ (suc m - l)) j)) m l same
      (λ e. if_lt (λ t. (t && eqb (i / 2 / 2 ^ (m - l)) j) ≡ (ltb l (suc m) && eqb (i / 2 ^ (suc m - l)) j)) l m deeper
      (λ b. sym (ap (λ (t : Bool). t && eqb (i / 2 ^ (suc m - l)) j) (le-ltb l (suc m) (omega arith)))))
    where
      same : m ≡ l → (eqb (i / 2) j || (ltb l m && eqb (i / 2 / 2 ^ (m - l)) j)) ≡ (ltb l (suc m) && eqb (i / 2 ^ (suc m - l)) j)
      same e =
          let one : suc m - l ≡ 1 = omega arith in
          ap (λ (t : Bool). eqb (i / 2) j || (t && eqb (i / 2 / 2 ^ (m - l)) j)) (le-ltb l m (omega arith)) ∙ or-false (eqb (i / 2) j)
          ∙ sym (ap₂ (λ (t : Bool) (n : ℕ). t && eqb (i / 2 ^ n) j) (lt-ltb l (suc m) (omega arith)) one)

      deeper : l < m → eqb (i / 2 / 2 ^ (m - l)) j ≡ (ltb l (suc m) && eqb (i / 2 ^ (suc m - l)) j)
      deeper b =
          let more : 1 + (m - l) ≡ suc m - l = omega arith in
          ap (λ (n : ℕ). eqb n j) (shr-shr i 1 (m - l) ∙ ap (λ (n : ℕ). i / 2 ^ n) more)
          ∙ sym (ap (λ (t : Bool). t && eqb (i / 2 ^ (suc m - l)) j) (lt-ltb l (suc m) (omega arith)))

  -- A slot is marked exactly when (l, j) is above it.
  pub slots-below : {v s : ℕ} → UnderMembers d v s → (c : ℕ) → c < 32 → bit s c ≡ eqb (c / 2 ^ (5 - l)) j
  slots-below u c h =
      slot-under none u c h ∙ only_under 5 c (lit≤ tt) h ∙ ap (λ (t : Bool). t && eqb (c / 2 ^ (5 - l)) j) (lt-ltb l 5 (omega arith))
    where
      none : bit d 31 ≡ false
      none = only 31 (lit< tt) ∙ ap₂ ◌||◌ (ne_eqb 31 (position l j) (λ e. omega (arith, in_word l j le lt))) (bit-zero 31)

-- ---- pushes of a word by itself: the positions below its own

-- r has the positions of the levels 1 to n whose parent is in x, and nothing else.
pub record ParentTo (x n r : ℕ) : Type 0 where
  pub at : (l j : ℕ) → j < 2 ^ l → position l j < 32 → bit r (position l j) ≡ (ltb 0 l && leb l n && bit x ((position l j - 1) / 2))

no_parent : (x l j : ℕ) → j < 2 ^ l → position l j < 32 → bit 0 (position l j) ≡ (ltb 0 l && leb l 0 && bit x ((position l j - 1) / 2))
no_parent x zero j g b = bit-zero (position 0 j)
no_parent x (suc l) j g b =
    bit-zero (position (suc l) j)
    ∙ sym (ap₂ (λ (s t : Bool). s && t && bit x ((position (suc l) j - 1) / 2)) (lt-ltb 0 (suc l) (omega arith)) (lt-leb (suc l) 0 (omega arith)))

-- Before the first push: nothing.
pub parent_start : (x : ℕ) → ParentTo x 0 0
parent_start x = record { at = no_parent x }

parent_step : (x n r s : ℕ) → n ≤ 3 → ParentTo x n r → Pushed n x s
    → (l j : ℕ) → j < 2 ^ l → position l j < 32 → bit (bit_or r s) (position l j) ≡ (ltb 0 l && leb l (suc n) && bit x ((position l j - 1) / 2))
parent_step x n r s h p f l j g b =
    let parent : Bool = bit x ((position l j - 1) / 2) in
    bit-or r s (position l j) ∙ ap₂ ◌||◌ (p.at l j g b) (push_at n x s h f l j g b)
    ∙ sym (and-or_distrib_right (ltb 0 l && leb l n) (eqb (suc n) l) parent)
    ∙ ap (λ (t : Bool). t && parent)
    (if_eq (λ t. ((ltb 0 l && leb l n) || t) ≡ (ltb 0 l && leb l (suc n))) (suc n) l
    (λ e. or-true (ltb 0 l && leb l n) ∙ sym (ap₂ ◌&&◌ (lt-ltb 0 l (omega arith)) (le-leb l (suc n) (omega arith))))
    (λ e. or-false (ltb 0 l && leb l n) ∙ ap (λ (t : Bool). ltb 0 l && t) (upto n l e)))

-- The push out of level n, one of 0 to 3.
pub parent_push : (n : ℕ) {x r : ℕ} → n ≤ 3 → ParentTo x n r → (s : ℕ) → Pushed n x s → ParentTo x (suc n) (bit_or r s)
parent_push n {x} {r} h p s f = record { at = parent_step x n r s h p f }

-- After the last push: the positions whose parent is in x.
pub parent_end : {x r : ℕ} → ParentTo x 4 r → ParentCovered x r
parent_end {x} {r} p = record {
  root = p.at 0 0 (lit< tt) (lit< tt);
  below = λ l j h g. p.at (suc l) j g (omega (arith, in_word (suc l) j h g))
      ∙ ap (λ (t : Bool). t && bit x ((position (suc l) j - 1) / 2)) (ap₂ ◌&&◌ (lt-ltb 0 (suc l) (omega arith)) (le-leb (suc l) 4 h))
      ∙ ap (bit x) (above l j);
  top = p.at 5 0 (lit< tt) (lit< tt);
}

-- ---- the kept positions: wholly covered, the parent not, and below no member

module _ {d cc v s c p : ℕ} (under-members : UnderMembers d v s) (covered : WhollyCovered d cc c) (parents : ParentCovered c p) (k : ℕ) (kept : Kept c p v k) where
  -- At the root.
  pub kept-root : bit k (position 0 0) ≡ whole d cc 5 0
  unfolding under
  kept-root =
      kept 0 (lit< tt)
      ∙ ap₂ (λ (a b : Bool). bit c 0 && not a && not b) parents.root (under-members.inside 0 0 (lit≤ tt) (lit< tt))
      ∙ and-true (bit c 0 && true) ∙ and-true (bit c 0) ∙ covered.inside 0 0 (lit≤ tt) (lit< tt)

  -- Below it.
  pub kept-below : (l j : ℕ) → suc l ≤ 4 → j < 2 ^ suc l
      → bit k (position (suc l) j) ≡ (whole d cc (4 - l) j && not (whole d cc (5 - l) (j / 2)) && not (under d (suc l) j))
  kept-below l j h g =
      let i : j / 2 < 2 ^ l = omega (arith, pow-suc 2 l) in
      let e : 5 - suc l ≡ 4 - l = omega arith in
      kept (position (suc l) j) (omega (arith, in_word (suc l) j h g))
      ∙ ap₂ ◌&&◌
      (ap₂ (λ (a b : Bool). a && not b) (covered.inside (suc l) j h g ∙ ap (λ (m : ℕ). whole d cc m j) e)
      (parents.below l j h g ∙ covered.inside l (j / 2) (omega arith) i))
      (ap not (under-members.inside (suc l) j h g))

  -- Bit 31 stays as it is in the members.
  pub kept_top : bit k 31 ≡ bit d 31
  kept_top =
      kept 31 (lit< tt) ∙ ap₂ (λ (a b : Bool). bit c 31 && not a && not b) parents.top under-members.top
      ∙ and-true (bit c 31 && true) ∙ and-true (bit c 31) ∙ covered.top
