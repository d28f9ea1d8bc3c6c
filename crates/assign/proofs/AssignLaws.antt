-- What a node's positions hold: the sets that are folded upward from its slots, the hops that they are assigned, as the room is read from the
-- first position to the last, and the entries that these hops say, which are those of ORTC.
use Prim.Native.Nat.{ℕ, zero, suc, ◌+◌, ◌-◌, ◌*◌, ◌/◌, ◌%◌, ◌^◌, ◌≤◌, ◌<◌}
use mathlib.Core.Path.{◌≡◌, refl, sym, ap, subst, ◌∙◌}
use mathlib.Core.Bool.{Bool, true, false, true≢false, cond, not, ◌&&◌, ◌||◌, and-false, or-false}
use mathlib.Core.List.{List, [], ◌∷◌}
use mathlib.Core.Logic.{◌⊎◌, inl, inr}
use native.Mathlib.Nat.{pow-suc, eq-or-lt_of_le, add-zero}
use native.Mathlib.Omega.{arith}
use lib.Dec.{eqb, ltb}
use lib.ListN.{length, get_or, set, replicate, length-set, get_or-replicate}
use lib.Seq.{get_or-set_same, get_or-set_other, set-get_or}
use lib.Pow.{pow_pos, pow_mono}
use borrow.Author.Tests.{lt-ltb, le-ltb, eq-eqb, ne_eqb}
use Rattle.theory.specs.Routes.{Answer, none, via}
use Rattle.theory.specs.Results.{Cand, hole, of, sets, combine, leaf, assigned, allowed, Chooses, here}
use Rattle.theory.proofs.Preserve.{leaf-assigned}
use Rattle.words.specs.Positions.{position}
use Rattle.words.specs.Bits.{bit}
use Rattle.words.specs.Rules.{PushedSlots}
use Rattle.words.proofs.BitLaws.{bit-zero}
use Rattle.words.proofs.PositionLaws.{in_word, below_left, below_right, pushed_is}
use Rattle.words.proofs.PositionLaws as places
use Rattle.positions.specs.Runs.{no_hop, hop_of, or_else, size_at, place_at}
use Rattle.positions.specs.Walk.{state_of, state_at}
use Rattle.positions.specs.Walks.{ortc_out, ortc_next}
use Rattle.positions.proofs.Hops.{hop-via, hop_none, hop_unique}
use Rattle.positions.proofs.RunsNode.{size_halves, size-slot, place-left, place-right}
use Rattle.hops.specs.Sets.{ShowsSet}
use Rattle.hops.proofs.SetLaws.{same_word_same_set, hop-shown}
use Rattle.nodes.specs.Node.{wide, slot_size}
use Rattle.nodes.specs.Output.{entry_at}
use Rattle.nodes.specs.Room.{Begins}
use Rattle.gather.specs.Gathered.{over_at}
use Rattle.assign.specs.Answers.{ShowsNode, assigned_at, is_entry, entry_over, Stepped, LeafSlots}
use Rattle.assign.specs.Packed.{stored, packed}
use Rattle.assign.proofs.PackedLaws.{left_parent, Reading, reading-start, reading-stored, reading-taken, reading-next, reading_end}

-- ---- The sets of a node's positions, from those of its slots.

-- The candidates of position j of level l.
abbrev pub set_at : (ℕ → Answer) → ℕ → ℕ → ℕ → ℕ → Cand
set_at f m a l j = sets f (size_at m l) (place_at m a l j)

-- They are those of its halves combined.
pub halves_sets : (f : ℕ → Answer) (m a l j : ℕ) → l < 5 → set_at f m a l j ≡ combine (set_at f m a (suc l) (2 * j)) (set_at f m a (suc l) (2 * j + 1))
unfolding sets
halves_sets f m a l j lt = rw (place-left m a l j lt, place-right m a l j lt, size_halves m l lt)

-- The words of the slots xs₀ show the candidates of the slots of the node (m + 5, a).
abbrev pub ShowsSlots : (ℕ → Answer) → ℕ → ℕ → List ℕ → Type 0
ShowsSlots f m a xs₀ = (c : ℕ) → c < 32 → ShowsSet (get_or xs₀ (31 + c) 0) (sets f m (place_at m a 5 c))

-- The positions from b on are folded.
pub record Folded (xs₀ xs : List ℕ) (b : ℕ) : Type 0 where
  pub sized : length xs ≡ length xs₀
  pub each : (f : ℕ → Answer) (m a : ℕ) → length xs₀ ≡ 63 → ShowsSlots f m a xs₀ → (l j : ℕ) → l ≤ 5 → j < 2 ^ l → b ≤ position l j
      → ShowsSet (get_or xs (position l j) 0) (set_at f m a l j)

-- At the start only the slots are.
pub folded_none : (xs : List ℕ) → Folded xs xs 31
folded_none xs = record { sized = refl; each = λ f m a n s l j le lt h. go f m a s l j (eq-or-lt_of_le le) lt h }
  where
    go : (f : ℕ → Answer) (m a : ℕ) → ShowsSlots f m a xs → (l j : ℕ) → (l ≡ 5) ⊎ (l < 5) → j < 2 ^ l → 31 ≤ position l j
        → ShowsSet (get_or xs (position l j) 0) (set_at f m a l j)
    go f m a s l j (inl e) lt h =
        rw e (subst (λ (k : ℕ). ShowsSet (get_or xs (31 + j) 0) (sets f k (place_at m a 5 j))) (sym (size-slot m)) (s j (rw e at lt)))
    go f m a s l j (inr less) lt h = let p : 2 ^ suc l ≤ 2 ^ 5 = pow_mono less in absurd (omega (arith, pow-suc 2 l))

-- One position more: what its two halves show, combined.
pub folded_next : {xs₀ xs : List ℕ} {b : ℕ} → Folded xs₀ xs (suc b) → b < 31 → (v : ℕ)
    → ((S R : Cand) → ShowsSet (get_or xs (2 * b + 1) 0) S → ShowsSet (get_or xs (2 * b + 2) 0) R → ShowsSet v (combine S R))
    → Folded xs₀ (set xs b v) b
folded_next {xs₀} {xs} {b} p small v combined = record {
  sized = length-set xs b v ∙ p.sized;
  each = λ f m a n s l j le lt h. go f m a n s l j le lt (eq-or-lt_of_le h);
}
  where
    go : (f : ℕ → Answer) (m a : ℕ) → length xs₀ ≡ 63 → ShowsSlots f m a xs₀ → (l j : ℕ) → l ≤ 5 → j < 2 ^ l
        → (b ≡ position l j) ⊎ (b < position l j) → ShowsSet (get_or (set xs b v) (position l j) 0) (set_at f m a l j)
    go f m a n s l j le lt (inl e) =
        let q : l < 5 = level_lt l (eq-or-lt_of_le le) (omega arith) in
        let n' = p.sized in
        let left = p.each f m a n s (suc l) (2 * j) q (omega (arith, pow-suc 2 l)) (omega (arith, pow-suc 2 l)) in
        let right = p.each f m a n s (suc l) (2 * j + 1) q (omega (arith, pow-suc 2 l)) (omega (arith, pow-suc 2 l)) in
        rw (← e, get_or-set_same xs b v 0 (omega arith), halves_sets f m a l j q)
        (combined (set_at f m a (suc l) (2 * j)) (set_at f m a (suc l) (2 * j + 1)) (rw (e, below_left l j) left) (rw (e, below_right l j) right))
      where
        level_lt : (k : ℕ) → (k ≡ 5) ⊎ (k < 5) → 2 ^ k ≤ 31 → k < 5
        level_lt k (inl z) h = let u : 2 ^ k ≡ 32 = rw z in absurd (omega arith)
        level_lt k (inr h) u = h
    go f m a n s l j le lt (inr h) = rw (get_or-set_other xs b (position l j) v 0 (λ e. omega arith)) (p.each f m a n s l j le lt h)

-- ---- What the positions are assigned.

-- What is assigned is assigned again under itself.
pub assigned_again : (choose : List ℕ → ℕ) (S : Cand) (g : Answer) → assigned choose S (assigned choose S g) ≡ assigned choose S g
assigned_again choose hole g = refl
assigned_again choose (of s) g = go (allowed g s) refl
  where
    same : (t : Bool) → cond t (via (choose s)) (via (choose s)) ≡ via (choose s)
    same true = refl
    same false = refl

    go : (t : Bool) → allowed g s ≡ t
        → cond (allowed (cond t g (via (choose s))) s) (cond t g (via (choose s))) (via (choose s)) ≡ cond t g (via (choose s))
    go true e = rw e
    go false e = same (allowed (via (choose s)) s)

module _ (choose : List ℕ → ℕ) (f : ℕ → Answer) (m a : ℕ) (g : Answer) where
  -- What is assigned above position j of level l, where g is assigned above the node.
  abbrev pub assigned_over : ℕ → ℕ → Answer
  assigned_over zero j = g
  assigned_over (suc l) j = assigned_at choose f m a g l (j / 2)

  -- A position is assigned by its candidates and what is assigned above it.
  pub assigned_is : (l j : ℕ) → assigned_at choose f m a g l j ≡ assigned choose (set_at f m a l j) (assigned_over l j)
  unfolding assigned_at
  assigned_is zero j = refl
  assigned_is (suc l) j = refl

  -- One with its parent's candidates is assigned what that is.
  pub assigned_parent : (l j : ℕ) → set_at f m a (suc l) j ≡ set_at f m a l (j / 2) → assigned_at choose f m a g (suc l) j ≡ assigned_at choose f m a g l (j / 2)
  assigned_parent l j e =
      assigned_is (suc l) j ∙ rw (e, assigned_is l (j / 2)) (assigned_again choose (set_at f m a l (j / 2)) (assigned_over l (j / 2)))

  -- The walk of ORTC hands down what is assigned.
  pub state-assigned : (l j : ℕ) → state_at (ortc_out choose wide f) (ortc_next choose f) m a g l j ≡ assigned_over l j
  unfolding state_of
  state-assigned zero j = refl
  state-assigned (suc l) j = ap (assigned choose (set_at f m a l (j / 2))) (state-assigned l (j / 2)) ∙ sym (assigned_is l (j / 2))

-- A position that is not stored is assigned what stands above it.
pub left-assigned : (choose : List ℕ → ℕ) (f : ℕ → Answer) (m a : ℕ) (g : Answer) (xs : List ℕ) → ShowsNode f m a xs → (l j : ℕ) → l ≤ 5 → j < 2 ^ l
    → stored xs (position l j) ≡ false → assigned_over choose f m a g l j ≡ assigned_at choose f m a g l j
left-assigned choose f m a g xs n zero j le lt e = absurd ((left_parent xs (position 0 j) e).0 (omega arith))
left-assigned choose f m a g xs n (suc l) j le lt e =
    let same : get_or xs (position (suc l) j) 0 ≡ get_or xs (position l (j / 2)) 0 =
    (left_parent xs (position (suc l) j) e).1 ∙ ap (λ (k : ℕ). get_or xs k 0) (places.above l j) in
    sym (assigned_parent choose f m a g l j
    ((same_word_same_set (get_or xs (position (suc l) j) 0) (get_or xs (position l (j / 2)) 0) (set_at f m a (suc l) j) (set_at f m a l (j / 2))
    (n.places (suc l) j le lt) (n.places l (j / 2) (omega arith) (omega (arith, pow-suc 2 l)))).0 same))

-- ---- Assigning, from the first position to the last.

-- The hops have at position j of level l what it is assigned, no_hop for nothing.
abbrev pub AssignedHop : (List ℕ → ℕ) → (ℕ → Answer) → ℕ → ℕ → ℕ → List ℕ → ℕ → ℕ → Type 0
AssignedHop choose f m a above hops l j =
    (get_or hops (position l j) 0 ≤ no_hop) × (hop_of (get_or hops (position l j) 0) ≡ assigned_at choose f m a (hop_of above) l j)

-- Then they have above it what is assigned there.
over-assigned : (choose : List ℕ → ℕ) (f : ℕ → Answer) (m a above : ℕ) (hops : List ℕ) → above ≤ no_hop → (l j : ℕ)
    → ((k : ℕ) → suc k ≡ l → AssignedHop choose f m a above hops k (j / 2)) → j < 2 ^ l
    → (over_at hops (position l j) above ≤ no_hop) × (hop_of (over_at hops (position l j) above) ≡ assigned_over choose f m a (hop_of above) l j)
over-assigned choose f m a above hops first zero j parent lt =
    let z : position 0 j ≡ 0 = omega arith in
    let q : over_at hops (position 0 j) above ≡ above = rw (eq-eqb (position 0 j) 0 z) in
    (omega arith, ap hop_of q)
over-assigned choose f m a above hops first (suc l) j parent lt =
    let z : eqb (position (suc l) j) 0 ≡ false = ne_eqb (position (suc l) j) 0 (λ e. omega (arith, pow-suc 2 l, pow_pos l)) in
    let q : over_at hops (position (suc l) j) above ≡ get_or hops (position l (j / 2)) 0 = rw (z, places.above l j) in
    let p = parent l refl in
    (omega arith, ap hop_of q ∙ p.1)

-- Does position b have an entry: is it assigned a hop, and another than the one above?
abbrev pub has_entry : List ℕ → ℕ → ℕ → Bool
has_entry hops above b = is_entry (get_or hops b 0) (over_at hops b above)

-- The positions before b are assigned, and the reader stands before b.
pub record Assigning (choose : List ℕ → ℕ) (o : List ℕ) (top above : ℕ) (hops : List ℕ) (entries mask at b : ℕ) : Type 0 where
  pub sized : length hops ≡ 31
  pub reads : (xs : List ℕ) → Begins (packed xs) top o → Reading xs top o b mask at
  pub each : (f : ℕ → Answer) (m a : ℕ) (xs : List ℕ) → ShowsNode f m a xs → Begins (packed xs) top o → (l j : ℕ) → l ≤ 4 → j < 2 ^ l
      → position l j < b → AssignedHop choose f m a above hops l j
  pub done : (i : ℕ) → i < b → bit entries i ≡ has_entry hops above i
  pub clear : (i : ℕ) → b ≤ i → i < 31 → bit entries i ≡ false

-- Before the first position nothing is assigned.
pub assigning_start : (choose : List ℕ → ℕ) (o : List ℕ) (top above : ℕ) (hops : List ℕ) (mask at : ℕ) → length hops ≡ 31 → mask ≡ get_or o top 0 → at ≡ top + 1
    → Assigning choose o top above hops 0 mask at 0
assigning_start choose o top above hops mask at n e s = record {
  sized = n;
  reads = λ xs h. reading-start xs top o mask at h e s;
  each = λ f m a xs n h l j le lt q. absurd (omega arith);
  done = λ i lt. absurd (omega arith);
  clear = λ i le lt. bit-zero i;
}

-- What stands above a position is not changed by a position from there on.
over-kept : (hops : List ℕ) (b above v i : ℕ) → i ≤ b → over_at (set hops b v) i above ≡ over_at hops i above
over-kept hops b above v zero le = refl
over-kept hops b above v (suc i) le =
    rw (ne_eqb (suc i) 0 (λ z. omega arith)) (get_or-set_other hops b ((suc i - 1) / 2) v 0 (λ q. omega arith))

module _ {choose : List ℕ → ℕ} {o : List ℕ} {top above : ℕ} {hops : List ℕ} {entries mask at b : ℕ} (p : Assigning choose o top above hops entries mask at b) where
  -- Where the position is stored there is room for its two words.
  pub assigning_room : (xs : List ℕ) → Begins (packed xs) top o → b < 31 → eqb (mask % 2) 1 ≡ true → at + 2 ≤ length o
  assigning_room xs h small e =
      let r = p.reads xs h in
      (reading-taken r small (sym (reading-stored r small) ∙ e)).room

  module _ {over hop mask' at' : ℕ} (small : b < 31) (first : above ≤ no_hop) (is : over ≡ over_at hops b above)
      (s : Stepped choose o mask at over hop mask' at') where
    -- The position's hop is what it is assigned.
    hop_is : (f : ℕ → Answer) (m a : ℕ) (xs : List ℕ) → ShowsNode f m a xs → Begins (packed xs) top o → (l j : ℕ) → l ≤ 4 → j < 2 ^ l
        → b ≡ position l j → (hop ≤ no_hop) × (hop_of hop ≡ assigned_at choose f m a (hop_of above) l j)
    hop_is f m a xs n h l j le lt e = (s.low (rw (is, e) parents.0), go (stored xs b) refl)
      where
        r : Reading xs top o b mask at
        r = p.reads xs h

        parent : (k : ℕ) → suc k ≡ l → AssignedHop choose f m a above hops k (j / 2)
        parent k q =
            let half : j < 2 ^ suc k = rw q lt in
            let up : b ≡ position (suc k) j = rw q e in
            p.each f m a xs n h k (j / 2) (omega arith) (omega (arith, pow-suc 2 k)) (omega (arith, pow-suc 2 k, pow_pos k))

        parents : (over_at hops (position l j) above ≤ no_hop) × (hop_of (over_at hops (position l j) above) ≡ assigned_over choose f m a (hop_of above) l j)
        parents = over-assigned choose f m a above hops first l j parent lt

        over_is : hop_of (over_at hops b above) ≡ assigned_over choose f m a (hop_of above) l j
        over_is = rw e parents.1

        go : (t : Bool) → stored xs b ≡ t → hop_of hop ≡ assigned_at choose f m a (hop_of above) l j
        go true t =
            let shown : ShowsSet (get_or xs b 0) (set_at f m a l j) = rw e (n.places l j (omega arith) lt) in
            s.taken (reading-stored r small ∙ t) (set_at f m a l j) (rw (reading-taken r small t).word shown)
            ∙ ap (assigned choose (set_at f m a l j)) (ap hop_of is ∙ over_is) ∙ sym (assigned_is choose f m a (hop_of above) l j)
        go false t =
            ap hop_of (s.kept (reading-stored r small ∙ t) ∙ is) ∙ over_is
            ∙ left-assigned choose f m a (hop_of above) xs n l j (omega arith) lt (rw e at t)

    -- One position more.
    pub assigning_next : (entries' : ℕ)
        → ((i : ℕ) → i < 31 → bit entries' i ≡ ((eqb i b && is_entry hop over) || bit entries i))
        → Assigning choose o top above (set hops b hop) entries' mask' at' (b + 1)
    assigning_next entries' w = record {
      sized = length-set hops b hop ∙ p.sized;
      reads = λ xs h. reading-next (p.reads xs h) small mask' at' s.masks s.tops;
      each = λ f m a xs n h l j le lt q. hops-are f m a xs n h l j le lt (eq-or-lt_of_le q);
      done = λ i q. bits_are i (eq-or-lt_of_le q);
      clear = λ i le lt. w i lt ∙ rw (ne_eqb i b (λ z. omega arith)) (p.clear i (omega arith) lt);
    }
      where
        here_is : get_or (set hops b hop) b 0 ≡ hop
        here_is = get_or-set_same hops b hop 0 (omega (arith, p.sized))

        before_is : (k : ℕ) → k < b → get_or (set hops b hop) k 0 ≡ get_or hops k 0
        before_is k less = get_or-set_other hops b k hop 0 (λ e. omega arith)

        hops-are : (f : ℕ → Answer) (m a : ℕ) (xs : List ℕ) → ShowsNode f m a xs → Begins (packed xs) top o → (l j : ℕ) → l ≤ 4 → j < 2 ^ l
            → (suc (position l j) ≡ b + 1) ⊎ (suc (position l j) < b + 1) → AssignedHop choose f m a above (set hops b hop) l j
        hops-are f m a xs n h l j le lt (inl e) =
            let q : b ≡ position l j = omega arith in
            rw (← q, here_is) (hop_is f m a xs n h l j le lt q)
        hops-are f m a xs n h l j le lt (inr less) =
            rw (before_is (position l j) (omega arith)) (p.each f m a xs n h l j le lt (omega arith))

        bits_are : (i : ℕ) → (suc i ≡ b + 1) ⊎ (suc i < b + 1) → bit entries' i ≡ has_entry (set hops b hop) above i
        bits_are i (inl e) =
            let q : i ≡ b = omega arith in
            rw q (w b small
            ∙ rw (eq-eqb b b refl, p.clear b (omega arith) small, here_is, over-kept hops b above hop b (omega arith), ← is) (or-false _))
        bits_are i (inr less) =
            w i (omega arith)
            ∙ rw (ne_eqb i b (λ z. omega arith), before_is i (omega arith), over-kept hops b above hop i (omega arith)) (p.done i (omega arith))

-- The first position, where all are given its hop at once.
pub assigning_first : (choose : List ℕ → ℕ) (o : List ℕ) (top above : ℕ) {hop mask at mask' at' : ℕ} → mask ≡ get_or o top 0 → at ≡ top + 1 → above ≤ no_hop
    → Stepped choose o mask at above hop mask' at' → (entries : ℕ)
    → ((i : ℕ) → i < 31 → bit entries i ≡ ((eqb i 0 && is_entry hop above) || bit 0 i))
    → Assigning choose o top above (replicate 31 hop) entries mask' at' 1
assigning_first choose o top above {hop} {mask} {at} e s first p =
    assigning_next (assigning_start choose o top above (replicate 31 hop) mask at refl e s) (omega arith) first refl p

module _ {choose : List ℕ → ℕ} {o : List ℕ} {top above entries at : ℕ} (first : above ≤ no_hop) where
  -- A position with the hop above it is assigned where none to come is stored.
  assigning_left : {hops : List ℕ} {b : ℕ} → Assigning choose o top above hops entries 0 at b → b < 31 → get_or hops b 0 ≡ over_at hops b above
      → Assigning choose o top above hops entries 0 at (b + 1)
  assigning_left {hops} {b} p small e =
      subst (λ (hs : List ℕ). Assigning choose o top above hs entries 0 at (b + 1)) (set-get_or hops b 0)
      (assigning_next p small first refl left entries (λ i lt. rw (eq-eqb (get_or hops b 0) (over_at hops b above) e, and-false)))
    where
      left : Stepped choose o 0 at (over_at hops b above) (get_or hops b 0) 0 at
      left = record {
        masks = refl;
        tops = sym (add-zero at);
        kept = λ z. e;
        taken = λ z S h. absurd (true≢false (sym z));
        low = λ h. omega (arith, e);
      }

  -- So where all have one hop, and none but the first is stored, all are.
  pub assigning_rest : {hop : ℕ} (n b : ℕ) → b + n ≡ 31 → 0 < b → Assigning choose o top above (replicate 31 hop) entries 0 at b
      → Assigning choose o top above (replicate 31 hop) entries 0 at 31
  assigning_rest {hop} zero b e low p = subst (Assigning choose o top above (replicate 31 hop) entries 0 at) (omega arith) p
  assigning_rest {hop} (suc n) b e low p = assigning_rest n (b + 1) (omega arith) (omega arith) (assigning_left p (omega arith) same)
    where
      same : get_or (replicate 31 hop) b 0 ≡ over_at (replicate 31 hop) b above
      same =
          get_or-replicate 31 b hop 0 (omega arith)
          ∙ rw (ne_eqb b 0 (λ z. omega arith)) (sym (get_or-replicate 31 ((b - 1) / 2) hop 0 (omega arith)))

-- After the last position all are assigned, and the reader stands past the node's own words.
pub assigning_end : {choose : List ℕ → ℕ} {o : List ℕ} {top above : ℕ} {hops : List ℕ} {entries mask at b : ℕ} → Assigning choose o top above hops entries mask at b → b ≡ 31
    → ((xs : List ℕ) → Begins (packed xs) top o → at ≡ top + length (packed xs))
    × (((f : ℕ → Answer) (m a : ℕ) (xs : List ℕ) → ShowsNode f m a xs → Begins (packed xs) top o → (l j : ℕ) → l ≤ 4 → j < 2 ^ l
    → AssignedHop choose f m a above hops l j)
    × ((i : ℕ) → i < 31 → bit entries i ≡ has_entry hops above i))
assigning_end p z = (
  λ xs e. reading_end (p.reads xs e) z,
  (
    λ f m a xs n e l j le lt. let q = in_word l j le lt in p.each f m a xs n e l j le lt (omega arith),
    λ i lt. p.done i (omega arith),
  ),
)

-- ---- The entries.

-- A position has an entry exactly where its hop is one and not the one above: it is ORTC's.
pub entry_is : (choose : List ℕ → ℕ) → Chooses choose → (x : ℕ) (S : Cand) → ShowsSet x S → (n a len hop over : ℕ) → len ≡ wide - n → hop ≤ no_hop → over ≤ no_hop
    → hop_of hop ≡ assigned choose S (hop_of over) → entry_over a len hop over ≡ here choose wide S n a (hop_of over)
entry_is choose law x hole shown n a len hop over k p q = λ e. rw (le-ltb hop no_hop (hop_none hop e), and-false)
entry_is choose law x (of []) shown n a len hop over k p q = λ e. absurd shown.1
entry_is choose law x (of (c ∷ s)) shown n a len hop over k p q = go (allowed (hop_of over) (c ∷ s)) refl
  where
    go : (t : Bool) → allowed (hop_of over) (c ∷ s) ≡ t → hop_of hop ≡ cond t (hop_of over) (via (choose (c ∷ s)))
        → entry_over a len hop over ≡ cond t [] (record { addr = a; len = wide - n; hop = choose (c ∷ s) } ∷ [])
    go true t e = rw (eq-eqb hop over (hop_unique hop over p q e))
    go false t e =
        let v = hop-via hop (choose (c ∷ s)) e in
        rw (ne_eqb hop over (λ z. true≢false (sym (law c s) ∙ ap (λ (g : Answer). allowed g (c ∷ s)) (sym e ∙ ap hop_of z) ∙ t)), lt-ltb hop no_hop v.1, v.0, k)

-- A region where all addresses have one answer has an entry unless it is the one above.
pub leaf-entry : (choose : List ℕ → ℕ) → Chooses choose → (n a len hop over : ℕ) → len ≡ wide - n → hop ≤ no_hop → over ≤ no_hop
    → entry_over a len hop over ≡ here choose wide (leaf (hop_of hop)) n a (hop_of over)
leaf-entry choose law n a len hop over k p q =
    let shown = hop-shown hop in
    entry_is choose law shown.0 (leaf (hop_of hop)) shown.1 n a len hop over k p q (sym (leaf-assigned choose wide law (hop_of hop) (hop_of over)))

-- The entries that the bits and the hops of a node say are those of ORTC's walk.
module _ (choose : List ℕ → ℕ) (law : Chooses choose) (f : ℕ → Answer) (depth key above entries : ℕ) (hops xs : List ℕ) (deep : depth ≤ 60) (first : above ≤ no_hop)
    (shown : ShowsNode f (slot_size depth) key xs)
    (assigns : (l j : ℕ) → l ≤ 4 → j < 2 ^ l → AssignedHop choose f (slot_size depth) key above hops l j)
    (bits : (b : ℕ) → b < 31 → bit entries b ≡ has_entry hops above b) where
  pub entries_are : (l j : ℕ) → l ≤ 4 → j < 2 ^ l → entry_at entries hops depth key l j
      ≡ ortc_out choose wide f (size_at (slot_size depth) l) (place_at (slot_size depth) key l j)
      (state_at (ortc_out choose wide f) (ortc_next choose f) (slot_size depth) key (hop_of above) l j)
  entries_are l j le lt =
      rw (bits (position l j) (in_word l j le lt), state-assigned choose f (slot_size depth) key (hop_of above) l j, ← over.1)
      (entry_is choose law (get_or xs (position l j) 0) (set_at f (slot_size depth) key l j) (shown.places l j (omega arith) lt)
      (size_at (slot_size depth) l) (place_at (slot_size depth) key l j) (depth + l) (get_or hops (position l j) 0) (over_at hops (position l j) above)
      (omega arith) (assigns l j le lt).0 over.0
      ((assigns l j le lt).1 ∙ assigned_is choose f (slot_size depth) key (hop_of above) l j
      ∙ ap (assigned choose (set_at f (slot_size depth) key l j)) (sym over.1)))
    where
      over : (over_at hops (position l j) above ≤ no_hop)
          × (hop_of (over_at hops (position l j) above) ≡ assigned_over choose f (slot_size depth) key (hop_of above) l j)
      over = over-assigned choose f (slot_size depth) key above hops first l j
          (λ k q. assigns k (j / 2) (omega arith) (let half : j < 2 ^ suc k = rw q lt in omega (arith, pow-suc 2 k))) lt

-- ---- The slots that have an entry with no record in them.

-- Two hops that say the same are entries under the same hops.
same_entry : (v w over : ℕ) → hop_of v ≡ hop_of w → is_entry v over ≡ is_entry w over
same_entry v w over q = go (ltb w no_hop) refl
  where
    go : (t : Bool) → ltb w no_hop ≡ t → is_entry v over ≡ is_entry w over
    go true e =
        let s : hop_of w ≡ via w = rw e in
        rw (hop-via v w (q ∙ s)).0
    go false e =
        let s : hop_of w ≡ none = rw e in
        rw (le-ltb v no_hop (hop_none v (q ∙ s)), e) (and-false (not (eqb v over)) ∙ sym (and-false (not (eqb w over))))

-- At the positions of the last level before p, what answers the slots under them is what they are assigned.
abbrev pub LeavesSame : List ℕ → List ℕ → ℕ → ℕ → Type 0
LeavesSame covering hops fill p = (i : ℕ) → 15 ≤ i → i < p → hop_of (get_or hops i 0) ≡ or_else (hop_of (get_or covering i 0)) (hop_of fill)

-- Where it is so at all of them, no slot has an entry.
pub same_unmarked : (covering hops : List ℕ) (fill : ℕ) → LeavesSame covering hops fill 31 → LeafSlots covering hops fill 0
same_unmarked covering hops fill h c v lt e =
    let w = get_or hops (15 + c / 2) 0 in
    let q : is_entry w w ≡ false = rw (eq-eqb w w refl) in
    bit-zero c ∙ sym (same_entry v w w (e ∙ sym (h (15 + c / 2) (omega arith) (omega arith))) ∙ q)

-- The positions of the last level before p are marked where what answers the slots under them is a hop, and not the one they are assigned.
pub record LeavesMarked (covering hops : List ℕ) (fill marked p : ℕ) : Type 0 where
  pub done : (i v : ℕ) → 15 ≤ i → i < p → hop_of v ≡ or_else (hop_of (get_or covering i 0)) (hop_of fill)
      → bit marked i ≡ is_entry v (get_or hops i 0)
  pub clear : (i : ℕ) → p ≤ i → i < 32 → bit marked i ≡ false

-- At the start none is.
pub leaves_start : (covering hops : List ℕ) (fill : ℕ) → LeavesMarked covering hops fill 0 15
leaves_start covering hops fill = record { done = λ i v le lt e. absurd (omega arith); clear = λ i le lt. bit-zero i }

module _ {covering hops : List ℕ} {fill marked p : ℕ} (h : LeavesMarked covering hops fill marked p) where
  -- One position more.
  pub leaves_next : p < 31 → (w : ℕ) → hop_of w ≡ or_else (hop_of (get_or covering p 0)) (hop_of fill) → (marked' : ℕ)
      → ((i : ℕ) → i < 32 → bit marked' i ≡ ((eqb i p && is_entry w (get_or hops p 0)) || bit marked i))
      → LeavesMarked covering hops fill marked' (p + 1)
  leaves_next small w is marked' bits = record {
    done = λ i v le lt e. go i v le (eq-or-lt_of_le lt) e;
    clear = λ i le lt. bits i lt ∙ rw (ne_eqb i p (λ z. omega arith)) (h.clear i (omega arith) lt);
  }
    where
      go : (i v : ℕ) → 15 ≤ i → (suc i ≡ p + 1) ⊎ (suc i < p + 1) → hop_of v ≡ or_else (hop_of (get_or covering i 0)) (hop_of fill)
          → bit marked' i ≡ is_entry v (get_or hops i 0)
      go i v le (inl z) e =
          let q : i ≡ p = omega arith in
          rw q (bits p (omega arith)
          ∙ rw (eq-eqb p p refl, h.clear p (omega arith) (omega arith), or-false)
          (same_entry w v (get_or hops p 0) (is ∙ sym (rw q at e))))
      go i v le (inr less) e = bits i (omega arith) ∙ rw (ne_eqb i p (λ z. omega arith)) (h.done i v le (omega arith) e)

  -- After the last, both slots under each are marked as it is.
  pub leaves_end : p ≡ 31 → (r : ℕ) → PushedSlots marked r → LeafSlots covering hops fill r
  leaves_end z r f c v lt e =
      pushed_is marked r (h.clear 31 (omega arith) (omega arith)) f c lt ∙ h.done (15 + c / 2) v (omega arith) (omega arith) e
