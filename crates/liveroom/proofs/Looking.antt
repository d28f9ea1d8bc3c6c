-- The longest match among a room's records in order: of those that match an address the last is the longest, and none stands behind its place.
use Prim.Native.Nat.{ℕ, zero, suc, ◌+◌, ◌-◌, ◌/◌, ◌^◌, ◌≤◌, ◌<◌}
use mathlib.Core.Path.{◌≡◌, refl, sym, ap, ap₂, subst, ◌∙◌}
use mathlib.Core.Bool.{Bool, true, false, true≢false, ◌&&◌}
use mathlib.Core.List.{List, [], ◌∷◌, ◌++◌}
use mathlib.Core.Logic.{inl, inr}
use native.Mathlib.Nat.{le_refl, le-div_iff_mul-le, mul-le-mul_right}
use native.Mathlib.Decide.{dec_lt}
use native.Mathlib.Omega.{arith}
use lib.Bits.{bit_xor, xor_add_and, and_le_l, and_le_r, xor_lt, xor_shr, xor_self}
use lib.Count.{count_leading_zeros, leading_le, leading_top}
use lib.Pow.{pow_pos, shr_mono}
use borrow.Author.Tests.{le-leb, eq-eqb, eqb-true}
use Rattle.theory.specs.Results.{start_of}
use Rattle.theory.specs.Routes.{Route, matches, miss, hit, lookup, Valid, All, Before, Ascending, empty, first, Table}
use Rattle.theory.proofs.Blocks.{aligned_down, next-block, fewer_bits}
use Rattle.theory.proofs.Lists.{all_member, member_all, member-left}
use Rattle.theory.proofs.LongestMatch.{lookup_is, lookup_none}
use Rattle.theory.proofs.Routed.{matches_in}
use Rattle.words.specs.Prefix.{within}
use Rattle.table.specs.SizedRules.{before}
use Rattle.nodecount.specs.Nodes.{bare}
use Rattle.liveroom.specs.Rooms.{route_in, shown_from}
use Rattle.liveroom.specs.Inner.{Placed, Shared}
use Rattle.liveroom.proofs.Placing.{before_above}
use Rattle.liveroom.proofs.Reading.{rest_in, rest_split, all_shown, shown_all, shown-before, shown-member}
use Rattle.liveroom.proofs.Sound.{before_true, true_before}

-- The front of a list in order is in order.
ascending_front : (s t : List Route) → Ascending (s ++ t) → Ascending s
ascending_front [] t o = empty
ascending_front (r ∷ s) t (first b o) = first (member_all s (λ u m. all_member b (member-left t m))) (ascending_front s t o)

-- Of two routes that match one address, the one before the other is no longer.
pub matched_longer : (w x : ℕ) {r s : Route} → Valid w r → Valid w s → Before r s → matches w r x ≡ true → matches w s x ≡ true → r.len ≤ s.len
matched_longer w x {r} {s} u v (inr e) p q = omega (arith, e.1)
matched_longer w x {r} {s} u v (inl lt) p q = go (dec_lt s.len r.len)
  where
    go : Dec (s.len < r.len) → r.len ≤ s.len
    go (no ge) = omega arith
    go (yes h) =
        let i = (matches_in w u x).0 p in
        let j = (matches_in w v x).0 q in
        let up = next-block (w - r.len) r.addr s.addr u.clean (aligned_down (w - r.len) (w - s.len) s.addr (omega arith) v.clean) lt in
        absurd (omega (arith, i.1, j.0))

-- How many leading zeros the difference of two addresses has, bit by bit, is how many bits they share.
pub leading_shared : (a b r : ℕ) → a < 2 ^ 32 → b < 2 ^ 32 → r ≡ count_leading_zeros 32 (bit_xor a b) → Shared a b r
leading_shared a b r la lb e = record { most = omega (arith, leading_le 32 (bit_xor a b)); apart = differ }
  where
    some : (a ≡ b → ⊥) → 0 < bit_xor a b
    some ne = go (bit_xor a b) refl
      where
        go : (x : ℕ) → bit_xor a b ≡ x → 0 < x
        go zero z = absurd (ne (omega (arith, xor_add_and a b, and_le_l a b, and_le_r a b)))
        go (suc x) z = omega arith

    differ : (a ≡ b → ⊥) → (r < 32) × (a / 2 ^ (32 - (r + 1)) ≡ b / 2 ^ (32 - (r + 1)) → ⊥)
    differ ne =
        let t = leading_top 32 (bit_xor a b) (some ne) (xor_lt 32 a b la lb) in
        let j : ℕ = t.0 in
        let k : 32 - (r + 1) ≡ j = omega (arith, t.1) in (
          omega (arith, t.1),
          λ same.
              let s : a / 2 ^ j ≡ b / 2 ^ j = rw k at same in
              let z : bit_xor a b / 2 ^ j ≡ 0 = xor_shr a b j ∙ ap (λ (y : ℕ). bit_xor y (b / 2 ^ j)) s ∙ xor_self (b / 2 ^ j) in
              let one : 1 ≤ bit_xor a b / 2 ^ j = (le-div_iff_mul-le (pow_pos j)).1 (omega (arith, t.2)) in
              omega arith,
        )

-- What the code asks of a record by what it has read of it.
pub asked_matches : (r : Route) (x a l : ℕ) → a ≡ r.addr → l ≡ r.len → l ≤ 32 → within 32 a l x 32 ≡ matches 32 r x
asked_matches r x a l ea el le =
    ap (λ (b : Bool). b && matches 32 (bare a l) x) (le-leb l 32 le) ∙ ap₂ (λ (y k : ℕ). matches 32 (bare y k) x) ea el

module _ (room : List ℕ) (n x : ℕ) (v : Table 32 (shown_from room 0 n)) where
  valid_in : (k : ℕ) → k < n → Valid 32 (route_in room k)
  valid_in k lt = shown_all room 0 n v.valid k (omega arith) (omega arith)

  -- Behind the place of the address and length 33 no record matches.
  pub past-place : (at : ℕ) → Placed room n x 33 at → (k : ℕ) → at ≤ k → k < n → matches 32 (route_in room k) x ≡ false
  past-place at p k le lt = go (matches 32 (route_in room k) x) refl
    where
      here : before (route_in room k) (bare x 33) ≡ false
      here = before_above room n at x 33 v.order (p.stops (omega arith)) k le lt

      go : (b : Bool) → matches 32 (route_in room k) x ≡ b → b ≡ false
      go false e = refl
      go true e =
          let u = valid_in k lt in
          let i = (matches_in 32 u x).0 e in
          absurd (true≢false (sym (true_before (route_in room k) (bare x 33) (ahead (dec_lt (route_in room k).addr x) i.0 u.short)) ∙ here))
        where
          ahead : Dec ((route_in room k).addr < x) → (route_in room k).addr ≤ x → (route_in room k).len ≤ 32 → Before (route_in room k) (bare x 33)
          ahead (yes h) low short = inl h
          ahead (no h) low short = inr (omega arith, omega arith)

  -- Behind it no record stands at a higher address.
  pub before-place : (at : ℕ) → Placed room n x 33 at → (k : ℕ) → k < at → (route_in room k).addr ≤ x
  before-place at p k lt = go (before_true (route_in room k) (bare x 33) (p.over k lt))
    where
      go : Before (route_in room k) (bare x 33) → (route_in room k).addr ≤ x
      go (inl h) = omega arith
      go (inr h) = omega (arith, h.0)

  pub order_to : (i : ℕ) → i ≤ n → Ascending (shown_from room 0 i)
  order_to i le = ascending_front (shown_from room 0 i) (rest_in room n i) (subst Ascending (rest_split room n i le) v.order)

  -- Record i does not match, and shares c bits with the address: no record between the place of so many bits and one more and record i matches.
  module _ (i c at : ℕ) (lt : i < n) (low : (route_in room i).addr ≤ x) (miss_i : matches 32 (route_in room i) x ≡ false)
      (shared : Shared (route_in room i).addr x c) (p : Placed room i (start_of (32 - c) x) (c + 1) at) where
    parted : (c < 32) × ((route_in room i).addr / 2 ^ (32 - (c + 1)) ≡ x / 2 ^ (32 - (c + 1)) → ⊥)
    parted =
        shared.apart (λ e. true≢false (sym (eq-eqb (x / 2 ^ (32 - (route_in room i).len)) ((route_in room i).addr / 2 ^ (32 - (route_in room i).len))
        (ap (λ (y : ℕ). y / 2 ^ (32 - (route_in room i).len)) (sym e))) ∙ miss_i))

    pub skipped : (k : ℕ) → at ≤ k → k < i → matches 32 (route_in room k) x ≡ false
    skipped k le less = go (matches 32 (route_in room k) x) refl
      where
        u : Valid 32 (route_in room k)
        u = valid_in k (omega arith)

        here : before (route_in room k) (bare (start_of (32 - c) x) (c + 1)) ≡ false
        here = before_above room i at (start_of (32 - c) x) (c + 1) (order_to i (omega arith)) (p.stops (omega arith)) k le less

        addr_le : Before (route_in room k) (route_in room i) → (route_in room k).addr ≤ (route_in room i).addr
        addr_le (inl h) = omega arith
        addr_le (inr h) = omega (arith, h.0)

        -- A record that matches is no longer than the bits shared,
        short : matches 32 (route_in room k) x ≡ true → Dec (c < (route_in room k).len) → (route_in room k).len ≤ c
        short e (no h) = omega arith
        short e (yes h) =
            let s : ℕ = 32 - (c + 1) in
            let same : x / 2 ^ s ≡ (route_in room k).addr / 2 ^ s = fewer_bits 32 (c + 1) (route_in room k).len x (route_in room k).addr (omega arith) (eqb-true _ _ e) in
            let one = shr_mono s (addr_le (shown-before room n k i v.order less lt)) in
            let two = shr_mono s low in
            absurd (parted.1 (omega arith))

        -- and so it stands before the place.
        stands : matches 32 (route_in room k) x ≡ true → (route_in room k).len ≤ c → Before (route_in room k) (bare (start_of (32 - c) x) (c + 1))
        stands e h =
            let i-k = (matches_in 32 u x).0 e in
            let a = aligned_down (32 - c) (32 - (route_in room k).len) (route_in room k).addr (omega arith) u.clean in
            let q : a.0 ≤ x / 2 ^ (32 - c) = (le-div_iff_mul-le (pow_pos (32 - c))).1 (omega (arith, a.1, i-k.0)) in
            let up : (route_in room k).addr ≤ start_of (32 - c) x = omega (arith, a.1, mul-le-mul_right (2 ^ (32 - c)) q) in
            pick (dec_lt (route_in room k).addr (start_of (32 - c) x)) up
          where
            pick : Dec ((route_in room k).addr < start_of (32 - c) x) → (route_in room k).addr ≤ start_of (32 - c) x
                → Before (route_in room k) (bare (start_of (32 - c) x) (c + 1))
            pick (yes g) up = inl g
            pick (no g) up = inr (omega arith, omega arith)

        go : (b : Bool) → matches 32 (route_in room k) x ≡ b → b ≡ false
        go false e = refl
        go true e =
            absurd (true≢false (sym (true_before (route_in room k) (bare (start_of (32 - c) x) (c + 1)) (stands e (short e (dec_lt c (route_in room k).len)))) ∙ here))

  abbrev NoLonger : ℕ → Route → Type 0
  NoLonger i s = matches 32 s x ≡ true → s.len ≤ (route_in room i).len

  -- The last record that matches is the longest match.
  pub last_match : (i l h : ℕ) → i < n → l ≡ (route_in room i).len → h ≡ (route_in room i).hop → matches 32 (route_in room i) x ≡ true
      → ((k : ℕ) → i + 1 ≤ k → k < n → matches 32 (route_in room k) x ≡ false) → hit l h ≡ lookup 32 (shown_from room 0 n) x
  last_match i l h lt el eh e none =
      ap₂ hit el eh
      ∙ sym (lookup_is 32 v x (record { member = shown-member room n i lt; matching = e; longest = λ s m q. all_member all m q }))
    where
      each : (k : ℕ) → k < n → NoLonger i (route_in room k)
      each k ks q = go (dec_lt k i) (dec_lt i k)
        where
          go : Dec (k < i) → Dec (i < k) → (route_in room k).len ≤ (route_in room i).len
          go (yes a) b = matched_longer 32 x (valid_in k ks) (valid_in i lt) (shown-before room n k i v.order a lt) q e
          go (no a) (yes b) = absurd (true≢false (sym q ∙ none k (omega arith) ks))
          go (no a) (no b) = let j : k ≡ i = omega arith in rw j (le_refl (route_in room i).len)

      all : All (NoLonger i) (shown_from room 0 n)
      all = all_shown {P = NoLonger i} room 0 n (λ k z ks. each k (omega arith))

  -- There is none where no record matches.
  pub no_match : (i : ℕ) → i ≡ 0 → ((k : ℕ) → i ≤ k → k < n → matches 32 (route_in room k) x ≡ false) → miss ≡ lookup 32 (shown_from room 0 n) x
  no_match i z none =
      sym ((lookup_none 32 (shown_from room 0 n) x).1 (λ s m q.
      true≢false (sym q ∙ all_member (all_shown {P = λ s. matches 32 s x ≡ false} room 0 n (λ k y ks. none k (omega arith) (omega arith))) m)))
