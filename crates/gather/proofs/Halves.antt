-- Half of a wide address, as the code has it, fits 64 bits: the place of an address, the address of a slot and its last one, by shifts that lose
-- no bit.
use Prim.Native.Nat.{ℕ, suc, ◌+◌, ◌-◌, ◌*◌, ◌/◌, ◌%◌, ◌^◌, ◌≤◌, ◌<◌}
use mathlib.Core.Path.{◌≡◌, sym, ap, ◌∙◌}
use mathlib.Core.Logic.{◌⊎◌, inl, inr}
use native.Mathlib.Nat.{pow-suc, mul_comm, mul_assoc, add-mul, mul-div-mul_right, eq-or-lt_of_le, mul-lt-mul_of_pos_right}
use native.Mathlib.Omega.{arith}
use lib.Pow.{pow_pos, pow-add, low, high, shr-shr, shr_lt, shl_exact, shl-shr, ones_split}
use Rattle.theory.specs.Results.{In}
use Rattle.words.specs.Keys.{key_of}
use Rattle.records.specs.Sized.{IsSize, width_in}
use Rattle.records.proofs.SizedReading.{width_most}
use Rattle.positions.specs.Runs.{size_at, place_at}
use Rattle.positions.proofs.RunsNode.{size-slot}
use Rattle.nodes.specs.Node.{wide, spare, slot_size, At}
use Rattle.nodes.proofs.OutputLaws.{slot-within}

-- ---- The address of a record.

-- Twice a key is the wide address.
pub key_wide : (size : ℕ) → IsSize size → (a : ℕ) → key_of (width_in size) a * 2 ≡ a * 2 ^ spare size
key_wide size is a =
    let e : spare size ≡ suc (64 - width_in size) = omega (arith, width_most size is) in
    mul_assoc a (2 ^ (64 - width_in size)) 2 ∙ ap (λ (k : ℕ). a * k) (sym (pow-suc 2 (64 - width_in size)) ∙ ap (λ (k : ℕ). 2 ^ k) (sym e))

-- ---- The place of an address.

module _ (depth : ℕ) (deep : depth ≤ 60) where
  -- 2 ^ 64 as the addresses of a node by the nodes at its depth.
  whole : 2 ^ (64 - depth) * 2 ^ depth ≡ 2 ^ 64
  whole = let e : (64 - depth) + depth ≡ 64 = omega arith in sym (pow-add 2 (64 - depth) depth) ∙ ap (λ (k : ℕ). 2 ^ k) e

  -- A node has twice as many wide addresses as code addresses.
  twice : 2 ^ (wide - depth) ≡ 2 ^ (64 - depth) * 2
  twice = let e : wide - depth ≡ suc (64 - depth) = omega arith in rw e (pow-suc 2 (64 - depth))

  -- The bits above the node go by the shift, and its slot's five come down.
  bits_of : (q z : ℕ) → z < 2 ^ (64 - depth) → (q * 2 ^ (64 - depth) + z) * 2 ^ depth % 2 ^ 64 / 2 ^ 59 ≡ z * 2 / 2 ^ (60 - depth)
  bits_of q z lt =
      let P : ℕ = 2 ^ (64 - depth) in
      let D : ℕ = 2 ^ depth in
      let spread : (q * P + z) * D ≡ q * 2 ^ 64 + z * D = add-mul (q * P) z D ∙ ap (λ (k : ℕ). k + z * D) (mul_assoc q P D ∙ ap (λ (k : ℕ). q * k) whole) in
      let fits : z * D < 2 ^ 64 = rw whole at (mul-lt-mul_of_pos_right {m = z} {n = P} {k = D} lt (pow_pos depth)) in
      let e : (60 - depth) + depth ≡ 60 = omega arith in
      let down : z * 2 * D / 2 ^ 60 ≡ z * 2 / 2 ^ (60 - depth) =
      ap (λ (k : ℕ). z * 2 * D / k) (ap (λ (k : ℕ). 2 ^ k) (sym e) ∙ pow-add 2 (60 - depth) depth)
      ∙ mul-div-mul_right (z * 2) (2 ^ (60 - depth)) (pow_pos depth) in
      let two : z * 2 * D ≡ z * D * 2 = mul_assoc z 2 D ∙ ap (λ (k : ℕ). z * k) (mul_comm 2 D) ∙ sym (mul_assoc z D 2) in
      let half : z * D / 2 ^ 59 ≡ z * D * 2 / 2 ^ 60 = sym (mul-div-mul_right (z * D) (2 ^ 59) (omega arith)) in
      ap (λ (k : ℕ). k % 2 ^ 64 / 2 ^ 59) spread
      ∙ ap (λ (k : ℕ). k / 2 ^ 59) (low q 64 fits)
      ∙ half ∙ ap (λ (k : ℕ). k / 2 ^ 60) (sym two) ∙ down

  -- So the slot of an address is had without the key of the node in which it lies.
  pub slot_of : (x a : ℕ) → At depth a → In (wide - depth) a (x * 2) → x * 2 ^ depth % 2 ^ 64 / 2 ^ 59 ≡ (x * 2 - a) / 2 ^ slot_size depth
  slot_of x a at i =
      let q : ℕ = at.aligned.0 in
      let P : ℕ = 2 ^ (64 - depth) in
      let e : a ≡ q * P * 2 = at.aligned.1 ∙ ap (λ (k : ℕ). q * k) twice ∙ sym (mul_assoc q P 2) in
      let z : ℕ = x - q * P in
      let lt : z < P = omega (arith, twice) in
      let split : x ≡ q * P + z = omega arith in
      let rest : x * 2 - a ≡ z * 2 = omega arith in
      ap (λ (k : ℕ). k * 2 ^ depth % 2 ^ 64 / 2 ^ 59) split ∙ bits_of q z lt ∙ ap (λ (k : ℕ). k / 2 ^ (60 - depth)) (sym rest)

-- A slot's number has five bits.
pub slot_small : (y : ℕ) → y % 2 ^ 64 / 2 ^ 59 < 32
slot_small y = omega arith

-- The index at a level is the slot's number without the last bits.
pub index_up : (y depth l : ℕ) → y / 2 ^ slot_size depth / 2 ^ (5 - l) ≡ y / 2 ^ size_at (slot_size depth) l
index_up y depth l = shr-shr y (slot_size depth) (5 - l)

-- It is one of the level's.
pub index-small : (s l : ℕ) → s < 32 → l ≤ 5 → s / 2 ^ (5 - l) < 2 ^ l
index-small s l lt le = let e : l + (5 - l) ≡ 5 = omega arith in shr_lt l (5 - l) (rw e lt)

-- ---- The address of a slot.

-- A node above depth 60: the bits of a slot's address, halved.
slot_even : (depth c : ℕ) → depth < 60 → c < 32 → (c * 2 ^ 59 % 2 ^ 64 / 2 ^ depth) * 2 ≡ c * 2 ^ slot_size depth
slot_even depth c lt small =
    let e : (59 - depth) + depth ≡ 59 = omega arith in
    let s : slot_size depth ≡ suc (59 - depth) = omega arith in
    let all : c * 2 ^ 59 ≡ c * 2 ^ (59 - depth) * 2 ^ depth =
    ap (λ (k : ℕ). c * k) (ap (λ (k : ℕ). 2 ^ k) (sym e) ∙ pow-add 2 (59 - depth) depth) ∙ sym (mul_assoc c (2 ^ (59 - depth)) (2 ^ depth)) in
    let there : c * 2 ^ 59 % 2 ^ 64 / 2 ^ depth ≡ c * 2 ^ (59 - depth) =
    ap (λ (k : ℕ). k / 2 ^ depth) (shl_exact {a = c} 5 59 64 small (omega arith) ∙ all) ∙ shl-shr (c * 2 ^ (59 - depth)) depth in
    ap (λ (k : ℕ). k * 2) there ∙ mul_assoc c (2 ^ (59 - depth)) 2 ∙ ap (λ (k : ℕ). c * k) (sym (pow-suc 2 (59 - depth)) ∙ ap (λ (k : ℕ). 2 ^ k) (sym s))

-- The size of a slot there is even.
slot-size : (depth : ℕ) → depth < 60 → 2 ^ slot_size depth ≡ 2 ^ (59 - depth) * 2
slot-size depth lt = let s : slot_size depth ≡ suc (59 - depth) = omega arith in rw s (pow-suc 2 (59 - depth))

module _ (depth key c : ℕ) (small : c < 32) (at : At depth (key * 2)) where
  -- A slot lies in the wide addresses.
  pub slot-inside : place_at (slot_size depth) (key * 2) 5 c + 2 ^ slot_size depth ≤ 2 ^ wide
  slot-inside =
      let e : wide - (depth + 5) ≡ slot_size depth = omega arith in
      rw e at (slot-within depth (key * 2) c at small)

  -- What the code computes is half of its address.
  pub slot_half : key + c * 2 ^ 59 % 2 ^ 64 / 2 ^ depth ≡ place_at (slot_size depth) (key * 2) 5 c / 2
  slot_half = rw (size-slot (slot_size depth)) (go (eq-or-lt_of_le at.deep))
    where
      go : (depth ≡ 60) ⊎ (depth < 60) → key + c * 2 ^ 59 % 2 ^ 64 / 2 ^ depth ≡ (key * 2 + c * 2 ^ slot_size depth) / 2
      go (inl e) = rw e (omega arith)
      go (inr lt) = omega (arith, slot_even depth c lt small)

  -- And above depth 60 twice that is the address.
  pub slot_twice : depth < 60 → place_at (slot_size depth) (key * 2) 5 c / 2 * 2 ≡ place_at (slot_size depth) (key * 2) 5 c
  slot_twice lt = rw (size-slot (slot_size depth)) (omega (arith, slot_even depth c lt small))

  -- The last address.
  pub last_half : place_at (slot_size depth) (key * 2) 5 c / 2 + 576460752303423487 / 2 ^ depth ≡ (place_at (slot_size depth) (key * 2) 5 c + 2 ^ slot_size depth - 1) / 2
  last_half = rw (size-slot (slot_size depth)) (go (eq-or-lt_of_le at.deep))
    where
      go : (depth ≡ 60) ⊎ (depth < 60)
          → (key * 2 + c * 2 ^ slot_size depth) / 2 + 576460752303423487 / 2 ^ depth ≡ (key * 2 + c * 2 ^ slot_size depth + 2 ^ slot_size depth - 1) / 2
      go (inl e) = rw e (omega arith)
      go (inr lt) =
          let e : (59 - depth) + depth ≡ 59 = omega arith in
          let ones : 576460752303423487 ≡ (2 ^ (59 - depth) - 1) * 2 ^ depth + (2 ^ depth - 1) = rw e at (ones_split (59 - depth) depth) in
          let down : 576460752303423487 / 2 ^ depth ≡ 2 ^ (59 - depth) - 1 =
          ap (λ (k : ℕ). k / 2 ^ depth) ones ∙ high (2 ^ (59 - depth) - 1) depth (omega (arith, pow_pos depth)) in
          omega (arith, slot_even depth c lt small, slot-size depth lt, pow_pos (59 - depth), down)

-- ---- A place by a bit set before the address.

-- With a bit on top, so many bits of an address are its place's number and one more.
pub marked : (y l : ℕ) → l ≤ 5 → (9223372036854775808 + y / 2) / 2 ^ (63 - l) ≡ 2 ^ l + y / 2 ^ 59 / 2 ^ (5 - l)
marked y l le =
    let e : l + (63 - l) ≡ 63 = omega arith in
    let whole : 9223372036854775808 ≡ 2 ^ l * 2 ^ (63 - l) = ap (λ (k : ℕ). 2 ^ k) (sym e) ∙ pow-add 2 l (63 - l) in
    let out : (2 ^ l * 2 ^ (63 - l) + y / 2) / 2 ^ (63 - l) ≡ 2 ^ l + y / 2 / 2 ^ (63 - l) = native.Mathlib.Nat.mul-add-div_right (pow_pos (63 - l)) (2 ^ l) (y / 2) in
    let z : 1 + (63 - l) ≡ 59 + (5 - l) = omega arith in
    let down : y / 2 / 2 ^ (63 - l) ≡ y / 2 ^ 59 / 2 ^ (5 - l) =
    shr-shr y 1 (63 - l) ∙ ap (λ (k : ℕ). y / 2 ^ k) z ∙ sym (shr-shr y 59 (5 - l)) in
    ap (λ (k : ℕ). (k + y / 2) / 2 ^ (63 - l)) whole ∙ out ∙ ap (λ (k : ℕ). 2 ^ l + k) down
