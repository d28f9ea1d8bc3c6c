-- Octets and the number that they write, first octet first, over how many they are. Assumes nothing.
use mathlib.Core.Path.{◌≡◌, refl, sym, ap, ap₂, ◌∙◌}
use mathlib.Core.Bool.{true, and-eq-true_iff}
use mathlib.Core.List.{List, [], ◌∷◌, ◌++◌, append_assoc}
use Prim.Native.Nat.{ℕ, zero, suc, ◌+◌, ◌*◌, ◌/◌, ◌%◌, ◌^◌, ◌≤◌, ◌<◌}
use native.Mathlib.Nat.{add-zero, zero-add, add_assoc, pow-suc}
use native.Mathlib.Numerals.{add-one}
use native.Mathlib.Omega.{arith}
use lib.Dec.{eqb}
use lib.ListN.{length, get_or, take, drop, replicate, length-append, length-drop}
use lib.Seq.{get_or_at, get_or-drop, take-suc, drop-cons}
use borrow.Author.Tests.{eqb-true, eq-eqb}
use Rattle.records.specs.Wire.{join}
use Rattle.records.specs.Sized.{number, clear, octets_of, Bytes}

-- ---- Numbers of octets.
-- The same octets elsewhere write the same number.
pub number_cong : (t u : List ℕ) (k l n : ℕ) → ((j : ℕ) → j < n → get_or t (k + j) 0 ≡ get_or u (l + j) 0) → number t k n ≡ number u l n
unfolding number
number_cong t u k l zero same = refl
number_cong t u k l (suc n) same =
    ap₂ (λ (a b : ℕ). a * 256 + b) (number_cong t u k l n (λ j h. same j (omega arith))) (same n (omega arith))

-- n octets write a number of 8 * n bits.
pub number_small : (t : List ℕ) → Bytes t → (k n : ℕ) → number t k n < 256 ^ n
unfolding number
number_small t bytes k zero = omega arith
number_small t bytes k (suc n) = omega (arith, number_small t bytes k n, bytes (k + n), pow-suc 256 n)

-- Four octets one by one.
pub number_four : (t : List ℕ) (k : ℕ) → number t k 4 ≡ join (get_or t k 0) (get_or t (k + 1) 0) (get_or t (k + 2) 0) (get_or t (k + 3) 0)
unfolding number
number_four t k = simp add-zero (omega arith)

-- Eight are four and four.
pub number_eight : (t : List ℕ) (k : ℕ) → number t k 8 ≡ number t k 4 * 4294967296 + number t (k + 4) 4
unfolding number
number_eight t k = simp (add_assoc, add-zero) (omega arith)

-- ---- From a number to its octets and back.
pub length_octets : (n a : ℕ) → length (octets_of n a) ≡ n
unfolding octets_of
length_octets zero a = refl
length_octets (suc n) a = length-append (octets_of n (a / 256)) (a % 256 ∷ []) ∙ ap (λ (m : ℕ). m + 1) (length_octets n (a / 256)) ∙ add-one n

-- A number's octets write it.
pub number_octets : (n a : ℕ) (l : List ℕ) → a < 256 ^ n → number (octets_of n a ++ l) 0 n ≡ a
unfolding number octets_of
number_octets zero a l h = omega arith
number_octets (suc n) a l h =
    let e = append_assoc (octets_of n (a / 256)) (a % 256 ∷ []) l in
    let front = number_octets n (a / 256) (a % 256 ∷ l) (omega (arith, pow-suc 256 n)) in
    let last : get_or (octets_of n (a / 256) ++ (a % 256 ∷ l)) (0 + n) 0 ≡ a % 256 =
    get_or_at (octets_of n (a / 256)) (a % 256) l 0 (0 + n) (length_octets n (a / 256) ∙ sym (zero-add n)) in
    ap (λ (u : List ℕ). number u 0 n * 256 + get_or u (0 + n) 0) e
    ∙ ap₂ (λ (x b : ℕ). x * 256 + b) front last
    ∙ omega arith

-- The octets of the number that bytes write are these bytes.
pub octets_number : (t : List ℕ) → Bytes t → (k n : ℕ) → k + n ≤ length t → octets_of n (number t k n) ≡ take n (drop k t)
unfolding number octets_of
octets_number t bytes k zero h = refl
octets_number t bytes k (suc n) h =
    let b = bytes (k + n) in
    let x : ℕ = number t k n in
    let y : ℕ = get_or t (k + n) 0 in
    let above : (x * 256 + y) / 256 ≡ x = omega arith in
    let low : (x * 256 + y) % 256 ≡ y = omega arith in
    ap₂ (λ (u v : ℕ). octets_of n u ++ (v ∷ [])) above low
    ∙ ap₂ (λ (l : List ℕ) (v : ℕ). l ++ (v ∷ [])) (octets_number t bytes k n (omega arith)) (sym (get_or-drop k t n 0))
    ∙ sym (take-suc (drop k t) n 0 (omega (arith, length-drop k t)))

-- ---- Bytes.
-- Bytes after bytes are bytes;
pub bytes_after : (l m : List ℕ) → Bytes l → Bytes m → Bytes (l ++ m)
bytes_after [] m hl hm k = hm k
bytes_after (b ∷ l) m hl hm zero = hl 0
bytes_after (b ∷ l) m hl hm (suc k) = bytes_after l m (λ j. hl (suc j)) hm k

-- so one before them;
pub byte-before : (b : ℕ) (l : List ℕ) → b < 256 → Bytes l → Bytes (b ∷ l)
byte-before b l h more zero = h
byte-before b l h more (suc k) = more k

-- octets are, and zeros.
pub octets_bytes : (n a : ℕ) → Bytes (octets_of n a)
unfolding octets_of
octets_bytes zero a = λ k. omega arith
octets_bytes (suc n) a = bytes_after (octets_of n (a / 256)) (a % 256 ∷ []) (octets_bytes n (a / 256)) (byte-before (a % 256) [] (omega arith) (λ k. omega arith))

pub zeros-bytes : (n : ℕ) → Bytes (replicate n 0)
zeros-bytes zero = λ k. omega arith
zeros-bytes (suc n) = byte-before 0 (replicate n 0) (omega arith) (zeros-bytes n)

-- ---- Zeros.
-- The test says whether each of the bytes is zero.
pub clear_zero : (t : List ℕ) (k n : ℕ) → clear t k n ≡ true → (j : ℕ) → j < n → get_or t (k + j) 0 ≡ 0
unfolding clear
clear_zero t k zero e j h = absurd (omega arith)
clear_zero t k (suc n) e zero h =
    ap (λ (m : ℕ). get_or t m 0) (add-zero k) ∙ eqb-true (get_or t k 0) 0 ((and-eq-true_iff (eqb (get_or t k 0) 0) (clear t (suc k) n)).0 e).0
clear_zero t k (suc n) e (suc j) h =
    let more = clear_zero t (suc k) n ((and-eq-true_iff (eqb (get_or t k 0) 0) (clear t (suc k) n)).0 e).1 j (omega arith) in
    let same : k + suc j ≡ suc k + j = omega arith in
    ap (λ (m : ℕ). get_or t m 0) same ∙ more

pub zero_clear : (t : List ℕ) (k n : ℕ) → ((j : ℕ) → j < n → get_or t (k + j) 0 ≡ 0) → clear t k n ≡ true
unfolding clear
zero_clear t k zero z = refl
zero_clear t k (suc n) z =
    let here : get_or t k 0 ≡ 0 = ap (λ (m : ℕ). get_or t m 0) (sym (add-zero k)) ∙ z 0 (omega arith) in
    let more : clear t (suc k) n ≡ true =
    zero_clear t (suc k) n (λ j h. let same : suc k + j ≡ k + suc j = omega arith in ap (λ (m : ℕ). get_or t m 0) same ∙ z (suc j) (omega arith)) in
    rw (eq-eqb (get_or t k 0) 0 here, more)

-- So many zeros, in a list.
pub take-zeros : (t : List ℕ) (k n : ℕ) → k + n ≤ length t → ((j : ℕ) → j < n → get_or t (k + j) 0 ≡ 0) → take n (drop k t) ≡ replicate n 0
take-zeros t k zero h z = refl
take-zeros t k (suc n) h z =
    let here : get_or t k 0 ≡ 0 = ap (λ (m : ℕ). get_or t m 0) (sym (add-zero k)) ∙ z 0 (omega arith) in
    ap (take (suc n)) (drop-cons t k 0 (omega arith))
    ∙ ap₂ (λ (b : ℕ) (l : List ℕ). b ∷ l) here
    (take-zeros t (suc k) n (omega arith) (λ j l. let same : suc k + j ≡ k + suc j = omega arith in ap (λ (m : ℕ). get_or t m 0) same ∙ z (suc j) (omega arith)))
