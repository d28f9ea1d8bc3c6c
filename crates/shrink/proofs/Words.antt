-- The numbers on the command line: a word stands for a number exactly when it is decimal digits that read as that. Assumes nothing.
use mathlib.Core.Path.{◌≡◌, refl, ◌∙◌}
use mathlib.Core.List.{List, [], ◌∷◌}
use mathlib.Core.Logic.{◌↔◌}
use mathlib.Core.Bool.{Bool, true, false}
use Prim.{Unit}
use Prim.Native.Nat.{ℕ, ◌+◌, ◌-◌, ◌*◌, ◌≤◌, ◌<◌}
use native.Mathlib.Omega.{arith}
use borrow.Author.Tests.{le-leb, lt-leb, lt-ltb, le-ltb, leb-true, leb-false, ltb-true, ltb-false}
use lib.Dec.{leb, ltb}
use Rattle.text.specs.Text.{read_from, reading}
use Rattle.shrink.specs.Words.{no_number, behind, number_from, word_number}

-- ---- One byte more.

-- The number with one digit more.
abbrev pub next : ℕ → ℕ → ℕ
next n byte = n * 10 + (byte - 48)

pub behind_digit : (n byte : ℕ) → 48 ≤ byte → byte ≤ 57 → next n byte < no_number → behind n byte ≡ next n byte
unfolding behind
behind_digit n byte low high small = rw (le-leb 48 byte low, le-leb byte 57 high, lt-ltb (next n byte) no_number small)

pub behind_large : (n byte : ℕ) → 48 ≤ byte → byte ≤ 57 → no_number ≤ next n byte → behind n byte ≡ no_number
unfolding behind
behind_large n byte low high large = rw (le-leb 48 byte low, le-leb byte 57 high, le-ltb (next n byte) no_number large)

pub behind-low : (n byte : ℕ) → byte < 48 → behind n byte ≡ no_number
unfolding behind
behind-low n byte low = rw (lt-leb 48 byte low)

pub behind-high : (n byte : ℕ) → 57 < byte → behind n byte ≡ no_number
unfolding behind
behind-high n byte high = rw (le-leb 48 byte (omega arith), lt-leb byte 57 high)

-- ---- A word.

-- Each byte is a digit.
abbrev pub Digits : List ℕ → Type 0
Digits [] = Unit
Digits (byte ∷ bytes) = (48 ≤ byte) × (byte ≤ 57) × Digits bytes

-- What a byte more gives: no number, or it is a digit and the number is read on.
pub data Behind (n byte : ℕ) : ℕ → Type 0 where
  none : Behind n byte no_number
  digit : 48 ≤ byte → byte ≤ 57 → next n byte < no_number → Behind n byte (next n byte)

behind_is : (n byte : ℕ) → Behind n byte (behind n byte)
behind_is n byte = go (leb 48 byte) refl (leb byte 57) refl (ltb (next n byte) no_number) refl
  where
    go : (a : Bool) → leb 48 byte ≡ a → (b : Bool) → leb byte 57 ≡ b → (c : Bool) → ltb (next n byte) no_number ≡ c → Behind n byte (behind n byte)
    go false e b f c g = rw (behind-low n byte (leb-false 48 byte e)) none
    go true e false f c g = rw (behind-high n byte (leb-false byte 57 f)) none
    go true e true f false g = rw (behind_large n byte (leb-true 48 byte e) (leb-true byte 57 f) (ltb-false (next n byte) no_number g)) none
    go true e true f true g =
        let small = ltb-true (next n byte) no_number g in
        rw (behind_digit n byte (leb-true 48 byte e) (leb-true byte 57 f) small) (digit (leb-true 48 byte e) (leb-true byte 57 f) small)

-- No number stays none.
stays : (bytes : List ℕ) → number_from no_number bytes ≡ no_number
unfolding number_from
stays [] = refl
stays (byte ∷ bytes) = go (behind_is no_number byte) (stays bytes)
  where
    go : {m : ℕ} → Behind no_number byte m → number_from no_number bytes ≡ no_number → number_from m bytes ≡ no_number
    go none e = e
    go (digit low high small) e = absurd (omega arith)

-- A number is the one that the digits read as.
below-reads : (n : ℕ) (bytes : List ℕ) → number_from n bytes < no_number → Digits bytes × (read_from n bytes ≡ number_from n bytes)
unfolding number_from read_from
below-reads n [] small = (tt, refl)
below-reads n (byte ∷ bytes) small = go (behind_is n byte) small (below-reads (next n byte) bytes)
  where
    go : {m : ℕ} → Behind n byte m → number_from m bytes < no_number
        → (number_from (next n byte) bytes < no_number → Digits bytes × (read_from (next n byte) bytes ≡ number_from (next n byte) bytes))
        → Digits (byte ∷ bytes) × (read_from (next n byte) bytes ≡ number_from m bytes)
    go none h more = absurd (omega (arith, stays bytes))
    go (digit low high least) h more = ((low, high, (more h).0), (more h).1)

-- Reading on makes no number smaller.
read_grows : (n : ℕ) (bytes : List ℕ) → n ≤ read_from n bytes
unfolding read_from
read_grows n [] = omega arith
read_grows n (byte ∷ bytes) = omega (arith, read_grows (next n byte) bytes)

-- Digits that read as a number stand for it.
digits_stand : (n : ℕ) (bytes : List ℕ) → Digits bytes → read_from n bytes < no_number → number_from n bytes ≡ read_from n bytes
unfolding number_from read_from
digits_stand n [] digits small = refl
digits_stand n (byte ∷ bytes) (low, high, digits) small =
    rw (behind_digit n byte low high (omega (arith, read_grows (next n byte) bytes))) (digits_stand (next n byte) bytes digits small)

-- So of every number, as the modes and the hops.
pub word-exactly : (bytes : List ℕ) (n : ℕ) → n < no_number → word_number bytes ≡ n ↔ (Digits bytes × (reading bytes ≡ n))
word-exactly bytes n small = (
  λ e. let reads = below-reads 0 bytes (omega arith) in (reads.0, reads.1 ∙ e),
  λ d. digits_stand 0 bytes d.0 (omega (arith, d.1)) ∙ d.1,
)
