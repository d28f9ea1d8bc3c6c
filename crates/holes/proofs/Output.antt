-- What the walk writes: a hole's record, and the holes of a position's halves, the right half's on the part of the output behind the left half's. Over
-- the size of a record. Assumes nothing.
use Prim.Native.Nat.{ℕ, ◌+◌, ◌-◌, ◌*◌, ◌≤◌}
use mathlib.Core.Path.{◌≡◌, sym, ap, ◌∙◌}
use mathlib.Core.List.{List, [], ◌∷◌, ◌++◌, append-nil}
use native.Mathlib.Nat.{mul-add, mul-zero, mul-one, mul-le-mul_right}
use native.Mathlib.Omega.{arith}
use lib.ListN.{length, take, drop}
use Rattle.theory.specs.Routes.{Route}
use Rattle.records.specs.Sized.{record_in, bytes_in, laid}
use Rattle.records.proofs.Laid.{laid_none}
use Rattle.records.proofs.SizedReading.{size-some}
use Rattle.records.proofs.SizedLaid.{in_length_records, in_records_lent}
use Rattle.holes.specs.Holes.{holes_at}
use Rattle.holes.specs.Kinds.{Halves}
use Rattle.holes.proofs.Positions.{halves_count}

-- The one record of a hole,
pub hole-laid : (size : ℕ) {rs : List Route} (r : Route) (o o' : List ℕ) → rs ≡ r ∷ [] → o' ≡ laid (size * 0) (record_in size r) o
    → o' ≡ laid 0 (bytes_in size rs) o
unfolding bytes_in
hole-laid size r o o' e f = rw e (rw (mul-zero size) at f ∙ ap (λ (l : List ℕ). laid 0 l o) (sym (append-nil (record_in size r))))

-- for which there is room.
pub hole-room : (size : ℕ) {rs : List Route} (r : Route) (room : ℕ) → rs ≡ r ∷ [] → size * length rs ≤ room → size * 0 + size ≤ room
hole-room size r room e fits = omega (arith, mul-zero size, mul-one size, rw e at fits)

-- No record.
pub none_laid : (size : ℕ) {rs : List Route} (o : List ℕ) → rs ≡ [] → o ≡ laid 0 (bytes_in size rs) o
unfolding bytes_in
none_laid size o e = rw e (sym (laid_none 0 o))

module _ {size : ℕ} {t : List ℕ} {lo hi len key right mid : ℕ} (h : Halves size t lo hi len key right mid) where
  -- The bytes of the halves' holes are those of the position's.
  pub halves_size : size * length (holes_at size t lo hi len key)
      ≡ size * length (holes_at size t lo mid (len + 1) key) + size * length (holes_at size t mid hi (len + 1) right)
  halves_size =
      ap (λ (n : ℕ). size * n) (halves_count h)
      ∙ mul-add size (length (holes_at size t lo mid (len + 1) key)) (length (holes_at size t mid hi (len + 1) right))

  module _ (o : List ℕ) (fits : size * length (holes_at size t lo hi len key) ≤ length o) {n : ℕ}
      (counted : n ≡ length (holes_at size t lo mid (len + 1) key)) where
    -- The left half's are so many bytes.
    pub left-size : size * n ≤ length o
    left-size = rw counted (omega (arith, halves_size))

    module _ {o₁ : List ℕ} (first : o₁ ≡ laid 0 (bytes_in size (holes_at size t lo mid (len + 1) key)) o) where
      -- Once they are written the output is as long as it was,
      left-length : length o₁ ≡ length o
      left-length =
          ap length first ∙ in_length_records size h.left_half.sized (holes_at size t lo mid (len + 1) key) o (omega (arith, halves_size))

      -- and behind them there is room for the right half's.
      pub left-room : size * n + size * length (holes_at size t mid hi (len + 1) right) ≤ length o₁
      left-room = rw (counted, left-length) (omega (arith, halves_size))

      -- So both halves' are a number of the output's range.
      pub both_few : n + length (holes_at size t mid hi (len + 1) right) ≤ length o₁
      both_few =
          let k = length (holes_at size t mid hi (len + 1) right) in
          let one : 1 ≤ size = omega (arith, size-some size h.left_half.sized) in
          omega (arith, left-room, mul-add size n k, mul-le-mul_right {m = 1} {n = size} (n + k) one)

      -- Both halves' are the position's.
      pub halves_laid : {ys : List ℕ} → ys ≡ laid 0 (bytes_in size (holes_at size t mid hi (len + 1) right)) (take (length o₁ - size * n) (drop (size * n) o₁))
          → take (size * n) o₁ ++ (ys ++ drop (length o₁ - size * n) (drop (size * n) o₁)) ≡ laid 0 (bytes_in size (holes_at size t lo hi len key)) o
      halves_laid second =
          rw (second, counted, first)
          (in_records_lent size h.left_half.sized (holes_at size t lo mid (len + 1) key) (holes_at size t mid hi (len + 1) right) o
          (rw (halves_count h) at fits)
          ∙ ap (λ (rs : List Route). laid 0 (bytes_in size rs) o) (sym h.theirs))
