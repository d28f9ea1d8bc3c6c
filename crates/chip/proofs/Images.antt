-- The image of routes read again: its slots are these routes, and then unused ones. Assumes nothing.
use mathlib.Core.Path.{◌≡◌, ap, ap₂, ◌∙◌}
use mathlib.Core.List.{List, ◌++◌, append-nil}
use Prim.Native.Nat.{ℕ, zero, suc, ◌+◌, ◌-◌, ◌*◌, ◌≤◌}
use native.Mathlib.Omega.{arith}
use lib.ListN.{length, take, replicate, length-append, length-replicate, get_or-replicate}
use borrow.Author.Tests.{le-leb, lt-leb}
use Rattle.theory.specs.Results.{part}
use Rattle.theory.specs.Routes.{Route, Valid, All, nil, cons}
use Rattle.theory.proofs.Lists.{all_member}
use Rattle.theory.proofs.Parts.{part-append, part-whole, part_none}
use Rattle.records.specs.Wire.{routes_from, bytes_of}
use Rattle.records.proofs.Reading.{route-length}
use Rattle.records.proofs.Laid.{take-laid}
use Rattle.records.proofs.Written.{length-bytes, routes_front}
use Rattle.records.specs.Sized.{routes_from_in, routes_in}
use Rattle.chip.specs.Chip.{is_used}
use Rattle.chip.specs.Images.{image_of, slots_of, arranged, table_of}
use Rattle.chip.specs.Placing.{Placed, unused_from}
use Rattle.chip.proofs.Placing.{placed-length}

-- ---- From routes to an image.

-- It has 8,192 bytes.
pub image-length : (rs : List Route) → length rs ≤ 1024 → length (image_of rs) ≡ 8192
unfolding image_of
image-length rs few = let n = length-bytes rs in simp (length-append, length-replicate) (omega arith)

-- Routes placed from the first slot on, with all behind them unused, make it, whatever stood there.
pub placed-image : {rs : List Route} {r : ℕ} {m m' : List ℕ} → length rs ≤ 1024 → length m ≡ 8192 → Placed rs 0 r m m' → unused_from (8 * r) m' ≡ image_of rs
unfolding image_of unused_from
placed-image {rs} {r} {m} {m'} few size p =
    let n = length-bytes rs in
    let e = p.ends in
    let start : 8 * r ≡ 8 * 0 + length (bytes_of rs) = omega arith in
    let long : length m' ≡ 8192 = placed-length (omega arith) p ∙ size in
    let behind : length m' - 8 * r ≡ 8 * (1024 - length rs) = omega arith in
    ap₂ (λ (l : List ℕ) (k : ℕ). l ++ replicate k 255) (ap₂ take start p.lays ∙ take-laid (8 * 0) (bytes_of rs) m (omega arith)) behind

-- ---- From an image to routes.

-- The unused slots of an image of n routes.
abbrev pub unused_slots : ℕ → List Route
unused_slots n = routes_from (replicate (8 * (1024 - n)) 255) 0 (1024 - n)

unused_from_lem : (n i k : ℕ) → 8 * (i + k) ≤ n → All (λ r. r.len ≡ 255) (routes_from (replicate n 255) i k)
unfolding routes_from_in
unused_from_lem n i zero fits = nil
unused_from_lem n i (suc k) fits = cons (route-length (replicate n 255) i ∙ get_or-replicate n (8 * i + 4) 255 0 (omega arith)) (unused_from_lem n (suc i) k (omega arith))

-- Their length is 255.
pub unused_long : (n : ℕ) → All (λ r. r.len ≡ 255) (unused_slots n)
unused_long n = unused_from_lem (8 * (1024 - n)) 0 (1024 - n) (omega arith)

module _ (rs : List Route) (valid : All (Valid 32) rs) (few : length rs ≤ 1024) where
  -- The slots are the routes, and then unused ones.
  pub image-slots : slots_of (image_of rs) ≡ rs ++ unused_slots (length rs)
  unfolding image_of routes_in
  image-slots =
      let n : length (image_of rs) ≡ 8192 = image-length rs few in
      ap (routes_from (image_of rs) 0) (omega arith) ∙ routes_front rs valid (replicate (8 * (1024 - length rs)) 255) (1024 - length rs)

  -- The routes of the used slots are these routes, in table order.
  pub image-table : table_of (image_of rs) ≡ arranged rs
  unfolding table_of
  image-table =
      ap (λ (u : List Route). arranged (part (is_used 32) u)) image-slots
      ∙ ap arranged (part-append (is_used 32) rs (unused_slots (length rs))
      ∙ ap₂ ◌++◌ (part-whole (is_used 32) rs (λ r m. le-leb r.len 32 (all_member valid m).short))
      (part_none (is_used 32) (unused_slots (length rs)) (λ r m. lt-leb r.len 32 (omega (arith, all_member (unused_long (length rs)) m))))
      ∙ append-nil rs)
