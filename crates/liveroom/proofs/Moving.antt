-- Records written, made and taken away.
use Prim.Native.Nat.{ℕ, suc, ◌+◌, ◌-◌, ◌*◌, ◌≤◌, ◌<◌}
use mathlib.Core.Path.{◌≡◌, ap, ap₂, ◌∙◌}
use mathlib.Core.List.{List, [], ◌∷◌, ◌++◌, append_assoc}
use native.Mathlib.Omega.{arith}
use lib.ListN.{length, get_or, take, drop, set}
use lib.Seq.{sets-eq}
use Rattle.std.specs.List.{copy_within}
use Rattle.liveroom.specs.Inner.{Holds, removed}

pub two-sets : (l : List ℕ) (k m a b : ℕ) → m ≡ k + 1 → k + 2 ≤ length l → set (set l k a) m b ≡ take k l ++ (a ∷ b ∷ drop (k + 2) l)
two-sets l k m a b e le =
    let s : m ≡ suc k = omega arith in
    rw s (sets-eq (a ∷ b ∷ []) l k le ∙ append_assoc (take k l) (a ∷ b ∷ []) (drop (k + 2) l))

-- The first two words of a list, and the others.
pub take-two : (l : List ℕ) (k : ℕ) → 2 ≤ length l → take (2 + k) l ≡ get_or l 0 0 ∷ get_or l 1 0 ∷ take k (drop 2 l)
take-two [] k le = absurd (omega arith)
take-two (x ∷ []) k le = absurd (omega arith)
take-two (x ∷ y ∷ l) k le = let e : 2 + k ≡ suc (suc k) = omega arith in rw e

pub remove_is : (room : List ℕ) (n at : ℕ) → Holds room n → at < n
    → set (copy_within room (4 + 2 * at) (2 + 2 * n) (2 + 2 * at)) 1 (n - 1) ≡ removed room n at
remove_is room n at h lt =
    let m : 2 + 2 * n - (4 + 2 * at) ≡ 2 * (n - at) - 2 = omega arith in
    let p : 2 + 2 * at + (2 + 2 * n - (4 + 2 * at)) ≡ 2 * n = omega arith in
    ap (λ (u : List ℕ). set u 1 (n - 1))
    (append_assoc (take (2 + 2 * at) room) (take (2 + 2 * n - (4 + 2 * at)) (drop (4 + 2 * at) room)) (drop (2 + 2 * at + (2 + 2 * n - (4 + 2 * at))) room)
    ∙ ap₂ (λ (u z : List ℕ). u ++ z) (take-two room (2 * at) (omega arith))
    (ap₂ (λ (x y : ℕ). take x (drop (4 + 2 * at) room) ++ drop y room) m p))
