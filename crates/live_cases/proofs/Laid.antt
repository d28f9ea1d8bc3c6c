-- How long the lines are, and text that is put. Assumes nothing.
use Prim.Native.Nat.{ℕ, suc, ◌+◌, ◌≤◌, ◌<◌, ◌^◌}
use mathlib.Core.Path.{◌≡◌, refl}
use mathlib.Core.List.{List, [], ◌∷◌, ◌++◌}
use native.Mathlib.Omega.{arith}
use lib.ListN.{length, length-append}
use Rattle.text.specs.Text.{Put, decimal, refused_line, found_line}
use Rattle.text.proofs.Numbers.{octet_short, number_short}

-- The end of a text that is not long.
pub put-short : {ws : List ℕ} {at r : ℕ} {o o' : List ℕ} → Put ws at r o o' → length ws ≤ 36 → r ≤ at + 36
put-short p short = omega (arith, p.ends)

-- The same end and buffer, otherwise written.
pub put_same : {ws : List ℕ} {at r r₁ : ℕ} {o o' o₁ : List ℕ} → r₁ ≡ r → o₁ ≡ o' → Put ws at r o o' → Put ws at r₁ o o₁
put_same e f p = rw (e, f) p

pub refused_short : (n i : ℕ) → n < 256 → i < 2 ^ 64 → length (refused_line n i) ≤ 36
unfolding refused_line
refused_short n i p q =
    let last : List ℕ = decimal i ++ (10 ∷ []) in
    let e : length (refused_line n i) ≡ suc (suc (suc (suc (suc (suc (suc (suc (length (decimal n ++ (32 ∷ 97 ∷ 116 ∷ 32 ∷ last)))))))))) = refl in
    let f : length (decimal n ++ (32 ∷ 97 ∷ 116 ∷ 32 ∷ last)) ≡ length (decimal n) + suc (suc (suc (suc (length last)))) =
    length-append (decimal n) (32 ∷ 97 ∷ 116 ∷ 32 ∷ last) in
    let g : length last ≡ length (decimal i) + 1 = length-append (decimal i) (10 ∷ []) in
    omega (arith, octet_short n p, number_short i q)

pub found-short : (h l : ℕ) → h < 256 → l < 256 → length (found_line h l) ≤ 36
unfolding found_line
found-short h l p q =
    let last : List ℕ = decimal l ++ (10 ∷ []) in
    let word : List ℕ = 32 ∷ 108 ∷ 101 ∷ 110 ∷ 103 ∷ 116 ∷ 104 ∷ 32 ∷ last in
    let e : length (found_line h l) ≡ suc (suc (suc (suc (length (decimal h ++ word))))) = refl in
    let f : length (decimal h ++ word) ≡ length (decimal h) + suc (suc (suc (suc (suc (suc (suc (suc (length last)))))))) =
    length-append (decimal h) word in
    let g : length last ≡ length (decimal l) + 1 = length-append (decimal l) (10 ∷ []) in
    omega (arith, octet_short h p, octet_short l q)
