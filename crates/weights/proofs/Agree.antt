-- What a node and those below it weigh depends on the answers of its addresses alone.
use Prim.Native.Nat.{ℕ, zero, suc, ◌+◌, ◌-◌, ◌*◌, ◌^◌, ◌≤◌, ◌<◌}
use mathlib.Core.Path.{◌≡◌, refl, ap, ap₂, ◌∙◌}
use mathlib.Core.Bool.{Bool, true, false, cond}
use mathlib.Core.List.{List}
use native.Mathlib.Nat.{mul-le-mul_right, add-mul}
use native.Mathlib.Omega.{arith}
use lib.Dec.{leb}
use lib.Pow.{pow-add}
use borrow.Author.Tests.{leb-true}
use Rattle.theory.specs.Routes.{Route, Answer}
use Rattle.theory.specs.Results.{In, sets}
use Rattle.theory.proofs.Agree.{sets-agree}
use Rattle.positions.specs.Runs.{inside, place_at}
use Rattle.positions.proofs.RunsNode.{size-slot}
use Rattle.nodecount.specs.Walk.{or_none, sum_to}
use Rattle.weights.specs.Weights.{weighed_in}
use Rattle.weights.specs.Needed.{hops_in, node_hops}
use Rattle.weights.proofs.Needed.{sum_below}

-- An address of the j-th of the 2 ^ l parts of a position is one of the position.
part_in : (n a l j x : ℕ) → l ≤ n → j < 2 ^ l → In (n - l) (a + j * 2 ^ (n - l)) x → In n a x
part_in n a l j x le lt i =
    let size : 2 ^ n ≡ 2 ^ l * 2 ^ (n - l) = ap (λ (k : ℕ). 2 ^ k) (let e : n ≡ l + (n - l) = omega arith in e) ∙ pow-add 2 l (n - l) in
    let next : suc j * 2 ^ (n - l) ≤ 2 ^ l * 2 ^ (n - l) = mul-le-mul_right (2 ^ (n - l)) lt in
    (omega (arith, i.0), omega (arith, i.1, size, next, add-mul j 1 (2 ^ (n - l))))

-- Answers that agree on a node's addresses give its positions as many hops.
pub hops-agree : (f g : ℕ → Answer) (spare n a : ℕ) → ((x : ℕ) → In n a x → f x ≡ g x) → node_hops f spare n a ≡ node_hops g spare n a
hops-agree f g spare n a same = sum_below _ _ 5 (λ l lt. level l (leb (l + spare) n) refl)
  where
    level : (l : ℕ) (b : Bool) → leb (l + spare) n ≡ b
        → cond b (sum_to (λ j. hops_in (sets f (n - l) (a + j * 2 ^ (n - l)))) (2 ^ l)) 0
        ≡ cond b (sum_to (λ j. hops_in (sets g (n - l) (a + j * 2 ^ (n - l)))) (2 ^ l)) 0
    level l true e =
        let le : l ≤ n = omega (arith, leb-true (l + spare) n e) in
        sum_below _ _ (2 ^ l) (λ j lt. ap hops_in (sets-agree f g (n - l) (a + j * 2 ^ (n - l)) (λ x i. same x (part_in n a l j x le lt i))))
    level l false e = refl

-- Weights that agree on the nodes inside a node give the same of it and of those below it.
pub weighed-agree : (weight weight' : ℕ → ℕ → ℕ) (w k n a : ℕ) (t : List Route) → 5 * k ≤ n
    → ((s x : ℕ) → s ≤ n → ((y : ℕ) → In s x y → In n a y) → weight s x ≡ weight' s x)
    → weighed_in weight w k n a t ≡ weighed_in weight' w k n a t
unfolding weighed_in
weighed-agree weight weight' w zero n a t fits same = refl
weighed-agree weight weight' w (suc k) n a t fits same =
    ap₂ ◌+◌ (same n a (omega arith) (λ y i. i))
    (sum_below _ _ 32 (λ c lt.
    ap (or_none (inside w (n - 5) (place_at (n - 5) a 5 c) t))
    (weighed-agree weight weight' w k (n - 5) (place_at (n - 5) a 5 c) (inside w (n - 5) (place_at (n - 5) a 5 c) t) (omega arith)
    (λ s x le within. same s x (omega arith) (λ y i. slot c lt y (within y i))))))
  where
    slot : (c : ℕ) → c < 32 → (y : ℕ) → In (n - 5) (place_at (n - 5) a 5 c) y → In n a y
    slot c lt y i = part_in n a 5 c y (omega arith) lt (rw (size-slot (n - 5)) at i)
