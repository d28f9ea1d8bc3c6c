-- Steps that are read one by one from bytes. Assumes nothing.
use Prim.Native.Nat.{ℕ, zero, suc, ◌+◌, ◌<◌}
use native.Mathlib.Omega.{arith}
use native.Mathlib.Numerals.{add-one}
use mathlib.Core.Path.{◌≡◌, refl, sym, ap, ◌∙◌}
use mathlib.Core.List.{List, [], ◌∷◌, ◌++◌}
use lib.ListN.{length, take, set}
use lib.Seq.{take-suc-set, take_all}
use Rattle.records.specs.Wire.{byte_at, raw_at, records}
use Rattle.plans.specs.declared.answers.Step.{Step}
use Rattle.steprooms.specs.Steps.{step_from, steps_from, steps_of}

-- One step more is the next behind.
pub steps_next : (bs : List ℕ) (i k : ℕ) → steps_from bs i (suc k) ≡ steps_from bs i k ++ (step_from bs (i + k) ∷ [])
unfolding steps_from
steps_next bs i zero = ap (λ (j : ℕ). step_from bs j ∷ []) (omega arith)
steps_next bs i (suc k) =
    ap (λ (ss : List Step). step_from bs i ∷ ss) (steps_next bs (suc i) k)
    ∙ ap (λ (j : ℕ). step_from bs i ∷ (steps_from bs (suc i) k ++ (step_from bs j ∷ []))) (omega arith)

-- The first i steps are those of the bytes.
pub filled_none : (bs : List ℕ) → [] ≡ steps_from bs 0 0
unfolding steps_from
filled_none bs = refl

pub filled_next : (bs : List ℕ) (steps : List Step) (i : ℕ) → i < length steps → take i steps ≡ steps_from bs 0 i → take (i + 1) (set steps i (step_from bs i)) ≡ steps_from bs 0 (i + 1)
filled_next bs steps i less first =
    ap (λ (j : ℕ). take j (set steps i (step_from bs i))) (add-one i)
    ∙ take-suc-set steps i (step_from bs i) less
    ∙ ap (λ (ss : List Step). ss ++ (step_from bs i ∷ [])) first
    ∙ sym (steps_next bs 0 i ∙ ap (λ (j : ℕ). steps_from bs 0 i ++ (step_from bs j ∷ [])) (omega arith))
    ∙ ap (λ (j : ℕ). steps_from bs 0 j) (sym (add-one i))

-- A step from its bytes.
pub step_made : (bs : List ℕ) (i a : ℕ) → a ≡ (raw_at bs i).addr → record { addr = a; len = byte_at bs i 4; hop = byte_at bs i 5; put = byte_at bs i 6; unread = byte_at bs i 7 } ≡ step_from bs i
unfolding step_from
step_made bs i a e = λ j. record { addr = e j; len = byte_at bs i 4; hop = byte_at bs i 5; put = byte_at bs i 6; unread = byte_at bs i 7 }

-- Once all are, they are the steps of the bytes.
pub filled_all : (bs : List ℕ) (steps : List Step) (i : ℕ) → i ≡ records bs → length steps ≡ i → take i steps ≡ steps_from bs 0 i → steps ≡ steps_of bs
unfolding steps_of
filled_all bs steps i e l first = sym (take_all i steps (omega arith)) ∙ first ∙ ap (steps_from bs 0) e
