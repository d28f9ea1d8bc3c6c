-- Any call whose answers say the reply of judging by a list of rules: no second answer satisfies its statement, it gives a value exactly when no condition
-- holds, and it refuses exactly by the first that holds. Assumes nothing.
use mathlib.Core.Path.{◌≡◌, sym, ap, ◌∙◌}
use mathlib.Core.List.{List}
use mathlib.Core.Logic.{◌↔◌}
use Prim.Native.Nat.{ℕ}
use Rattle.refusals.specs.Rules.{Rule, Reply, gives, refuses, judge}
use Rattle.refusals.specs.Order.{First, None}
use Rattle.refusals.proofs.Judged.{Broken, InOrder, gives-exactly, refuses-exactly}

-- `says` is what the call's answers say, and answers that say the same are the same; `rs` are its rules, which stand in order and test the conditions
-- `Holds`; `a` is the value that it gives where it does not refuse.
module _ {R A : Type 0} (says : R → Reply A) (same : (b c : R) → says b ≡ says c → b ≡ c) {Holds : ℕ → ℕ → Type 0} (rs : List Rule)
    (tests : (n i : ℕ) → Broken rs n i ↔ Holds n i) (order : InOrder rs) (a : A) where
  -- No second answer satisfies the statement.
  pub unique : (b c : R) → says b ≡ judge rs a → says c ≡ judge rs a → b ≡ c
  unique b c p q = same b c (p ∙ sym q)

  module _ (r : R) (e : says r ≡ judge rs a) where
    -- An answer that gives a value is given exactly when no condition holds and the value is the right one.
    pub given_exactly : (b : R) (v : A) → says b ≡ gives v → r ≡ b ↔ (None Holds × (a ≡ v))
    given_exactly b v p =
        let exactly = gives-exactly rs tests a in
        (λ q. exactly.0 (sym e ∙ ap says q ∙ p), λ f. same r b (e ∙ exactly.1 f ∙ sym p))

    -- A refusal is given exactly when its number and index are those of the first condition that holds.
    pub refused_exactly : (b : R) (n i : ℕ) → says b ≡ refuses n i → r ≡ b ↔ First Holds n i
    refused_exactly b n i p =
        let exactly = refuses-exactly rs tests a order n i in
        (λ q. exactly.0 (sym e ∙ ap says q ∙ p), λ f. same r b (e ∙ exactly.1 f ∙ sym p))

    -- The same by what the answer says.
    pub says_refused : (n i : ℕ) → says r ≡ refuses n i ↔ First Holds n i
    says_refused n i =
        let exactly = refuses-exactly rs tests a order n i in
        (λ q. exactly.0 (sym e ∙ q), λ f. e ∙ exactly.1 f)
