-- Rules whose numbers are those of causes: whatever is judged by them, some answer says. Assumes nothing.
use mathlib.Core.Path.{◌≡◌, refl, ap, ◌∙◌}
use mathlib.Core.Bool.{Bool, true, false}
use mathlib.Core.List.{List, [], ◌∷◌, ◌++◌}
use Prim.Native.Nat.{ℕ}
use native.Mathlib.Omega.{arith}
use Rattle.std.specs.Prelude.{Result, Ok, Err}
use Rattle.refusals.specs.Rules.{Rule, Reply, gives, refuses, judge}
use Rattle.refusals.specs.Numbers.{number_of, reply_of}
use Rattle.refusals.specs.declared.Cause.{Cause}
use Rattle.refusals.specs.declared.Refusal.{Refusal}

-- The number is a cause's.
abbrev pub IsCaused : ℕ → Type 0
IsCaused n = (c : Cause) × (number_of c ≡ n)

-- The numbers of all rules are.
abbrev pub AllCaused : List Rule → Type 0
AllCaused [] = Unit {0}
AllCaused (r ∷ rs) = IsCaused r.number × AllCaused rs

pub caused_append : (rs qs : List Rule) → AllCaused rs → AllCaused qs → AllCaused (rs ++ qs)
caused_append [] qs a b = b
caused_append (r ∷ rs) qs (c, a) b = (c, caused_append rs qs a b)

-- What is refused by them is refused by a cause's number.
pub judge_caused : {A : Type 0} (rs : List Rule) (a : A) → AllCaused rs → (n i : ℕ) → judge rs a ≡ refuses n i → IsCaused n
unfolding judge
judge_caused [] a all n i e = let z : ◌≡◌ {A = ℕ} 0 1 = cc in absurd (omega arith)
judge_caused {A} (r ∷ rs) a (c, all) n i e = go r.kept refl (judge_caused rs a all n i)
  where
    go : (k : Bool) → r.kept ≡ k → (judge rs a ≡ refuses n i → IsCaused n) → IsCaused n
    go true p more = more (rw p at e)
    go false p more = let f = rw p at e in let same : r.number ≡ n = cc in (c.0, c.1 ∙ same)

-- A reply that refuses by causes' numbers alone is said by an answer, if each value is said by one.
pub reply_met : {A B : Type 0} (f : B → A) → ((a : A) → (b : B) × (f b ≡ a)) → (q : Reply A) → ((n i : ℕ) → q ≡ refuses n i → IsCaused n)
    → (r : Result B Refusal) × (reply_of f r ≡ q)
reply_met f back (gives a) known = let b = back a in (Ok b.0, ap gives b.1)
reply_met {A} f back (refuses n i) known =
    let c = known n i refl in
    (Err (record { cause = c.0; index = i }), ap (λ (k : ℕ). refuses k i) c.1)
