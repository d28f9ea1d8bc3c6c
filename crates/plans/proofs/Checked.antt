-- The checker's answer as the statement says it. Assumes nothing.
use Prim.Native.Nat.{ℕ}
use mathlib.Core.Path.{◌≡◌, refl, sym, ◌∙◌}
use mathlib.Core.Bool.{Bool, true, false}
use mathlib.Core.List.{List}
use native.Mathlib.Omega.{arith}
use Rattle.std.specs.Prelude.{Ok, Err}
use Rattle.refusals.specs.declared.Refusal.{Refusal}
use Rattle.refusals.specs.Numbers.{number_of}
use Rattle.refusals.specs.Rules.{gives, refuses, judge}
use Rattle.refusals.proofs.Judged.{gives_any}
use Rattle.records.specs.declared.Form.{Form}
use Rattle.plans.specs.declared.answers.Step.{Step}
use Rattle.plans.specs.Judging.{check_rules, Accepts, Judges}

module _ (form : Form) (t u : List ℕ) (ss : List Step) where
  pub answers_refused : {r : Refusal} → judge (check_rules form t u ss) true ≡ refuses (number_of r.cause) r.index → Judges form t u ss (Err r)
  answers_refused e =
      record { word = true; answer = sym e; exactly = λ g. let z : ◌≡◌ {A = ℕ} 0 1 = cc (sym e ∙ g) in absurd (omega arith) }

  pub answers_given : (b : Bool) → judge (check_rules form t u ss) true ≡ gives true → (b ≡ true → Accepts t u ss) → (b ≡ false → Accepts t u ss → ⊥)
      → Judges form t u ss (Ok b)
  answers_given b k accepts rejects =
      record {
        word = b;
        answer = sym (gives_any (check_rules form t u ss) true true b k);
        exactly = λ g. (accepts, λ h. go b refl h);
      }
    where
      go : (c : Bool) → b ≡ c → Accepts t u ss → b ≡ true
      go true e h = e
      go false e h = absurd (rejects e h)
