-- What the checker's statement settles: no second answer satisfies it, yes is said exactly where the steps are hitless, and a cut after any step of an accepted
-- plan leaves every address an old or a new answer. The answer of a call is any r of which the call's `ensures` holds. Assumes nothing.
use Prim.Native.Nat.{ℕ, ◌^◌, ◌<◌}
use mathlib.Core.Path.{◌≡◌, refl, sym, ap, ◌∙◌}
use mathlib.Core.Bool.{Bool, true, false}
use mathlib.Core.List.{List, map}
use mathlib.Core.Logic.{◌↔◌}
use Rattle.std.specs.Prelude.{Result, Ok}
use Rattle.refusals.specs.declared.Refusal.{Refusal}
use Rattle.refusals.proofs.Replies.{reply_same}
use Rattle.refusals.specs.Rules.{Reply, gives, refuses, judge}
use Rattle.refusals.proofs.Judged.{gives_any, refuses_any}
use Rattle.records.specs.Wire.{routes}
use Rattle.records.specs.declared.Form.{Form}
use Rattle.steps.specs.Steps.{after, OldOrNew}
use Rattle.plans.specs.declared.answers.Step.{Step}
use Rattle.plans.specs.Judging.{step_of, check_rules, judged_says, Accepts, Judges}

-- Answers that say the same are the same.
pub judged_same : (a b : Result Bool Refusal) → judged_says a ≡ judged_says b → a ≡ b
judged_same = reply_same (λ b. b) (λ a b e. e)

module _ (form : Form) (t u : List ℕ) (ss : List Step) where
  -- No second answer satisfies the statement.
  pub check_settled : (r q : Result Bool Refusal) → Judges form t u ss r → Judges form t u ss q → r ≡ q
  check_settled r q a b = judged_same r q (a.answer ∙ go (judge (check_rules form t u ss) true) refl ∙ sym b.answer)
    where
      same_word : judge (check_rules form t u ss) true ≡ gives true → (v w : Bool) → a.word ≡ v → b.word ≡ w → v ≡ w
      same_word k true true e f = refl
      same_word k false false e f = refl
      same_word k true false e f = sym ((b.exactly k).1 ((a.exactly k).0 e)) ∙ f
      same_word k false true e f = sym e ∙ (a.exactly k).1 ((b.exactly k).0 f)

      go : (y : Reply Bool) → judge (check_rules form t u ss) true ≡ y → judge (check_rules form t u ss) a.word ≡ judge (check_rules form t u ss) b.word
      go (gives v) k =
          let g = gives_any (check_rules form t u ss) true v true k in
          ap (λ (w : Bool). judge (check_rules form t u ss) w) (same_word g a.word b.word refl refl)
      go (refuses n i) k = refuses_any (check_rules form t u ss) true a.word n i k ∙ sym (refuses_any (check_rules form t u ss) true b.word n i k)

  module _ (r : Result Bool Refusal) (s : Judges form t u ss r) where
    -- Where nothing is refused, yes is said exactly where the steps are hitless.
    pub yes_exactly : judge (check_rules form t u ss) true ≡ gives true → r ≡ Ok true ↔ Accepts t u ss
    yes_exactly k = (
      λ e. (s.exactly k).0 (word_true s.word refl (sym s.answer ∙ ap judged_says e)),
      λ h. judged_same r (Ok true) (s.answer ∙ ap (λ (w : Bool). judge (check_rules form t u ss) w) ((s.exactly k).1 h) ∙ k),
    )
      where
        word_true : (w : Bool) → s.word ≡ w → judge (check_rules form t u ss) s.word ≡ gives true → s.word ≡ true
        word_true true e y = e
        word_true false e y =
            let z : judge (check_rules form t u ss) s.word ≡ gives s.word = gives_any (check_rules form t u ss) true true s.word k in
            let x : gives s.word ≡ gives true = sym z ∙ y in cc

    -- Yes is said only where nothing is refused.
    pub yes_kept : r ≡ Ok true → judge (check_rules form t u ss) true ≡ gives true
    yes_kept e = gives_any (check_rules form t u ss) s.word true true (sym s.answer ∙ ap judged_says e)

    -- So is no.
    pub no_kept : r ≡ Ok false → judge (check_rules form t u ss) true ≡ gives true
    no_kept e = gives_any (check_rules form t u ss) s.word false true (sym s.answer ∙ ap judged_says e)

    -- A cut after any number of steps of an accepted plan leaves every address an old or a new answer.
    pub cut_anywhere : r ≡ Ok true → (k x : ℕ) → x < 2 ^ 32 → OldOrNew 32 (routes t) (routes u) (after k (map step_of ss) (routes t)) x
    cut_anywhere e k x lt = ((yes_exactly (yes_kept e)).0 e).answered k x lt
