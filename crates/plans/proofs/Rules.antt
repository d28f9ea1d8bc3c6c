-- The rules of the two tables and of the steps, one after the other. Assumes nothing.
use Prim.Native.Nat.{ℕ, zero, suc, ◌+◌, ◌<◌}
use mathlib.Core.Path.{◌≡◌, refl, ap, ◌∙◌, sym}
use mathlib.Core.Bool.{Bool, true, false}
use mathlib.Core.List.{List, [], ◌∷◌, map, append-nil}
use native.Mathlib.Omega.{arith}
use lib.ListN.{length}
use Rattle.refusals.specs.declared.Cause.{Cause}
use Rattle.refusals.specs.Numbers.{number_of, in_new_of}
use Rattle.refusals.proofs.Replies.{in_new_number}
use Rattle.table.proofs.AtEight.{refused_exactly, table-numbers}
use Rattle.refusals.specs.Rules.{Rule, Reply, gives, refuses, judge}
use Rattle.refusals.proofs.Judged.{all_next, some-here}
use Rattle.records.specs.Wire.{records}
use Rattle.records.specs.declared.Form.{Form}
use Rattle.table.specs.Checking.{check_reply}
use Rattle.table.specs.TableRules.{table_rules}
use Rattle.plans.specs.declared.answers.Step.{Step}
use Rattle.checking.specs.Checking.{puts}
use Rattle.plans.specs.Following.{step_at}
use Rattle.checking.specs.Checking.{step_kept}
use Rattle.plans.specs.Judging.{step_rules, of_new, tables_rules, check_rules}

-- Does the step keep rule 13?
abbrev pub kept : Form → Step → Bool
kept form s = step_kept form.strict (puts s.put) s.addr s.len s.hop

-- ---- Numbers by 20 higher.

new_gives : {A B : Type 0} (rs : List Rule) (a : A) {c : A} (b : B) → judge rs a ≡ gives c → judge (map of_new rs) b ≡ gives b
unfolding judge
new_gives [] a b e = refl
new_gives (r ∷ rs) a {c} b e = go r.kept refl (new_gives rs a {c = c} b)
  where
    go : (k : Bool) → r.kept ≡ k → (judge rs a ≡ gives c → judge (map of_new rs) b ≡ gives b) → judge (map of_new (r ∷ rs)) b ≡ gives b
    go true p more = rw p (more (rw p at e))
    go false p more = let z : ◌≡◌ {A = ℕ} 0 1 = cc (rw p at e) in absurd (omega arith)

new_refuses : {A B : Type 0} (rs : List Rule) (a : A) (b : B) (n i : ℕ) → judge rs a ≡ refuses n i → judge (map of_new rs) b ≡ refuses (n + 20) i
unfolding judge
new_refuses [] a b n i e = let z : ◌≡◌ {A = ℕ} 0 1 = cc in absurd (omega arith)
new_refuses (r ∷ rs) a b n i e = go r.kept refl (new_refuses rs a b n i)
  where
    go : (k : Bool) → r.kept ≡ k → (judge rs a ≡ refuses n i → judge (map of_new rs) b ≡ refuses (n + 20) i) → judge (map of_new (r ∷ rs)) b ≡ refuses (n + 20) i
    go true p more = rw p (more (rw p at e))
    go false p more = let f = rw p at e in let en : r.number ≡ n = cc in let ei : r.index ≡ i = cc in rw (p, en, ei)

-- ---- The steps.

module _ (form : Form) {A : Type 0} (a : A) where
  steps-kept : (i : ℕ) (ss : List Step) → ((j : ℕ) → j < length ss → kept form (step_at ss j) ≡ true) → judge (step_rules form i ss) a ≡ gives a
  unfolding judge step_rules
  steps-kept i [] k = refl
  steps-kept i (s ∷ ss) k = rw (k zero (omega arith)) (steps-kept (suc i) ss (λ j lt. k (suc j) (omega arith)))

  steps-broken : (i d : ℕ) (ss : List Step) → d < length ss → ((j : ℕ) → j < d → kept form (step_at ss j) ≡ true) → kept form (step_at ss d) ≡ false
      → judge (step_rules form i ss) a ≡ refuses 13 (i + d)
  unfolding judge step_rules
  steps-broken i d [] lt k e = absurd (omega arith)
  steps-broken i zero (s ∷ ss) lt k e = rw e (ap (refuses 13) (omega arith))
  steps-broken i (suc d) (s ∷ ss) lt k e =
      rw (k zero (omega arith)) (steps-broken (suc i) d ss (omega arith) (λ j l. k (suc j) (omega arith)) e ∙ ap (refuses 13) (omega arith))

-- ---- All of them.

module _ (form : Form) (t u : List ℕ) (ss : List Step) {A : Type 0} (a : A) where
  pub old_refused : {k i : ℕ} → check_reply form false t ≡ refuses k i → judge (check_rules form t u ss) a ≡ refuses k i
  unfolding check_rules tables_rules
  old_refused {k} {i} e =
      some-here a a k i (tables_rules form t u) (step_rules form 0 ss) (some-here a (records t) k i (table_rules form false t) (map of_new (table_rules form false u)) e)

  module _ {m : ℕ} (valid : check_reply form false t ≡ gives m) where
    pub new_refused : {k i : ℕ} → check_reply form false u ≡ refuses k i → judge (check_rules form t u ss) a ≡ refuses (k + 20) i
    unfolding check_rules tables_rules
    new_refused {k} {i} e =
        some-here a a (k + 20) i (tables_rules form t u) (step_rules form 0 ss)
        (all_next a (records t) {c = m} (table_rules form false t) (map of_new (table_rules form false u)) valid ∙ new_refuses (table_rules form false u) (records u) a k i e)

    module _ {l : ℕ} (valid' : check_reply form false u ≡ gives l) where
      tables_kept : judge (tables_rules form t u) a ≡ gives a
      unfolding tables_rules
      tables_kept =
          all_next a (records t) {c = m} (table_rules form false t) (map of_new (table_rules form false u)) valid
          ∙ new_gives (table_rules form false u) (records u) {c = l} a valid'

      pub all_kept : ((j : ℕ) → j < length ss → kept form (step_at ss j) ≡ true) → judge (check_rules form t u ss) a ≡ gives a
      unfolding check_rules
      all_kept k = all_next a a {c = a} (tables_rules form t u) (step_rules form 0 ss) tables_kept ∙ steps-kept form a 0 ss k

      pub step_refused : (d : ℕ) → d < length ss → ((j : ℕ) → j < d → kept form (step_at ss j) ≡ true) → kept form (step_at ss d) ≡ false
          → judge (check_rules form t u ss) a ≡ refuses 13 d
      unfolding check_rules
      step_refused d lt k e =
          all_next a a {c = a} (tables_rules form t u) (step_rules form 0 ss) tables_kept ∙ steps-broken form a 0 d ss lt k e ∙ ap (refuses 13) (omega arith)

-- ---- The tables alone.

module _ (form : Form) (t u : List ℕ) {A : Type 0} (a : A) where
  tables_whole : judge (tables_rules form t u) a ≡ judge (check_rules form t u []) a
  unfolding check_rules step_rules
  tables_whole = ap (λ (rs : List Rule). judge rs a) (sym (append-nil (tables_rules form t u)))

  pub old_broken : {k i : ℕ} → check_reply form false t ≡ refuses k i → judge (tables_rules form t u) a ≡ refuses k i
  old_broken e = tables_whole ∙ old_refused form t u [] a e

  module _ {m : ℕ} (valid : check_reply form false t ≡ gives m) where
    pub new_broken : {k i : ℕ} → check_reply form false u ≡ refuses k i → judge (tables_rules form t u) a ≡ refuses (k + 20) i
    new_broken e = tables_whole ∙ new_refused form t u [] a valid e

    pub none_broken : {l : ℕ} → check_reply form false u ≡ gives l → judge (tables_rules form t u) a ≡ gives a
    none_broken e = tables_whole ∙ all_kept form t u [] a valid e (λ j lt. absurd (omega arith))

module _ (form : Form) (t u : List ℕ) where
  -- Where no rule is broken both checks give.
  pub both_given : {a : Bool} → judge (tables_rules form t u) a ≡ gives a
      → ((m : ℕ) × (check_reply form false t ≡ gives m)) × ((l : ℕ) × (check_reply form false u ≡ gives l))
  both_given {a} k = go (check_reply form false t) refl (check_reply form false u) refl
    where
      go : (x : Reply ℕ) → check_reply form false t ≡ x → (y : Reply ℕ) → check_reply form false u ≡ y
          → ((m : ℕ) × (check_reply form false t ≡ gives m)) × ((l : ℕ) × (check_reply form false u ≡ gives l))
      go (refuses n i) e y f = let z : refuses n i ≡ gives a = sym (old_broken form t u a e) ∙ k in let o : ◌≡◌ {A = ℕ} 0 1 = cc in absurd (omega arith)
      go (gives m) e (refuses n i) f =
          let z : refuses (n + 20) i ≡ gives a = sym (new_broken form t u a e f) ∙ k in let o : ◌≡◌ {A = ℕ} 0 1 = cc in absurd (omega arith)
      go (gives m) e (gives l) f = ((m, e), (l, f))

  -- A fault of the new table by its cause there.
  pub new_by_cause : {m : ℕ} → check_reply form false t ≡ gives m → (c : Cause) (i : ℕ) → check_reply form false u ≡ refuses (number_of c) i
      → judge (tables_rules form t u) true ≡ refuses (number_of (in_new_of c)) i
  new_by_cause valid c i e =
      let range = table-numbers form false u (number_of c) i ((refused_exactly form false u (records u) (number_of c) i).0 e).0 in
      new_broken form t u true valid e ∙ ap (λ (n : ℕ). refuses n i) (sym (in_new_number c range.0 range.1))

  -- Rules of tables that are broken refuse the steps too.
  pub tables_first : (ss : List Step) {n i : ℕ} → judge (tables_rules form t u) true ≡ refuses n i → judge (check_rules form t u ss) true ≡ refuses n i
  unfolding check_rules
  tables_first ss {n} {i} e = some-here true true n i (tables_rules form t u) (step_rules form 0 ss) e
