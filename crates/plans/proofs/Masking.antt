-- Host bits in the checker: an answer under the strict choice is the default's wherever it is not refused by 6, 26 or 13; and accepted tables and steps, masked
-- and read by any form, have the default's answer. Assumes of a table, where it says so, that its elements are bytes.
use Prim.Native.Nat.{ℕ, suc, ◌+◌, ◌-◌, ◌/◌, ◌^◌}
use mathlib.Core.Path.{◌≡◌, refl, sym, ap, ap₂, ◌∙◌}
use mathlib.Core.Bool.{Bool, true, false, ◌&&◌}
use mathlib.Core.List.{List, [], ◌∷◌, ◌++◌, map}
use native.Mathlib.Nat.{mul-mod_left}
use native.Mathlib.Omega.{arith}
use lib.Dec.{leb}
use borrow.Author.Tests.{eq-eqb}
use Rattle.theory.specs.Results.{start_of}
use Rattle.std.specs.Prelude.{Result, Ok, Err}
use Rattle.refusals.specs.declared.Refusal.{Refusal}
use Rattle.refusals.specs.Numbers.{number_of}
use Rattle.refusals.specs.Rules.{Rule, rule, judge, refuses}
use Rattle.refusals.specs.Order.{None}
use Rattle.records.specs.Wire.{masked_bytes}
use Rattle.records.specs.Sized.{Bytes}
use Rattle.records.specs.declared.Form.{Form}
use Rattle.records.specs.Forms.{by_default, strictly}
use Rattle.table.specs.Conditions.{TableCondition, Accepted}
use Rattle.table.specs.SizedConditions.{not_whole, too_many, of_record, too_long, host_bits, bad_tail, not_after}
use Rattle.table.proofs.AtEight.{masked-routes, masked_rules}
use Rattle.checking.specs.Checking.{puts}
use Rattle.checking.specs.Checking.{host_kept_of, hop_kept_of}
use Rattle.plans.specs.declared.answers.Step.{Step}
use Rattle.plans.specs.Judging.{step_of, step_rules, of_new, tables_rules, check_rules, Accepts, Judges, judged_says}
use Rattle.plans.specs.Conditions.{of_installed, of_new_lem, PlanCondition, of_tables, of_step}
use Rattle.plans.proofs.Calls.{yes_kept, no_kept, judged_same}
use Rattle.plans.proofs.Following.{start_twice}
use Rattle.plans.proofs.Refusals.{kept-exactly, check_refused, check_yes, check_no}

-- ---- The strict choice and the default.

-- A fault by default is one under the strict choice.
table_stricter : {t : List ℕ} {n i : ℕ} → TableCondition by_default false t n i → TableCondition strictly false t n i
table_stricter (not_whole f) = not_whole f
table_stricter (too_many h) = too_many h
table_stricter (of_record h (too_long f)) = of_record h (too_long f)
table_stricter (of_record h (host_bits f)) = absurd (f (λ e. let z : ◌≡◌ {A = ℕ} 0 1 = cc in absurd (omega arith)))
table_stricter (of_record h (bad_tail f)) = of_record h (bad_tail f)
table_stricter (of_record h (not_after f)) = of_record h (not_after f)

-- And one under the strict choice, not of host bits, is one by default.
table_looser : {t : List ℕ} {n i : ℕ} → (n ≡ 6 → ⊥) → TableCondition strictly false t n i → TableCondition by_default false t n i
table_looser six (not_whole f) = not_whole f
table_looser six (too_many h) = too_many h
table_looser six (of_record h (too_long f)) = of_record h (too_long f)
table_looser six (of_record h (host_bits f)) = absurd (six refl)
table_looser six (of_record h (bad_tail f)) = of_record h (bad_tail f)
table_looser six (of_record h (not_after f)) = of_record h (not_after f)

module _ (t u : List ℕ) (ss : List Step) where
  stricter : {n i : ℕ} → PlanCondition by_default t u ss n i → PlanCondition strictly t u ss n i
  stricter (of_tables (of_installed c)) = of_tables (of_installed (table_stricter c))
  stricter (of_tables (of_new_lem c)) = of_tables (of_new_lem (table_stricter c))
  stricter (of_step lt f) =
      of_step lt (λ k. f (record { length_kept = k.length_kept; host_kept = λ e. let z : ◌≡◌ {A = ℕ} 0 1 = cc in absurd (omega arith); hop_kept = k.hop_kept }))

  looser : {n i : ℕ} → (n ≡ 6 → ⊥) → (n ≡ 26 → ⊥) → (n ≡ 13 → ⊥) → PlanCondition strictly t u ss n i → PlanCondition by_default t u ss n i
  looser six more step (of_tables (of_installed c)) = of_tables (of_installed (table_looser six c))
  looser six more step (of_tables (of_new_lem c)) = of_tables (of_new_lem (table_looser (λ e. more (ap (λ (m : ℕ). m + 20) e)) c))
  looser six more step (of_step lt f) = absurd (step refl)

  -- What is not refused by 6, 26 or 13 is the default's.
  pub check_carried : (r q : Result Bool Refusal) → Judges strictly t u ss r → Judges by_default t u ss q
      → ((i : ℕ) → judged_says r ≡ refuses 6 i → ⊥) → ((i : ℕ) → judged_says r ≡ refuses 26 i → ⊥) → ((i : ℕ) → judged_says r ≡ refuses 13 i → ⊥) → q ≡ r
  check_carried r q one other six more step = go r refl
    where
      none : None (PlanCondition strictly t u ss) → None (PlanCondition by_default t u ss)
      none f n i c = f n i (stricter c)

      go : (v : Result Bool Refusal) → r ≡ v → q ≡ r
      go (Ok true) e =
          let f = (kept-exactly strictly t u ss).0 (yes_kept strictly t u ss r one e) in
          (check_yes by_default t u ss q other (none f)).1 ((check_yes strictly t u ss r one f).0 e) ∙ sym e
      go (Ok false) e =
          let f = (kept-exactly strictly t u ss).0 (no_kept strictly t u ss r one e) in
          (check_no by_default t u ss q other (none f)).1 ((check_no strictly t u ss r one f).0 e) ∙ sym e
      go (Err x) e =
          let n = number_of x.cause in
          let i = x.index in
          let said : judged_says r ≡ refuses n i = ap judged_says e in
          let f = (check_refused strictly t u ss r one n i).0 said in
          let by : (k : ℕ) → n ≡ k → judged_says r ≡ refuses k i = λ k d. said ∙ ap (λ (m : ℕ). refuses m i) d in
          judged_same q r
          ((check_refused by_default t u ss q other n i).1 (looser (λ d. six i (by 6 d)) (λ d. more i (by 26 d)) (λ d. step i (by 13 d)) f.0, λ m j l c. f.1 m j l (stricter c))
          ∙ sym said)

-- ---- Masked.

-- The step with its host bits cleared.
abbrev pub masked_step : Step → Step
masked_step s = record { addr = start_of (32 - s.len) s.addr; len = s.len; hop = s.hop; put = s.put; unread = s.unread }

same_step : (s : Step) → step_of (masked_step s) ≡ step_of s
same_step s = rw (start_twice (32 - s.len) s.addr)

same_steps : (ss : List Step) → map step_of (map masked_step ss) ≡ map step_of ss
same_steps [] = refl
same_steps (s ∷ ss) = ap₂ ◌∷◌ (same_step s) (same_steps ss)

module _ (other : Form) where
  host_masked : (strict : Bool) (addr len : ℕ) → host_kept_of strict (start_of (32 - len) addr) len ≡ true
  host_masked true addr len = eq-eqb _ 0 (mul-mod_left (addr / 2 ^ (32 - len)) (2 ^ (32 - len)))
  host_masked false addr len = refl

  same_step_rules : (i : ℕ) (ss : List Step) → step_rules other i (map masked_step ss) ≡ step_rules by_default i ss
  unfolding step_rules
  same_step_rules i [] = refl
  same_step_rules i (s ∷ ss) =
      ap₂ (λ (b : Bool) (l : List Rule). rule 13 i (leb s.len 32 && (b && hop_kept_of (puts s.put) s.hop)) ∷ l)
      (host_masked other.strict s.addr s.len) (same_step_rules (suc i) ss)

-- The masked bytes and steps, read by any form, in place of accepted tables and any steps.
module _ (form : Form) (t u : List ℕ) (bt : Bytes t) (bu : Bytes u) (ok : Accepted form false t) (ok' : Accepted form false u) (other : Form) (ss : List Step) where
  same_rules : check_rules other (masked_bytes t) (masked_bytes u) (map masked_step ss) ≡ check_rules by_default t u ss
  unfolding check_rules tables_rules
  same_rules =
      ap₂ ◌++◌ (ap₂ (λ (l k : List Rule). l ++ map of_new k) (masked_rules form false t bt ok other false) (masked_rules form false u bu ok' other false))
      (same_step_rules other 0 ss)

  -- They satisfy the statement of the tables and steps by default, and no other answer does.
  pub check_same : (r : Result Bool Refusal) → Judges other (masked_bytes t) (masked_bytes u) (map masked_step ss) r → Judges by_default t u ss r
  check_same r a =
      record {
        word = a.word;
        answer = a.answer ∙ ap (λ (l : List Rule). judge l a.word) same_rules;
        exactly = λ k. let z = a.exactly (ap (λ (l : List Rule). judge l true) same_rules ∙ k) in (λ e. into (z.0 e), λ h. z.1 (from h));
      }
    where
      into : Accepts (masked_bytes t) (masked_bytes u) (map masked_step ss) → Accepts t u ss
      into h = rw (masked-routes form false t bt ok, masked-routes form false u bu ok', same_steps ss) at h

      from : Accepts t u ss → Accepts (masked_bytes t) (masked_bytes u) (map masked_step ss)
      from h = rw (masked-routes form false t bt ok, masked-routes form false u bu ok', same_steps ss) h
