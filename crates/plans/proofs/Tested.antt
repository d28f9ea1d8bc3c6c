-- The rules of the calls of plans test the documents' conditions, and stand in the order of the checks. Assumes nothing.
use Prim.Native.Nat.{ℕ, zero, suc, ◌+◌, ◌-◌, ◌%◌, ◌^◌, ◌≤◌, ◌<◌}
use mathlib.Core.Path.{◌≡◌, refl, ap, subst}
use mathlib.Core.Bool.{Bool, true, false, not, ◌&&◌, and-eq-true_iff}
use mathlib.Core.List.{List, [], ◌∷◌, map}
use mathlib.Core.Logic.{inl, inr, ◌↔◌}
use native.Mathlib.Omega.{arith}
use lib.Dec.{eqb, leb}
use lib.ListN.{length}
use borrow.Author.Tests.{eqb-true, eqb-false, eq-eqb, ne_eqb, leb-true, le-leb}
use Rattle.refusals.specs.Rules.{Rule}
use Rattle.refusals.specs.Order.{rank, Earlier}
use Rattle.refusals.proofs.Shown.{Shows, shown, fails, refuted}
use Rattle.refusals.proofs.Judged.{Broken, InOrder}
use Rattle.refusals.proofs.Ranked.{at, broken-left, broken-right, sound-append, Ranked, ranked_append}
use Rattle.records.specs.declared.Form.{Form}
use Rattle.table.specs.SizedConditions.{TableConditionIn, not_whole, too_many, of_record, too_long, host_bits, bad_tail, not_after}
use Rattle.table.specs.TableRules.{table_rules}
use Rattle.table.proofs.AtEight.{table_tests, table_ranked}
use Rattle.checking.specs.Checking.{puts}
use Rattle.checking.specs.Checking.{host_kept_of, hop_kept_of}
use Rattle.plans.specs.declared.answers.Step.{Step}
use Rattle.plans.specs.Judging.{step_rules, of_new, tables_rules, check_rules}
use Rattle.plans.specs.Following.{step_at}
use Rattle.plans.specs.Conditions.{TablesCondition, of_installed, of_new_lem, StepKept, PlanCondition, of_tables, of_step}
use Rattle.plans.proofs.Rules.{kept}

-- ---- Rule 13 says whether a step keeps what it has to.

host_into : (strict : Bool) (addr len : ℕ) → host_kept_of strict addr len ≡ true → strict ≡ true → addr % 2 ^ (32 - len) ≡ 0
host_into true addr len e q = eqb-true _ 0 e
host_into false addr len e q = let z : ◌≡◌ {A = ℕ} 0 1 = cc in absurd (omega arith)

host_from : (strict : Bool) (addr len : ℕ) → (strict ≡ true → addr % 2 ^ (32 - len) ≡ 0) → host_kept_of strict addr len ≡ true
host_from true addr len h = eq-eqb _ 0 (h refl)
host_from false addr len h = refl

hop_into : (put hop : ℕ) → hop_kept_of (puts put) hop ≡ true → (put ≡ 0 → ⊥) → hop ≤ 63
hop_into put hop e n = leb-true hop 63 (rw (ne_eqb put 0 n) at e)

hop_from : (put hop : ℕ) → ((put ≡ 0 → ⊥) → hop ≤ 63) → hop_kept_of (puts put) hop ≡ true
hop_from put hop h = go (eqb put 0) refl
  where
    go : (b : Bool) → eqb put 0 ≡ b → hop_kept_of (not b) hop ≡ true
    go true e = refl
    go false e = le-leb hop 63 (h (eqb-false put 0 e))

pub step_shown : (form : Form) (s : Step) → Shows (StepKept form s) (kept form s)
step_shown form s = shown (kept form s) into from
  where
    into : kept form s ≡ true → StepKept form s
    into e =
        let p = (and-eq-true_iff (leb s.len 32) (host_kept_of form.strict s.addr s.len && hop_kept_of (puts s.put) s.hop)).0 e in
        let q = (and-eq-true_iff (host_kept_of form.strict s.addr s.len) (hop_kept_of (puts s.put) s.hop)).0 p.1 in
        record {
          length_kept = leb-true s.len 32 p.0;
          host_kept = host_into form.strict s.addr s.len q.0;
          hop_kept = hop_into s.put s.hop q.1;
        }

    from : StepKept form s → kept form s ≡ true
    from k =
        (and-eq-true_iff (leb s.len 32) (host_kept_of form.strict s.addr s.len && hop_kept_of (puts s.put) s.hop)).1 (
          le-leb s.len 32 k.length_kept,
          (and-eq-true_iff (host_kept_of form.strict s.addr s.len) (hop_kept_of (puts s.put) s.hop)).1 (
            host_from form.strict s.addr s.len k.host_kept,
            hop_from s.put s.hop k.hop_kept,
          ),
        )

-- ---- The rules of steps.

module _ (form : Form) where
  -- A step past the first i that does not keep the rule.
  pub record BadFrom (i : ℕ) (ss : List Step) (n j : ℕ) : Type 0 where
    pub number : 13 ≡ n
    pub place : ℕ
    pub index : i + place ≡ j
    pub inside : place < length ss
    pub bad : kept form (step_at ss place) ≡ false

  pub steps-broken : (i : ℕ) (ss : List Step) (n j : ℕ) → Broken (step_rules form i ss) n j → BadFrom i ss n j
  unfolding step_rules
  steps-broken i [] n j b = absurd b
  steps-broken i (s ∷ ss) n j (inl b) = record { number = b.1; place = 0; index = omega (arith, b.2); inside = omega arith; bad = b.0 }
  steps-broken i (s ∷ ss) n j (inr b) =
      let z = steps-broken (suc i) ss n j b in
      record { number = z.number; place = suc z.place; index = omega (arith, z.index); inside = omega (arith, z.inside); bad = z.bad }

  pub steps_breaks : (i : ℕ) (ss : List Step) (d : ℕ) → d < length ss → kept form (step_at ss d) ≡ false → Broken (step_rules form i ss) 13 (i + d)
  unfolding step_rules
  steps_breaks i [] d lt e = absurd (omega arith)
  steps_breaks i (s ∷ ss) zero lt e = inl (e, refl, omega arith)
  steps_breaks i (s ∷ ss) (suc d) lt e =
      let z : suc i + d ≡ i + suc d = omega arith in
      inr (subst (Broken (step_rules form (suc i) ss) 13) z (steps_breaks (suc i) ss d (omega arith) e))

  steps_in_order : (i : ℕ) (ss : List Step) → InOrder (step_rules form i ss)
  unfolding step_rules
  steps_in_order i [] = tt
  steps_in_order i (s ∷ ss) = (
    λ k n j b. let z = steps-broken (suc i) ss n j b in at (Earlier 13 i) z.number z.index (inr (refl, inl (omega arith))),
    steps_in_order (suc i) ss,
  )

  pub steps_ranked : (ss : List Step) → Ranked 15 16 (step_rules form 0 ss)
  unfolding rank
  steps_ranked ss =
      record {
        order = steps_in_order 0 ss;
        from = λ n j b. subst (λ (m : ℕ). 15 ≤ rank m) (steps-broken 0 ss n j b).number (omega arith);
        below = λ n j b. subst (λ (m : ℕ). rank m < 16) (steps-broken 0 ss n j b).number (omega arith);
      }

-- ---- Numbers by 20 higher.

new_broken : (rs : List Rule) (n i : ℕ) → Broken (map of_new rs) n i → (m : ℕ) × (m + 20 ≡ n) × Broken rs m i
new_broken [] n i b = absurd b
new_broken (r ∷ rs) n i (inl b) = (r.number, b.1, inl (b.0, refl, b.2))
new_broken (r ∷ rs) n i (inr b) = let z = new_broken rs n i b in (z.0, z.1, inr z.2)

new_breaks : (rs : List Rule) (n i : ℕ) → Broken rs n i → Broken (map of_new rs) (n + 20) i
new_breaks [] n i b = absurd b
new_breaks (r ∷ rs) n i (inl b) = inl (b.0, ap (λ (m : ℕ). m + 20) b.1, b.2)
new_breaks (r ∷ rs) n i (inr b) = inr (new_breaks rs n i b)

-- The places of the numbers 23 to 28 are those of 3 to 8, by 8 later.
rank_new : {strict s : Bool} {t : List ℕ} {n i : ℕ} → TableConditionIn 8 strict s t n i → rank (n + 20) ≡ rank n + 8
unfolding rank
rank_new (not_whole f) = refl
rank_new (too_many h) = refl
rank_new (of_record h (too_long f)) = refl
rank_new (of_record h (host_bits f)) = refl
rank_new (of_record h (bad_tail f)) = refl
rank_new (of_record h (not_after f)) = refl

earlier_new : (m i n j : ℕ) → rank (m + 20) ≡ rank m + 8 → rank (n + 20) ≡ rank n + 8 → Earlier m i n j → Earlier (m + 20) i (n + 20) j
earlier_new m i n j p q (inl h) = inl (omega arith)
earlier_new m i n j p q (inr (e, inl h)) = inr (omega arith, inl h)
earlier_new m i n j p q (inr (e, inr h)) = inr (omega arith, inr (h.0, let l = h.1 in omega arith))

new_in_order : (rs : List Rule) → ((n i : ℕ) → Broken rs n i → rank (n + 20) ≡ rank n + 8) → InOrder rs → InOrder (map of_new rs)
new_in_order [] shift o = tt
new_in_order (r ∷ rs) shift (front, o) = (
  λ k n j b.
      let z = new_broken rs n j b in
      at (Earlier (r.number + 20) r.index) z.1 refl
      (earlier_new r.number r.index z.0 j (shift r.number r.index (inl (k, refl, refl))) (shift z.0 j (inr z.2)) (front k z.0 j z.2)),
  new_in_order rs (λ n i b. shift n i (inr b)) o,
)

-- ---- The rules of both tables.

module _ (form : Form) (t u : List ℕ) where
  abbrev theirs : List Rule
  theirs = table_rules form false u

  shift : (n i : ℕ) → Broken (table_rules form false u) n i → rank (n + 20) ≡ rank n + 8
  shift n i b = rank_new ((table_tests form false u n i).0 b)

  new_ranked : Ranked 7 15 (map of_new (table_rules form false u))
  new_ranked =
      record {
        order = new_in_order (table_rules form false u) shift (table_ranked form false u).order;
        from = λ n i b. let z = new_broken theirs n i b in
            subst (λ (m : ℕ). 7 ≤ rank m) z.1 (omega (arith, shift z.0 i z.2, (table_ranked form false u).from z.0 i z.2));
        below = λ n i b. let z = new_broken theirs n i b in
            subst (λ (m : ℕ). rank m < 15) z.1 (omega (arith, shift z.0 i z.2, (table_ranked form false u).below z.0 i z.2));
      }

  -- They stand in the order of the checks.
  pub tables_ranked : Ranked 4 15 (tables_rules form t u)
  unfolding tables_rules
  tables_ranked =
      ranked_append 4 7 15 (table_rules form false t) (map of_new (table_rules form false u)) (omega arith) (omega arith) (table_ranked form false t) new_ranked

  tables_broken : (n i : ℕ) → Broken (tables_rules form t u) n i → TablesCondition form t u n i
  unfolding tables_rules
  tables_broken =
      sound-append (TablesCondition form t u) (table_rules form false t) (map of_new (table_rules form false u))
      (λ n i b. of_installed ((table_tests form false t n i).0 b))
      (λ n i b. let z = new_broken theirs n i b in at (TablesCondition form t u) z.1 refl (of_new_lem ((table_tests form false u z.0 i).0 z.2)))

  tables_breaks : (n i : ℕ) → TablesCondition form t u n i → Broken (tables_rules form t u) n i
  unfolding tables_rules
  tables_breaks n i (of_installed c) = broken-left (table_rules form false t) (map of_new theirs) n i ((table_tests form false t n i).1 c)
  tables_breaks n i (of_new_lem {n = m} c) = broken-right (table_rules form false t) (map of_new theirs) (m + 20) i (new_breaks theirs m i ((table_tests form false u m i).1 c))

  -- They test the conditions of the tables.
  pub tables_tests : (n i : ℕ) → Broken (tables_rules form t u) n i ↔ TablesCondition form t u n i
  tables_tests n i = (tables_broken n i, tables_breaks n i)

  -- ---- The rules of the checker.
  module _ (ss : List Step) where
    -- They stand in the order of the checks.
    pub check_ranked : Ranked 4 16 (check_rules form t u ss)
    unfolding check_rules
    check_ranked = ranked_append 4 15 16 (tables_rules form t u) (step_rules form 0 ss) (omega arith) (omega arith) tables_ranked (steps_ranked form ss)

    check_broken : (n i : ℕ) → Broken (check_rules form t u ss) n i → PlanCondition form t u ss n i
    unfolding check_rules
    check_broken =
        sound-append (PlanCondition form t u ss) (tables_rules form t u) (step_rules form 0 ss) (λ n i b. of_tables (tables_broken n i b))
        (λ n i b. let z = steps-broken form 0 ss n i b in
        at (PlanCondition form t u ss) z.number (omega (arith, z.index)) (of_step z.inside (refuted (step_shown form (step_at ss z.place)) z.bad)))

    check_breaks : (n i : ℕ) → PlanCondition form t u ss n i → Broken (check_rules form t u ss) n i
    unfolding check_rules
    check_breaks n i (of_tables c) = broken-left (tables_rules form t u) (step_rules form 0 ss) n i (tables_breaks n i c)
    check_breaks n i (of_step lt f) =
        let z : 0 + i ≡ i = omega arith in
        broken-right (tables_rules form t u) (step_rules form 0 ss) n i
        (subst (Broken (step_rules form 0 ss) 13) z (steps_breaks form 0 ss i lt (fails (step_shown form (step_at ss i)) f)))

    -- They test the conditions of the checker.
    pub check_tests : (n i : ℕ) → Broken (check_rules form t u ss) n i ↔ PlanCondition form t u ss n i
    check_tests n i = (check_broken n i, check_breaks n i)
