-- The rules of a rewrite and of the cover query test document 01's conditions, and stand in the order of the checks. Assumes nothing.
use Prim.{tt}
use mathlib.Core.Path.{◌≡◌, refl, sym, ◌∙◌}
use mathlib.Core.Bool.{Bool, true, false, true≢false, not, ◌||◌, ◌&&◌}
use mathlib.Core.List.{List, [], ◌∷◌, ◌++◌}
use mathlib.Core.Logic.{inl, inr, ◌↔◌}
use Prim.Native.Nat.{ℕ, ◌*◌, ◌≤◌, ◌<◌}
use native.Mathlib.Omega.{arith}
use lib.Dec.{eqb, leb}
use lib.ListN.{length}
use borrow.Author.Tests.{eqb-true, eq-eqb, leb-true, leb-false, le-leb, lt-leb, not-false}
use Rattle.theory.specs.Ranks.{Ranking, is_ranking}
use Rattle.theory.proofs.Ranks.{ranking_tested}
use Rattle.refusals.specs.Rules.{Rule, rule}
use Rattle.refusals.specs.Order.{rank, Earlier}
use Rattle.refusals.proofs.Judged.{Broken}
use Rattle.refusals.proofs.Ranked.{broken-left, broken-right, sound-each, sound-append, Ranked, ranked_append, singles}
use Rattle.records.specs.Sized.{width_in, routes_in}
use Rattle.records.specs.declared.Form.{Form}
use Rattle.records.specs.Forms.{size_of}
use Rattle.records.proofs.SizedReading.{form_size}
use Rattle.table.specs.Conditions.{FormCondition}
use Rattle.table.specs.TableRules.{form_rules}
use Rattle.table.proofs.SizedTested.{in_table_tests, in_table_ranked}
use Rattle.nodecount.specs.Nodes.{nodes}
use Rattle.calls.specs.Conditions.{RewriteCondition, no_mode, retired, large_default, bad_ranks, of_table, short_work, short_output, CoverCondition, of_set, long_query, short_room}
use Rattle.calls.specs.Covering.{cover_rules}
use Rattle.calls.specs.Rewriting.{result_of, takes_set, rewrite_rules}

-- ---- Rules 1, 16, 2 and 15.
mode_refuted : (mode : ℕ) → (leb 1 mode && leb mode 5) ≡ false → (1 ≤ mode) × (mode ≤ 5) → ⊥
mode_refuted mode e h = let z : ◌≡◌ {A = ℕ} 0 1 = cc (le-leb 1 mode h.0, le-leb mode 5 h.1) in omega arith

mode_failed : (mode : ℕ) → ((1 ≤ mode) × (mode ≤ 5) → ⊥) → (leb 1 mode && leb mode 5) ≡ false
mode_failed mode n = go (leb 1 mode) refl (leb mode 5) refl
  where
    go : (p : Bool) → leb 1 mode ≡ p → (q : Bool) → leb mode 5 ≡ q → (p && q) ≡ false
    go true e true f = absurd (n (leb-true 1 mode e, leb-true mode 5 f))
    go true e false f = refl
    go false e q f = refl

retired_refuted : (mode : ℕ) → not (eqb mode 2) ≡ false → mode ≡ 2
retired_refuted mode e = eqb-true mode 2 (not-false (eqb mode 2) e)

retired_failed : (mode : ℕ) → mode ≡ 2 → not (eqb mode 2) ≡ false
retired_failed mode e = rw (eq-eqb mode 2 e)

default_refuted : (mode default : ℕ) → (not (eqb mode 5) || leb default 63) ≡ false → (mode ≡ 5) × (63 < default)
default_refuted mode default e = go (eqb mode 5) refl e
  where
    go : (p : Bool) → eqb mode 5 ≡ p → (not p || leb default 63) ≡ false → (mode ≡ 5) × (63 < default)
    go true f e = (eqb-true mode 5 f, leb-false default 63 e)
    go false f e = let z : ◌≡◌ {A = ℕ} 0 1 = cc in absurd (omega arith)

default_failed : (mode default : ℕ) → mode ≡ 5 → 63 < default → (not (eqb mode 5) || leb default 63) ≡ false
default_failed mode default e h = rw (eq-eqb mode 5 e, lt-leb default 63 h)

ranks_refuted : (mode : ℕ) (ranks : List ℕ) → (not (leb 4 mode) || is_ranking 64 ranks) ≡ false → (4 ≤ mode) × (Ranking 64 ranks → ⊥)
ranks_refuted mode ranks e = go (leb 4 mode) refl e
  where
    go : (p : Bool) → leb 4 mode ≡ p → (not p || is_ranking 64 ranks) ≡ false → (4 ≤ mode) × (Ranking 64 ranks → ⊥)
    go true f e = (leb-true 4 mode f, λ r. absurd (true≢false (sym ((ranking_tested 64 ranks).1 r) ∙ e)))
    go false f e = absurd (true≢false e)

ranks_failed : (mode : ℕ) (ranks : List ℕ) → 4 ≤ mode → (Ranking 64 ranks → ⊥) → (not (leb 4 mode) || is_ranking 64 ranks) ≡ false
ranks_failed mode ranks h no-ranking = rw (le-leb 4 mode h) (go (is_ranking 64 ranks) refl)
  where
    go : (b : Bool) → is_ranking 64 ranks ≡ b → b ≡ false
    go true e = absurd (no-ranking ((ranking_tested 64 ranks).0 e))
    go false e = refl

-- ---- The rules of any engine: 1, 16, 2 and 15, the table's, then its last. `known` says whether it has the mode, or the mode is 2.
abbrev pub rules_with : Bool → Form → List ℕ → ℕ → ℕ → List ℕ → List Rule → List Rule
rules_with known form t mode default ranks last =
    rule 1 0 known
    ∷ rule 16 0 (not (eqb mode 2))
    ∷ rule 2 0 (not (eqb mode 5) || leb default 63)
    ∷ rule 15 0 (not (leb 4 mode) || is_ranking 64 ranks)
    ∷ form_rules form (takes_set mode) t
    ++ last

module _ (known : Bool) (form : Form) (t : List ℕ) (mode default : ℕ) (ranks : List ℕ) (last : List Rule) where
  abbrev table : List Rule
  table = form_rules form (takes_set mode) t

  -- Those of the mode, which have one place, and those of the default and the ranks.
  abbrev front : List Rule
  front = rule 1 0 known ∷ rule 16 0 (not (eqb mode 2)) ∷ []

  abbrev second : List Rule
  second = rule 2 0 (not (eqb mode 5) || leb default 63) ∷ rule 15 0 (not (leb 4 mode) || is_ranking 64 ranks) ∷ []

  front_ranked : Ranked 1 2 front
  unfolding rank
  front_ranked =
      record {
        order = (λ p. sound-each (Earlier 1 0) (rule 16 0 (not (eqb mode 2)) ∷ []) ((λ e. inr (refl, inr (refl, omega arith))), tt), ((λ p n j b. absurd b), tt));
        from = sound-each (λ n i. 1 ≤ rank n) front ((λ e. omega arith), ((λ e. omega arith), tt));
        below = sound-each (λ n i. rank n < 2) front ((λ e. omega arith), ((λ e. omega arith), tt));
      }

  -- They stand in the order of the checks where the last do.
  pub ranked_with : (q : ℕ) → 7 ≤ q → Ranked 7 q last → Ranked 1 q (rules_with known form t mode default ranks last)
  unfolding rank
  ranked_with q le ranked =
      ranked_append 1 2 q front (second ++ (table ++ last)) (omega arith) (omega arith) front_ranked
      (ranked_append 2 4 q second (table ++ last) (omega arith) (omega arith) (singles 2 4 second refl).1
      (ranked_append 4 7 q table last (omega arith) le (in_table_ranked (size_of form) (form_size form) form.strict (takes_set mode) t) ranked))

  -- What each that is broken stands for.
  pub broken_with : (Holds : ℕ → ℕ → Type 0) → (known ≡ false → Holds 1 0) → (mode ≡ 2 → Holds 16 0) → (mode ≡ 5 → 63 < default → Holds 2 0)
      → (4 ≤ mode → (Ranking 64 ranks → ⊥) → Holds 15 0)
      → ((n i : ℕ) → FormCondition form (takes_set mode) t n i → Holds n i) → ((n i : ℕ) → Broken last n i → Holds n i)
      → (n i : ℕ) → Broken (rules_with known form t mode default ranks last) n i → Holds n i
  broken_with Holds one sixteen two fifteen of-records behind =
      sound-append Holds (front ++ second) (table ++ last)
      (sound-each Holds (front ++ second) (
        one,
        (
          λ e. sixteen (retired_refuted mode e),
          (
            λ e. let f = default_refuted mode default e in two f.0 f.1,
            (λ e. let f = ranks_refuted mode ranks e in fifteen f.0 f.1, tt),
          ),
        ),
      ))
      (sound-append Holds table last (λ n i b. of-records n i ((in_table_tests (size_of form) (form_size form) form.strict (takes_set mode) t n i).0 b)) behind)

  -- And back.
  pub breaks_mode : known ≡ false → Broken (rules_with known form t mode default ranks last) 1 0
  breaks_mode e = inl (e, refl, refl)

  pub breaks_retired : mode ≡ 2 → Broken (rules_with known form t mode default ranks last) 16 0
  breaks_retired e = inr (inl (retired_failed mode e, refl, refl))

  pub breaks_default : mode ≡ 5 → 63 < default → Broken (rules_with known form t mode default ranks last) 2 0
  breaks_default e h = inr (inr (inl (default_failed mode default e h, refl, refl)))

  pub breaks_ranks : 4 ≤ mode → (Ranking 64 ranks → ⊥) → Broken (rules_with known form t mode default ranks last) 15 0
  breaks_ranks h f = inr (inr (inr (inl (ranks_failed mode ranks h f, refl, refl))))

  pub breaks_table : (n i : ℕ) → FormCondition form (takes_set mode) t n i → Broken (rules_with known form t mode default ranks last) n i
  breaks_table n i c = inr (inr (inr (inr (broken-left table last n i ((in_table_tests (size_of form) (form_size form) form.strict (takes_set mode) t n i).1 c)))))

  pub breaks_last : (n i : ℕ) → Broken last n i → Broken (rules_with known form t mode default ranks last) n i
  breaks_last n i b = inr (inr (inr (inr (broken-right table last n i b))))

-- ---- The rules of a rewrite.
module _ (form : Form) (t : List ℕ) (mode default : ℕ) (ranks : List ℕ) (room words : ℕ) where
  abbrev Holds : ℕ → ℕ → Type 0
  Holds = RewriteCondition form t mode default ranks room words

  abbrev known : Bool
  known = leb 1 mode && leb mode 5

  abbrev behind : List Rule
  behind = rule 10 0 (leb (160 * nodes (width_in (size_of form)) (routes_in (size_of form) t)) words) ∷ rule 11 0 (leb (size_of form * length (result_of (size_of form) t mode default ranks)) room) ∷ []

  -- They stand in the order of the checks.
  pub rewrite_ranked : Ranked 1 11 (rewrite_rules form t mode default ranks room words)
  unfolding rewrite_rules rank
  rewrite_ranked = ranked_with known form t mode default ranks behind 11 (omega arith) (singles 7 11 behind refl).1

  rewrite_broken : (n i : ℕ) → Broken (rewrite_rules form t mode default ranks room words) n i → Holds n i
  unfolding rewrite_rules
  rewrite_broken =
      broken_with known form t mode default ranks behind Holds (λ e. no_mode (mode_refuted mode e)) retired large_default bad_ranks (λ n i c. of_table c)
      (sound-each Holds behind (
        λ e. short_work (leb-false (160 * nodes (width_in (size_of form)) (routes_in (size_of form) t)) words e),
        (λ e. short_output (leb-false (size_of form * length (result_of (size_of form) t mode default ranks)) room e), tt),
      ))

  rewrite_breaks : (n i : ℕ) → Holds n i → Broken (rewrite_rules form t mode default ranks room words) n i
  unfolding rewrite_rules
  rewrite_breaks n i (no_mode f) = breaks_mode known form t mode default ranks behind (mode_failed mode f)
  rewrite_breaks n i (retired e) = breaks_retired known form t mode default ranks behind e
  rewrite_breaks n i (large_default e h) = breaks_default known form t mode default ranks behind e h
  rewrite_breaks n i (bad_ranks h f) = breaks_ranks known form t mode default ranks behind h f
  rewrite_breaks n i (of_table c) = breaks_table known form t mode default ranks behind n i c
  rewrite_breaks n i (short_work h) = breaks_last known form t mode default ranks behind n i (inl (lt-leb (160 * nodes (width_in (size_of form)) (routes_in (size_of form) t)) words h, refl, refl))
  rewrite_breaks n i (short_output h) =
      breaks_last known form t mode default ranks behind n i (inr (inl (lt-leb (size_of form * length (result_of (size_of form) t mode default ranks)) room h, refl, refl)))

  -- They test the conditions of a rewrite.
  pub rewrite_tests : (n i : ℕ) → Broken (rewrite_rules form t mode default ranks room words) n i ↔ RewriteCondition form t mode default ranks room words n i
  rewrite_tests n i = (rewrite_broken n i, rewrite_breaks n i)

-- ---- The rules of the cover query.
module _ (form : Form) (t : List ℕ) (len words : ℕ) where
  abbrev last : List Rule
  last = rule 9 0 (leb len (width_in (size_of form))) ∷ rule 10 0 (leb (160 * nodes (width_in (size_of form)) (routes_in (size_of form) t)) words) ∷ []

  -- They stand in the order of the checks.
  pub cover_ranked : Ranked 4 10 (cover_rules form t len words)
  unfolding cover_rules rank
  cover_ranked = ranked_append 4 7 10 (form_rules form true t) last (omega arith) (omega arith) (in_table_ranked (size_of form) (form_size form) form.strict true t) (singles 7 10 last refl).1

  cover-broken : (n i : ℕ) → Broken (cover_rules form t len words) n i → CoverCondition form t len words n i
  unfolding cover_rules
  cover-broken =
      sound-append (CoverCondition form t len words) (form_rules form true t) last (λ n i b. of_set ((in_table_tests (size_of form) (form_size form) form.strict true t n i).0 b))
      (sound-each (CoverCondition form t len words) last
      (λ e. long_query (leb-false len (width_in (size_of form)) e), (λ e. short_room (leb-false (160 * nodes (width_in (size_of form)) (routes_in (size_of form) t)) words e), tt)))

  cover_breaks : (n i : ℕ) → CoverCondition form t len words n i → Broken (cover_rules form t len words) n i
  unfolding cover_rules
  cover_breaks n i (of_set c) = broken-left (form_rules form true t) last n i ((in_table_tests (size_of form) (form_size form) form.strict true t n i).1 c)
  cover_breaks n i (long_query h) = broken-right (form_rules form true t) last n i (inl (lt-leb len (width_in (size_of form)) h, refl, refl))
  cover_breaks n i (short_room h) = broken-right (form_rules form true t) last n i (inr (inl (lt-leb (160 * nodes (width_in (size_of form)) (routes_in (size_of form) t)) words h, refl, refl)))

  -- They test the conditions of the cover query.
  pub cover_tests : (n i : ℕ) → Broken (cover_rules form t len words) n i ↔ CoverCondition form t len words n i
  cover_tests n i = (cover-broken n i, cover_breaks n i)
