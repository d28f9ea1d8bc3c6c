-- Demand 1: bad input is refused with the first number of document 01's order whose condition holds, exactly then, and a refusal changes nothing.
-- Assumes nothing.
use mathlib.Core.Path.{◌≡◌, refl, sym, ap, ◌∙◌}
use mathlib.Core.Bool.{Bool, true, false, true≢false}
use mathlib.Core.List.{List, []}
use mathlib.Core.Logic.{◌⊎◌, inl, inr, ◌↔◌}
use Prim.Native.Nat.{ℕ, ◌*◌, ◌%◌, ◌≤◌, ◌<◌}
use native.Mathlib.Decide.{dec_le}
use native.Mathlib.Omega.{arith}
use lib.IntN.{ℤ, pos}
use lib.ListN.{length, replicate}
use Rattle.refusals.specs.declared.Refusal.{Refusal}
use Rattle.std.specs.Prelude.{Result}
use Rattle.theory.specs.Ranks.{Ranking, is_ranking}
use Rattle.theory.specs.Routes.{Route}
use Rattle.theory.proofs.Ranks.{ranking_tested}
use Rattle.refusals.specs.Rules.{Rule, gives, refuses}
use Rattle.refusals.specs.Order.{rank, Earlier, First, None}
use Rattle.refusals.proofs.Judged.{Broken, earlier_not, gives-exactly}
use Rattle.refusals.proofs.Answered.{says_refused}
use Rattle.records.specs.Sized.{IsSize, width_in, routes_from_in, records_in, routes_in}
use Rattle.records.specs.declared.Form.{Form}
use Rattle.records.specs.Forms.{size_of}
use Rattle.records.proofs.SizedReading.{form_size}
use Rattle.table.specs.Conditions.{FormCondition}
use Rattle.table.specs.SizedConditions.{not_whole, too_many, of_record}
use Rattle.table.proofs.SizedAccepted.{in_accepted_exactly}
use Rattle.table.proofs.SizedTested.{in_table_numbers}
use Rattle.nodecount.specs.Nodes.{nodes, brought}
use Rattle.calls.specs.Conditions.{RewriteCondition, no_mode, retired, large_default, bad_ranks, of_table, short_work, short_output, CoverCondition, of_set, long_query, short_room, Answerable, Guarded}
use Rattle.calls.specs.Covering.{cover_rules, covered_by, covers_says, Queried}
use Rattle.calls.specs.Rewriting.{InUse, result_of, takes_set, rewrite_rules, reply_by, rewrite_reply, count_of, change_of, Rewrites, Outcome, records_out, rewritten_says}
use Rattle.calls.proofs.Engines.{by_gives, by_refused, by_accepted, by_untouched}
use Rattle.calls.proofs.Settled.{covers_same}
use Rattle.calls.proofs.Tested.{rewrite_ranked, rewrite_tests, cover_ranked, cover_tests}

-- What can be decided holds if its contrary is impossible.
pub holds : {P : Type 0} → Dec P → ((P → ⊥) → ⊥) → P
holds (yes p) n = p
holds (no p) n = absurd (n p)

-- Whether ranks are lawful can be decided, by the test.
pub lawful : {n : ℕ} {ranks : List ℕ} → ((Ranking n ranks → ⊥) → ⊥) → Ranking n ranks
lawful {n} {ranks} f = go (is_ranking n ranks) refl
  where
    go : (b : Bool) → is_ranking n ranks ≡ b → Ranking n ranks
    go true e = (ranking_tested n ranks).0 e
    go false e = absurd (f (λ r. absurd (true≢false (sym ((ranking_tested n ranks).1 r) ∙ e))))

-- ---- What it is to have none of a rewrite's conditions.
module _ (form : Form) (t : List ℕ) (mode default : ℕ) (ranks : List ℕ) (room words : ℕ) where
  none→answerable : None (RewriteCondition form t mode default ranks room words)
      → Answerable form t mode default ranks room × (160 * nodes (width_in (size_of form)) (routes_in (size_of form) t) ≤ words)
  none→answerable none = (
    record {
      known_mode = (
        holds (dec_le 1 mode) (λ f. none 1 0 (no_mode (λ h. f h.0))),
        holds (dec_le mode 5) (λ f. none 1 0 (no_mode (λ h. f h.1))),
        λ e. none 16 0 (retired e),
      );
      small_default = λ e. holds (dec_le default 63) (λ f. none 2 0 (large_default e (omega arith)));
      lawful_ranks = λ h. lawful (λ f. none 15 0 (bad_ranks h f));
      accepted = (in_accepted_exactly (size_of form) (form_size form) form.strict (takes_set mode) t).1 (λ n i c. none n i (of_table c));
      enough_output = holds (dec_le (size_of form * length (result_of (size_of form) t mode default ranks)) room) (λ f. none 11 0 (short_output (omega arith)));
    },
    holds (dec_le (160 * nodes (width_in (size_of form)) (routes_in (size_of form) t)) words) (λ f. none 10 0 (short_work (omega arith))),
  )

  answerable→none : Answerable form t mode default ranks room × (160 * nodes (width_in (size_of form)) (routes_in (size_of form) t) ≤ words)
      → None (RewriteCondition form t mode default ranks room words)
  answerable→none (a, work) n i (no_mode f) = f (a.known_mode.0, a.known_mode.1)
  answerable→none (a, work) n i (retired e) = a.known_mode.2 e
  answerable→none (a, work) n i (large_default e h) = let d = a.small_default e in omega arith
  answerable→none (a, work) n i (bad_ranks h f) = f (a.lawful_ranks h)
  answerable→none (a, work) n i (of_table c) = (in_accepted_exactly (size_of form) (form_size form) form.strict (takes_set mode) t).0 a.accepted n i c
  answerable→none (a, work) n i (short_work h) = omega arith
  answerable→none (a, work) n i (short_output h) = omega (arith, a.enough_output)

  -- None holds exactly when the rewrite is answerable and the room is enough.
  pub answerable_exactly : None (RewriteCondition form t mode default ranks room words)
      ↔ (Answerable form t mode default ranks room × (160 * nodes (width_in (size_of form)) (routes_in (size_of form) t) ≤ words))
  answerable_exactly = (none→answerable, answerable→none)

  -- So the rules of the engine over nodes are guarded.
  pub rewrite_guarded : Guarded form (rewrite_rules form t mode default ranks room words) t mode default ranks room
  unfolding reply_by
  rewrite_guarded rs e =
      (none→answerable
      ((gives-exactly (rewrite_rules form t mode default ranks room words) (rewrite_tests form t mode default ranks room words) (result_of (size_of form) t mode default ranks)).0 e).0).0

-- ---- A rewrite. Engines has the argument, for any engine.
module _ (form : Form) (t : List ℕ) (mode default : ℕ) (ranks o : List ℕ) (words : ℕ) where
  abbrev rules : List Rule
  rules = rewrite_rules form t mode default ranks (length o) words

  abbrev tests : (n i : ℕ) → Broken (rewrite_rules form t mode default ranks (length o) words) n i ↔ RewriteCondition form t mode default ranks (length o) words n i
  tests = rewrite_tests form t mode default ranks (length o) words

  -- The right reply gives the result exactly when no condition holds.
  pub reply-gives : {rs : List Route} → rewrite_reply form t mode default ranks (length o) words ≡ gives rs
      ↔ (None (RewriteCondition form t mode default ranks (length o) words) × (result_of (size_of form) t mode default ranks ≡ rs))
  reply-gives = by_gives (size_of form) rules tests t mode default ranks

  module _ (r : Outcome) (o' w' : List ℕ) (ok : Rewrites form t mode default ranks o words r o' w') where
    -- It is refused with a number and an index exactly when their condition holds and none before it in document 01's order does.
    pub rewrite_refused : (number index : ℕ) → rewritten_says r ≡ refuses number index ↔ First (RewriteCondition form t mode default ranks (length o) words) number index
    rewrite_refused = by_refused (size_of form) rules tests t mode default ranks o r o' ok.inner (rewrite_ranked form t mode default ranks (length o) words).order

    -- It is answered with records exactly when no condition holds.
    pub rewrite_accepted : ((count : ℕ) × ((change : ℤ) × (r ≡ records_out count change))) ↔ None (RewriteCondition form t mode default ranks (length o) words)
    rewrite_accepted = by_accepted (size_of form) rules tests t mode default ranks o r o' ok.inner

    -- A refusal leaves the output as it was, has count 0 and change 0, and the room is zero.
    pub refusal_changes_nothing : (number index : ℕ) → rewritten_says r ≡ refuses number index
        → (o' ≡ o) × (count_of r ≡ 0) × (change_of r ≡ pos 0) × (w' ≡ replicate words 0)
    refusal_changes_nothing number index e =
        let same = by_untouched (size_of form) rules t mode default ranks o r o' ok.inner number index e in
        (same.0, same.1, same.2, ok.zero)

    -- It gives the numbers 1 to 8, 10, 11, 15 and 16 alone.
    pub rewrite_numbers : (number index : ℕ) → rewritten_says r ≡ refuses number index
        → ((1 ≤ number) × (number ≤ 11) × (number ≡ 9 → ⊥)) ⊎ ((number ≡ 15) ⊎ (number ≡ 16))
    rewrite_numbers number index e = go number index ((rewrite_refused number index).0 e).0
      where
        go : (n i : ℕ) → RewriteCondition form t mode default ranks (length o) words n i → ((1 ≤ n) × (n ≤ 11) × (n ≡ 9 → ⊥)) ⊎ ((n ≡ 15) ⊎ (n ≡ 16))
        go n i (no_mode f) = inl (omega arith, omega arith, λ z. omega arith)
        go n i (large_default p q) = inl (omega arith, omega arith, λ z. omega arith)
        go n i (retired e) = inr (inr refl)
        go n i (bad_ranks h f) = inr (inl refl)
        go n i (of_table c) = let k = in_table_numbers (size_of form) (form_size form) form.strict (takes_set mode) t n i c in inl (omega (arith, k.0), omega (arith, k.1), λ z. omega (arith, k.1))
        go n i (short_work h) = inl (omega arith, omega arith, λ z. omega arith)
        go n i (short_output h) = inl (omega arith, omega arith, λ z. omega arith)

-- ---- The cover query.
module _ (form : Form) (t : List ℕ) (address len words : ℕ) (r : Result Bool Refusal) (w' : List ℕ) (ok : Queried form t address len words r w') where
  -- It is refused with a number and an index exactly when their condition holds and none before it in document 01's order does.
  pub covers_refused : (number index : ℕ) → covers_says r ≡ refuses number index ↔ First (CoverCondition form t len words) number index
  covers_refused =
      says_refused covers_says covers_same (cover_rules form t len words) (cover_tests form t len words) (cover_ranked form t len words).order (covered_by (size_of form) t address len)
      r ok.answer

  -- It is answered exactly when no condition holds.
  pub covers_answered : (b : Bool) → covers_says r ≡ gives b ↔ (None (CoverCondition form t len words) × (covered_by (size_of form) t address len ≡ b))
  covers_answered b =
      let exactly = gives-exactly (cover_rules form t len words) (cover_tests form t len words) (covered_by (size_of form) t address len) in
      (λ e. exactly.0 (sym ok.answer ∙ e), λ f. ok.answer ∙ exactly.1 f)

  -- It gives the numbers 3 to 10 alone.
  pub covers_numbers : (number index : ℕ) → covers_says r ≡ refuses number index → (3 ≤ number) × (number ≤ 10)
  covers_numbers number index e = go number index ((covers_refused number index).0 e).0
    where
      go : (n i : ℕ) → CoverCondition form t len words n i → (3 ≤ n) × (n ≤ 10)
      go n i (of_set c) = let k = in_table_numbers (size_of form) (form_size form) form.strict true t n i c in (omega (arith, k.0), omega (arith, k.1))
      go n i (long_query h) = (omega arith, omega arith)
      go n i (short_room h) = (omega arith, omega arith)

-- ---- The least room.

-- The empty table has no records,
pub no_records : (size : ℕ) → IsSize size → records_in size [] ≡ 0
no_records size (inl e) = rw e
no_records size (inr e) = rw e

-- no routes,
pub empty-routes : (size : ℕ) → IsSize size → routes_in size [] ≡ []
unfolding routes_in routes_from_in
empty-routes size is = ap (routes_from_in size [] 0) (no_records size is)

-- and none of a table's conditions.
pub empty-table : (form : Form) (s : Bool) (n i : ℕ) → FormCondition form s [] n i → ⊥
empty-table form s n i (not_whole f) = f (none_left (size_of form) (form_size form))
  where
    none_left : (size : ℕ) → IsSize size → 0 % size ≡ 0
    none_left size (inl e) = rw e
    none_left size (inr e) = rw e
empty-table form s n i (too_many h) = omega (arith, no_records (size_of form) (form_size form))
empty-table form s n i (of_record h c) = omega (arith, no_records (size_of form) (form_size form))

-- It has one node, the root.
pub empty-nodes : (form : Form) → nodes (width_in (size_of form)) (routes_in (size_of form) []) ≡ 1
unfolding nodes brought
empty-nodes form = ap (nodes (width_in (size_of form))) (empty-routes (size_of form) (form_size form))

module _ (form : Form) (mode default : ℕ) (ranks o : List ℕ) (words : ℕ) (r : Outcome) (o' w' : List ℕ) (ok : Rewrites form [] mode default ranks o words r o' w') where
  -- An empty table in any mode, with a hop for a default and lawful ranks where they are read, is refused by number 10 exactly when the room is below 160 words.
  pub empty-room : InUse mode → (mode ≡ 5 → default ≤ 63) → (4 ≤ mode → Ranking 64 ranks) → rewritten_says r ≡ refuses 10 0 ↔ words < 160
  unfolding rank
  empty-room known small ranked = (λ e. tenth 10 0 ((rewrite_refused form [] mode default ranks o words r o' w' ok 10 0).0 e).0 refl, λ h. (rewrite_refused form [] mode default ranks o words r o' w' ok 10 0).1 (short_work (rw (empty-nodes form) h), earlier))
    where
      tenth : (n i : ℕ) → RewriteCondition form [] mode default ranks (length o) words n i → n ≡ 10 → words < 160
      tenth n i (no_mode f) e = absurd (omega arith)
      tenth n i (retired p) e = absurd (omega arith)
      tenth n i (large_default p q) e = absurd (omega arith)
      tenth n i (bad_ranks h f) e = absurd (omega arith)
      tenth n i (of_table c) e = absurd (empty-table form (takes_set mode) n i c)
      tenth n i (short_work h) e = rw (empty-nodes form) at h
      tenth n i (short_output h) e = absurd (omega arith)

      earlier : (m j : ℕ) → Earlier m j 10 0 → RewriteCondition form [] mode default ranks (length o) words m j → ⊥
      earlier m j l (no_mode f) = f (known.0, known.1)
      earlier m j l (retired e) = known.2 e
      earlier m j l (large_default p q) = let d = small p in omega arith
      earlier m j l (bad_ranks h f) = f (ranked h)
      earlier m j l (of_table c) = empty-table form (takes_set mode) m j c
      earlier m j l (short_work h) = earlier_not 10 0 10 0 l l
      earlier m j l (short_output h) = earlier_not 11 0 10 0 l (inl (omega arith))
