-- What the call's statement settles: no second answer satisfies it, it refuses exactly by the first condition that holds, and never by number 10. The answer is
-- any r, and the output o', of which the call's `ensures` holds. Assumes nothing.
use Prim.{tt}
use Prim.Native.Nat.{ℕ, ◌*◌, ◌≤◌}
use mathlib.Core.Path.{◌≡◌, refl}
use mathlib.Core.Bool.{Bool, true, false}
use mathlib.Core.List.{List, [], ◌∷◌}
use mathlib.Core.Logic.{◌⊎◌, inl, inr, ◌↔◌}
use native.Mathlib.Decide.{dec_le}
use native.Mathlib.Omega.{arith}
use lib.Dec.{leb}
use lib.IntN.{ℤ, pos}
use lib.ListN.{length}
use borrow.Author.Tests.{leb-false, lt-leb}
use Rattle.refusals.specs.declared.Cause.TheVariants.{Mode as NoMode, RetiredMode, Default, Ranks as BadRanks, OutputRoom}
use Rattle.refusals.proofs.Caused.{AllCaused, caused_append}
use Rattle.table.proofs.Caused.{table_caused}
use Rattle.refusals.specs.Rules.{Rule, rule, refuses}
use Rattle.refusals.specs.Order.{rank, First, None}
use Rattle.refusals.proofs.Judged.{Broken}
use Rattle.refusals.proofs.Ranked.{sound-each, singles, Ranked}
use Rattle.records.specs.declared.Form.{Form}
use Rattle.records.specs.Forms.{size_of}
use Rattle.records.proofs.SizedReading.{form_size}
use Rattle.table.proofs.SizedAccepted.{in_accepted_exactly}
use Rattle.table.proofs.SizedTested.{in_table_numbers}
use Rattle.calls.specs.Conditions.{Answerable, Guarded}
use Rattle.calls.specs.Rewriting.{result_of, takes_set, count_of, change_of, RewritesBy, Outcome, records_out, rewritten_says}
use Rattle.calls.proofs.Engines.{by_gives, by_refused, by_accepted, by_untouched}
use Rattle.calls.proofs.Refusals.{holds, lawful}
use Rattle.calls.proofs.Settled.{met_by, rewrite_by_settled}
use Rattle.calls.proofs.Tested.{ranked_with, broken_with, breaks_mode, breaks_retired, breaks_default, breaks_ranks, breaks_table, breaks_last}
use Rattle.plain.specs.Conditions.{IsMode, PlainCondition, no_mode, retired, large_default, bad_ranks, of_table, short_output}
use Rattle.plain.specs.Rewriting.{is_known, plain_rules}
use Rattle.plain.proofs.Whole.{mode_had, mode_not_had, known_had, mode_known}

-- ---- The rules test the conditions, and stand in the order of the checks.

-- The test of rule 1 fails where the engine has not the mode, which is not the retired one.
mode_failed : (mode : ℕ) → (IsMode mode → ⊥) → (mode ≡ 2 → ⊥) → is_known mode ≡ false
mode_failed mode other used = go (is_known mode) refl
  where
    go : (b : Bool) → is_known mode ≡ b → b ≡ false
    go true e = absurd (other (mode_had mode (known_had mode e used)))
    go false e = refl

module _ (form : Form) (t : List ℕ) (mode default : ℕ) (ranks : List ℕ) (room : ℕ) where
  abbrev Holds : ℕ → ℕ → Type 0
  Holds = PlainCondition form t mode default ranks room

  abbrev last : List Rule
  last = rule 11 0 (leb (size_of form * length (result_of (size_of form) t mode default ranks)) room) ∷ []

  pub plain_ranked : Ranked 1 11 (plain_rules form t mode default ranks room)
  unfolding plain_rules rank
  plain_ranked = ranked_with (is_known mode) form t mode default ranks last 11 (omega arith) (singles 7 11 last refl).1

  plain_broken : (n i : ℕ) → Broken (plain_rules form t mode default ranks room) n i → Holds n i
  unfolding plain_rules
  plain_broken =
      broken_with (is_known mode) form t mode default ranks last Holds (λ e. let f = mode_not_had mode e in no_mode f.0 f.1) retired large_default bad_ranks (λ n i c. of_table c)
      (sound-each Holds last (λ e. short_output (leb-false (size_of form * length (result_of (size_of form) t mode default ranks)) room e), tt))

  plain_breaks : (n i : ℕ) → Holds n i → Broken (plain_rules form t mode default ranks room) n i
  unfolding plain_rules
  plain_breaks n i (no_mode f g) = breaks_mode (is_known mode) form t mode default ranks last (mode_failed mode f g)
  plain_breaks n i (retired e) = breaks_retired (is_known mode) form t mode default ranks last e
  plain_breaks n i (large_default e h) = breaks_default (is_known mode) form t mode default ranks last e h
  plain_breaks n i (bad_ranks h f) = breaks_ranks (is_known mode) form t mode default ranks last h f
  plain_breaks n i (of_table c) = breaks_table (is_known mode) form t mode default ranks last n i c
  plain_breaks n i (short_output h) =
      breaks_last (is_known mode) form t mode default ranks last n i (inl (lt-leb (size_of form * length (result_of (size_of form) t mode default ranks)) room h, refl, refl))

  pub plain_tests : (n i : ℕ) → Broken (plain_rules form t mode default ranks room) n i ↔ PlainCondition form t mode default ranks room n i
  plain_tests n i = (plain_broken n i, plain_breaks n i)

  -- ---- None holds exactly for a mode that it has, a hop for a default, lawful ranks, an accepted table and an output that is long enough.
  is_mode : None (PlainCondition form t mode default ranks room) → IsMode mode
  is_mode none = go (is_known mode) refl
    where
      go : (b : Bool) → is_known mode ≡ b → IsMode mode
      go true e = mode_had mode (known_had mode e (λ two. none 16 0 (retired two)))
      go false e = let f = mode_not_had mode e in absurd (none 1 0 (no_mode f.0 f.1))

  none→answerable : None (PlainCondition form t mode default ranks room) → IsMode mode × Answerable form t mode default ranks room
  none→answerable none =
      let had : IsMode mode = is_mode none in (
        had,
        record {
          known_mode = mode_known had;
          small_default = λ e. holds (dec_le default 63) (λ f. none 2 0 (large_default e (omega arith)));
          lawful_ranks = λ h. lawful (λ f. none 15 0 (bad_ranks h f));
          accepted = (in_accepted_exactly (size_of form) (form_size form) form.strict (takes_set mode) t).1 (λ n i c. none n i (of_table c));
          enough_output = holds (dec_le (size_of form * length (result_of (size_of form) t mode default ranks)) room) (λ f. none 11 0 (short_output (omega arith)));
        },
      )

  answerable→none : IsMode mode × Answerable form t mode default ranks room → None (PlainCondition form t mode default ranks room)
  answerable→none (had, a) n i (no_mode f g) = f had
  answerable→none (had, a) n i (retired e) = a.known_mode.2 e
  answerable→none (had, a) n i (large_default e h) = let d = a.small_default e in omega arith
  answerable→none (had, a) n i (bad_ranks h f) = f (a.lawful_ranks h)
  answerable→none (had, a) n i (of_table c) = (in_accepted_exactly (size_of form) (form_size form) form.strict (takes_set mode) t).0 a.accepted n i c
  answerable→none (had, a) n i (short_output h) = omega (arith, a.enough_output)

  pub plain_answerable : None (PlainCondition form t mode default ranks room) ↔ (IsMode mode × Answerable form t mode default ranks room)
  plain_answerable = (none→answerable, answerable→none)

  -- So its rules are guarded: what calls proves of any engine holds of this one.
  pub plain_guarded : Guarded form (plain_rules form t mode default ranks room) t mode default ranks room
  plain_guarded rs e = (none→answerable ((by_gives (size_of form) (plain_rules form t mode default ranks room) plain_tests t mode default ranks).0 e).0).1

-- The numbers of its rules are those of causes.
plain_caused : (form : Form) (t : List ℕ) (mode default : ℕ) (ranks : List ℕ) (room : ℕ) → AllCaused (plain_rules form t mode default ranks room)
unfolding plain_rules
plain_caused form t mode default ranks room = (
  (NoMode, refl),
  (
    (RetiredMode, refl),
    (
      (Default, refl),
      (
        (BadRanks, refl),
        caused_append _ _ (table_caused (size_of form) form.strict (takes_set mode) t) ((OutputRoom, refl), tt),
      ),
    ),
  ),
)

-- ---- No second answer and no second output satisfies the statement, and for every input some do.
module _ (form : Form) (t : List ℕ) (mode default : ℕ) (ranks o : List ℕ) where
  abbrev rules : List Rule
  rules = plain_rules form t mode default ranks (length o)

  pub plain_settled : (r r₁ : Outcome) (o' o₁ : List ℕ) → RewritesBy (size_of form) (plain_rules form t mode default ranks (length o)) t mode default ranks o r o'
      → RewritesBy (size_of form) (plain_rules form t mode default ranks (length o)) t mode default ranks o r₁ o₁ → (r ≡ r₁) × (o' ≡ o₁)
  plain_settled = rewrite_by_settled (size_of form) rules t mode default ranks o

  pub plain_met : (r : Outcome) × ((o' : List ℕ) × RewritesBy (size_of form) (plain_rules form t mode default ranks (length o)) t mode default ranks o r o')
  plain_met = met_by (size_of form) rules (plain_caused form t mode default ranks (length o)) t mode default ranks o

  module _ (r : Outcome) (o' : List ℕ) (ok : RewritesBy (size_of form) (plain_rules form t mode default ranks (length o)) t mode default ranks o r o') where
    -- ---- Refusals.

    -- It is refused with a number and an index exactly when they are those of the first condition that holds.
    pub plain_refused : (number index : ℕ) → rewritten_says r ≡ refuses number index ↔ First (PlainCondition form t mode default ranks (length o)) number index
    plain_refused =
        by_refused (size_of form) rules (plain_tests form t mode default ranks (length o)) t mode default ranks o r o' ok (plain_ranked form t mode default ranks (length o)).order

    -- It is answered with records exactly when no condition holds.
    pub plain_accepted : ((count : ℕ) × ((change : ℤ) × (r ≡ records_out count change))) ↔ None (PlainCondition form t mode default ranks (length o))
    plain_accepted = by_accepted (size_of form) rules (plain_tests form t mode default ranks (length o)) t mode default ranks o r o' ok

    -- A refusal leaves the output as it was, and has count 0 and change 0.
    pub plain_untouched : (number index : ℕ) → rewritten_says r ≡ refuses number index → (o' ≡ o) × (count_of r ≡ 0) × (change_of r ≡ pos 0)
    plain_untouched = by_untouched (size_of form) rules t mode default ranks o r o' ok

    -- It gives the numbers 1 to 8, 11, 15 and 16 alone.
    pub plain_numbers : (number index : ℕ) → rewritten_says r ≡ refuses number index → ((1 ≤ number) × (number ≤ 8)) ⊎ ((number ≡ 11) ⊎ ((number ≡ 15) ⊎ (number ≡ 16)))
    plain_numbers number index e = go number index ((plain_refused number index).0 e).0
      where
        go : (n i : ℕ) → PlainCondition form t mode default ranks (length o) n i → ((1 ≤ n) × (n ≤ 8)) ⊎ ((n ≡ 11) ⊎ ((n ≡ 15) ⊎ (n ≡ 16)))
        go n i (no_mode f g) = inl (omega arith)
        go n i (retired e) = inr (inr (inr refl))
        go n i (large_default p q) = inl (omega arith)
        go n i (of_table c) = let k = in_table_numbers (size_of form) (form_size form) form.strict (takes_set mode) t n i c in inl (omega (arith, k.0), omega (arith, k.1))
        go n i (short_output h) = inr (inl refl)
        go n i (bad_ranks h f) = inr (inr (inl refl))

    -- Never 10.
    pub plain_never_ten : (index : ℕ) → rewritten_says r ≡ refuses 10 index → ⊥
    plain_never_ten index e = go 10 refl (plain_numbers 10 index e)
      where
        go : (n : ℕ) → n ≡ 10 → ((1 ≤ n) × (n ≤ 8)) ⊎ ((n ≡ 11) ⊎ ((n ≡ 15) ⊎ (n ≡ 16))) → ⊥
        go n ten (inl h) = omega arith
        go n ten (inr (inl h)) = omega arith
        go n ten (inr (inr (inl h))) = omega arith
        go n ten (inr (inr (inr h))) = omega arith
