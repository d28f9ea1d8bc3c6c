-- What the call's statement settles: no second answer satisfies it, and each case of an answer stands for exactly these facts. The answer of a call is any r
-- of which the call's `ensures` holds. Assumes of the table, where it says so, that its elements are bytes.
use mathlib.Core.Path.{◌≡◌, refl, sym, ap, ◌∙◌}
use mathlib.Core.Bool.{false}
use mathlib.Core.List.{List, [], ◌∷◌}
use mathlib.Core.Logic.{◌⊎◌, inl, inr, ◌↔◌}
use Prim.Native.Nat.{ℕ, ◌≤◌}
use native.Mathlib.Omega.{arith}
use Rattle.refusals.specs.Rules.{Rule, rule, gives, refuses}
use Rattle.refusals.specs.Order.{rank, First, None as NoneOf}
use Rattle.std.specs.Prelude.{Option, None, Some, Result, Ok}
use Rattle.refusals.specs.declared.Refusal.{Refusal}
use Rattle.refusals.specs.declared.Cause.TheVariants.{Edition as BadEdition}
use Rattle.refusals.proofs.Replies.{reply_same}
use Rattle.refusals.proofs.Caused.{AllCaused, judge_caused, reply_met}
use Rattle.table.proofs.Caused.{table_caused}
use Rattle.refusals.proofs.Answered.{given_exactly, says_refused}
use Rattle.refusals.proofs.Judged.{Broken}
use Rattle.refusals.proofs.Ranked.{Ranked, ranked_append, singles}
use Rattle.records.specs.Wire.{routes}
use Rattle.records.specs.Sized.{Bytes}
use Rattle.records.specs.declared.Form.{Form}
use Rattle.records.proofs.Reading.{route-valid}
use Rattle.table.specs.Conditions.{Accepted}
use Rattle.table.specs.TableRules.{table_rules}
use Rattle.table.proofs.AtEight.{accepted-exactly}
use Rattle.table.proofs.AtEight.{table_tests, table_ranked, table-numbers}
use Rattle.special.specs.Calls.{special_says, special_rules, special_reply, SpecialCondition, no_edition, of_table, place_of}
use Rattle.special.specs.Editions.{is_edition, Edition, ranges_of}
use Rattle.special.specs.Ranges.{Place, nowhere, at, first_special, IsFirst}
use Rattle.special.proofs.Inside.{first-exactly}
use Rattle.special.proofs.Listed.{list_table, edition_is, edition_kept, edition_failed}

-- Answers that say the same are the same.
place_same : (a b : Option ℕ) → place_of a ≡ place_of b → a ≡ b
place_same None None e = refl
place_same None (Some b) e = let z : ◌≡◌ {A = ℕ} 0 1 = cc in absurd (omega arith)
place_same (Some a) None e = let z : ◌≡◌ {A = ℕ} 0 1 = cc in absurd (omega arith)
place_same (Some a) (Some b) e = let h : a ≡ b = cc in ap Some h

pub special_same : (a b : Result (Option ℕ) Refusal) → special_says a ≡ special_says b → a ≡ b
special_same = reply_same place_of place_same

-- For every place there is one that it is.
place_back : (p : Place) → (o : Option ℕ) × (place_of o ≡ p)
place_back nowhere = (None, refl)
place_back (at i) = (Some i, refl)

module _ (form : Form) (t : List ℕ) (edition : ℕ) where
  -- ---- The rules test the conditions, and stand in the order of the checks.
  abbrev Holds : ℕ → ℕ → Type 0
  Holds = SpecialCondition form t edition

  special_ranked : Ranked 0 7 (special_rules form t edition)
  unfolding special_rules rank
  special_ranked =
      let front : List Rule = rule 14 0 (is_edition edition) ∷ [] in
      ranked_append 0 4 7 front (table_rules form false t) (omega arith) (omega arith) (singles 0 4 front refl).1 (table_ranked form false t)

  special_broken : (n i : ℕ) → Broken (special_rules form t edition) n i → Holds n i
  unfolding special_rules
  special_broken n i (inl (e, p, q)) = rw (← p, ← q) (no_edition (λ is. let z : ◌≡◌ {A = ℕ} 0 1 = cc (edition_kept edition is) in omega arith))
  special_broken n i (inr b) = of_table ((table_tests form false t n i).0 b)

  special_breaks : (n i : ℕ) → Holds n i → Broken (special_rules form t edition) n i
  unfolding special_rules
  special_breaks n i (no_edition f) = inl (edition_failed edition f, refl, refl)
  special_breaks n i (of_table c) = inr ((table_tests form false t n i).1 c)

  pub special_tests : (n i : ℕ) → Broken (special_rules form t edition) n i ↔ SpecialCondition form t edition n i
  special_tests n i = (special_broken n i, special_breaks n i)

  -- None of the conditions holds exactly for an edition and an accepted table.
  none_exactly : NoneOf Holds ↔ (Edition edition × Accepted form false t)
  none_exactly = (
    λ none. (edition_is edition (λ f. none 14 0 (no_edition f)), (accepted-exactly form false t).1 (λ n i c. none n i (of_table c))),
    λ f n i c. go f n i c,
  )
    where
      go : Edition edition × Accepted form false t → (n i : ℕ) → Holds n i → ⊥
      go (is, ok) n i (no_edition f) = f is
      go (is, ok) n i (of_table c) = (accepted-exactly form false t).0 ok n i c

  -- The rules' numbers are those of causes.
  special_caused : AllCaused (special_rules form t edition)
  unfolding special_rules
  special_caused = ((BadEdition, refl), table_caused 8 form.strict false t)

  -- ---- No second answer satisfies the statement, and for every input one does.
  pub special_unique : (a b : Result (Option ℕ) Refusal) → special_says a ≡ special_reply form t edition → special_says b ≡ special_reply form t edition → a ≡ b
  special_unique a b p q = special_same a b (p ∙ sym q)

  pub special_met : (r : Result (Option ℕ) Refusal) × (special_says r ≡ special_reply form t edition)
  special_met =
      reply_met place_of place_back (special_reply form t edition)
      (judge_caused (special_rules form t edition) (first_special 32 (ranges_of edition) (routes t)) special_caused)

  module _ (r : Result (Option ℕ) Refusal) (ok : special_says r ≡ special_reply form t edition) where
    -- ---- Refusals.

    -- It is refused with a number and an index exactly when they are those of the first condition that holds: of 14, then 3 to 8.
    pub special_refused : (n i : ℕ) → special_says r ≡ refuses n i ↔ First (SpecialCondition form t edition) n i
    special_refused =
        says_refused special_says special_same (special_rules form t edition) special_tests special_ranked.order (first_special 32 (ranges_of edition) (routes t))
        r ok

    -- It gives the numbers 14 and 3 to 8 alone.
    pub special_numbers : (n i : ℕ) → special_says r ≡ refuses n i → (n ≡ 14) ⊎ ((3 ≤ n) × (n ≤ 8))
    special_numbers n i e = go n i ((special_refused n i).0 e).0
      where
        go : (n i : ℕ) → Holds n i → (n ≡ 14) ⊎ ((3 ≤ n) × (n ≤ 8))
        go n i (no_edition f) = inl refl
        go n i (of_table c) = inr (table-numbers form false t n i c)

    -- ---- Answers.
    module _ (bytes : Bytes t) where
      answered : (b : Result (Option ℕ) Refusal) (p : Place) → special_says b ≡ gives p
          → r ≡ b ↔ (Edition edition × Accepted form false t × IsFirst (ranges_of edition) t p)
      answered b p e =
          let exactly =
          given_exactly special_says special_same (special_rules form t edition) special_tests special_ranked.order
          (first_special 32 (ranges_of edition) (routes t)) r ok b p e in
          let first : (is : Edition edition) (a : Accepted form false t)
          → (first_special 32 (ranges_of edition) (routes t) ≡ p) ↔ IsFirst (ranges_of edition) t p =
          λ is a. first-exactly (ranges_of edition) t (list_table edition is).valid (λ j h. route-valid t bytes j (a.each j h).length_kept) p in (
            λ q. let f = exactly.0 q in let k = none_exactly.0 f.0 in (k.0, k.1, (first k.0 k.1).0 f.1),
            λ k. exactly.1 (none_exactly.1 (k.0, k.1), (first k.0 k.1).1 k.2),
          )

      -- It names record i exactly for an edition and an accepted table of which that is the first record all of whose addresses lie in one listed range.
      pub special_at : (i : ℕ) → r ≡ Ok (Some i) ↔ (Edition edition × Accepted form false t × IsFirst (ranges_of edition) t (at i))
      special_at i = answered (Ok (Some i)) (at i) refl

      -- It says that there is none exactly for an edition and an accepted table with no such record.
      pub special_nothing : r ≡ Ok None ↔ (Edition edition × Accepted form false t × IsFirst (ranges_of edition) t nowhere)
      special_nothing = answered (Ok None) nowhere refl
