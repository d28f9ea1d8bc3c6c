-- What the call's statement settles: no second answer satisfies it, each case of an answer stands for exactly these facts, first match in the image is longest
-- match in the table, and the image gives the table back. The answer of a call is any r, and the image m', of which the call's `ensures` holds.
-- Assumes nothing.
use Prim.{tt}
use Prim.Native.Nat.{ℕ, ◌≤◌}
use mathlib.Core.Path.{◌≡◌, refl, sym, ap, subst, ◌∙◌}
use mathlib.Core.Bool.{false}
use mathlib.Core.List.{List, [], ◌∷◌, ◌++◌}
use mathlib.Core.Logic.{◌⊎◌, inl, inr, ◌↔◌}
use native.Mathlib.Omega.{arith}
use lib.Dec.{eqb}
use lib.ListN.{length}
use borrow.Author.Tests.{eqb-true, eqb-false, eq-eqb, ne_eqb}
use Rattle.refusals.specs.declared.Refusal.{Refusal}
use Rattle.std.specs.Prelude.{Result, Ok, Err}
use Rattle.theory.specs.Routes.{Route, lookup, Valid, All, Member}
use Rattle.theory.specs.Falling.{Sooner, Ordered}
use Rattle.theory.proofs.Falling.{falling-member, falling_ordered, falling_only}
use Rattle.theory.proofs.Lists.{all_map, all_member, member_all}
use Rattle.refusals.specs.Rules.{Rule, rule, refuses, judge}
use Rattle.refusals.specs.Order.{rank, First, None}
use Rattle.refusals.specs.declared.Cause.TheVariants.{ImageLength}
use Rattle.refusals.proofs.Replies.{reply_same}
use Rattle.refusals.proofs.Caused.{AllCaused, caused_append, judge_caused, reply_met}
use Rattle.table.proofs.Caused.{table_caused}
use Rattle.refusals.specs.Numbers.{number_of}
use Rattle.refusals.proofs.Answered.{given_exactly, says_refused}
use Rattle.refusals.proofs.Judged.{Broken, gives_any, refuses_any}
use Rattle.refusals.proofs.Ranked.{broken-left, broken-right, sound-each, sound-append, singles, ranked_append, Ranked}
use Rattle.refusals.proofs.Shown.{shown, decided}
use Rattle.records.specs.Wire.{records, routes, bytes_of, masked_bytes}
use Rattle.records.specs.Sized.{Bytes}
use Rattle.records.specs.declared.Form.{Form}
use Rattle.records.specs.Forms.{strictly}
use Rattle.table.specs.Conditions.{Accepted, Lawful}
use Rattle.table.specs.TableRules.{table_rules}
use Rattle.table.proofs.AtEight.{accepted-exactly, not_refused}
use Rattle.table.proofs.AtEight.{accepted-table, bytes-routes}
use Rattle.table.proofs.AtEight.{table_tests, table_ranked, table-numbers}
use Rattle.chip.specs.Chip.{first_match}
use Rattle.chip.specs.Conditions.{LoadCondition, of_table, wrong_size}
use Rattle.chip.specs.Images.{image_of, slots_of, table_of}
use Rattle.chip.specs.Loading.{load_rules, load_order, loaded_says, image_after, Loads}
use Rattle.chip.proofs.Arranged.{arranged_back}
use Rattle.chip.proofs.FirstMatch.{falling-first, first_unused}
use Rattle.chip.proofs.Replies.{routes-short, order_length}
use Rattle.chip.proofs.Images.{image-length, unused_slots, unused_long, image-slots, image-table}

-- Answers that say the same are the same.
pub loaded_same : (a b : Result ℕ Refusal) → loaded_says a ≡ loaded_says b → a ≡ b
loaded_same = reply_same (λ used. used) (λ m n e. e)

-- ---- The rules test the conditions, and stand in the order of the checks.
module _ (form : Form) (t : List ℕ) (size : ℕ) where
  abbrev Holds : ℕ → ℕ → Type 0
  Holds = LoadCondition form t size

  abbrev last : List Rule
  last = rule 12 0 (eqb size 8192) ∷ []

  pub load_ranked : Ranked 4 12 (load_rules form t size)
  unfolding load_rules rank
  load_ranked =
      ranked_append 4 7 12 (table_rules form false t) last (omega arith) (omega arith) (table_ranked form false t) (singles 7 12 last refl).1

  load_broken : (n i : ℕ) → Broken (load_rules form t size) n i → Holds n i
  unfolding load_rules
  load_broken =
      sound-append Holds (table_rules form false t) last (λ n i b. of_table ((table_tests form false t n i).0 b))
      (sound-each Holds last (λ e. wrong_size (eqb-false size 8192 e), tt))

  load_breaks : (n i : ℕ) → Holds n i → Broken (load_rules form t size) n i
  unfolding load_rules
  load_breaks n i (of_table c) = broken-left (table_rules form false t) last n i ((table_tests form false t n i).1 c)
  load_breaks n i (wrong_size f) = broken-right (table_rules form false t) last n i (inl (ne_eqb size 8192 f, refl, refl))

  pub load_tests : (n i : ℕ) → Broken (load_rules form t size) n i ↔ LoadCondition form t size n i
  load_tests n i = (load_broken n i, load_breaks n i)

  -- None holds exactly for an accepted table and an image of 8,192 bytes.
  pub none_exactly : None (LoadCondition form t size) ↔ (Accepted form false t × (size ≡ 8192))
  none_exactly = (
    λ none. (
      (accepted-exactly form false t).1 (λ n i c. none n i (of_table c)),
      decided (shown (eqb size 8192) (eqb-true size 8192) (eq-eqb size 8192)) (λ f. none 12 0 (wrong_size f)),
    ),
    λ (ok, e) n i c. go ok e n i c,
  )
    where
      go : Accepted form false t → size ≡ 8192 → (n i : ℕ) → Holds n i → ⊥
      go ok e n i (of_table c) = (accepted-exactly form false t).0 ok n i c
      go ok e n i (wrong_size f) = f e

-- ---- No second answer and no second image satisfies the statement, and for every input some do.
pub load_settled : (form : Form) (t m : List ℕ) (r r₁ : Result ℕ Refusal) (m' m₁ : List ℕ) → Loads form t m r m' → Loads form t m r₁ m₁ → (r ≡ r₁) × (m' ≡ m₁)
load_settled form t m r r₁ m' m₁ a b = (loaded_same r r₁ (a.answer ∙ sym b.answer), a.image ∙ sym b.image)

load_caused : (form : Form) (t : List ℕ) (size : ℕ) → AllCaused (load_rules form t size)
unfolding load_rules
load_caused form t size = caused_append _ _ (table_caused 8 form.strict false t) ((ImageLength, refl), tt)

pub load_met : (form : Form) (t m : List ℕ) → (r : Result ℕ Refusal) × ((m' : List ℕ) × Loads form t m r m')
load_met form t m =
    let rules = load_rules form t (length m) in
    let a = reply_met (λ (used : ℕ). used) (λ used. (used, refl)) (judge rules (records t)) (judge_caused rules (records t) (load_caused form t (length m))) in
    (a.0, (image_after m (judge rules (load_order t)), record { answer = a.1; image = refl }))

module _ (form : Form) (t m : List ℕ) (r : Result ℕ Refusal) (m' : List ℕ) (ok : Loads form t m r m') where
  abbrev rules : List Rule
  rules = load_rules form t (length m)

  -- ---- Refusals.

  -- It is refused with a number and an index exactly when they are those of the first condition that holds: of 3 to 8, then 12.
  pub load_refused : (n i : ℕ) → loaded_says r ≡ refuses n i ↔ First (LoadCondition form t (length m)) n i
  load_refused = says_refused loaded_says loaded_same rules (load_tests form t (length m)) (load_ranked form t (length m)).order (records t) r ok.answer

  -- A refusal leaves the image as it was.
  pub refusal_changes_nothing : (n i : ℕ) → loaded_says r ≡ refuses n i → m' ≡ m
  refusal_changes_nothing n i e =
      ok.image ∙ ap (image_after m) (refuses_any rules (records t) (load_order t) n i (sym ok.answer ∙ e))

  -- It gives the numbers 3 to 8 and 12 alone.
  pub load_numbers : (n i : ℕ) → loaded_says r ≡ refuses n i → ((3 ≤ n) × (n ≤ 8)) ⊎ (n ≡ 12)
  load_numbers n i e = go n i ((load_refused n i).0 e).0
    where
      go : (n i : ℕ) → LoadCondition form t (length m) n i → ((3 ≤ n) × (n ≤ 8)) ⊎ (n ≡ 12)
      go n i (of_table c) = inl (table-numbers form false t n i c)
      go n i (wrong_size f) = inr refl

  -- ---- Answers.

  -- It answers with a number exactly for an accepted table of so many records and an image of 8,192 bytes.
  pub load_given : (used : ℕ) → r ≡ Ok used ↔ (Accepted form false t × (length m ≡ 8192) × (records t ≡ used))
  load_given used =
      let exactly =
      given_exactly loaded_says loaded_same rules (load_tests form t (length m)) (load_ranked form t (length m)).order (records t) r ok.answer
      (Ok used) used refl in (
        λ e. let f = exactly.0 e in let k = (none_exactly form t (length m)).0 f.0 in (k.0, k.1, f.1),
        λ f. exactly.1 ((none_exactly form t (length m)).1 (f.0, f.1), f.2),
      )

  module _ (used : ℕ) (answered : r ≡ Ok used) where
    -- The image is that of the table's routes by falling length.
    pub load_image : m' ≡ image_of (load_order t)
    load_image = ok.image ∙ ap (image_after m) (gives_any rules (records t) used (load_order t) (sym ok.answer ∙ ap loaded_says answered))

    accepted : Accepted form false t
    accepted = ((load_given used).0 answered).0

    -- It uses a slot for each record, and they are enough.
    pub load_used : length (load_order t) ≡ used
    unfolding load_order
    load_used = order_length accepted ∙ ((load_given used).0 answered).2

    few : length (load_order t) ≤ 1024
    few = omega (arith, load_used, accepted.few, ((load_given used).0 answered).2)

    -- They hold the table's routes.
    pub load_member : (q : Route) → Member q (load_order t) ↔ Member q (routes t)
    unfolding load_order
    load_member q = (
      λ n. ((falling-member 32 (routes t)).0 n).0,
      λ n. (falling-member 32 (routes t)).1 (n, all_member (routes-short accepted) n),
    )

    module _ (bytes : Bytes t) where
      -- The routes of an accepted table are a table.
      pub lawful : Lawful false (routes t)
      lawful = (accepted-table (records t) (records t) form false t bytes (not_refused form false t (records t) accepted)).0

      -- They stand by falling length, within a length by rising address.
      pub load_ordered : Ordered Sooner (load_order t)
      unfolding load_order
      load_ordered = falling_ordered lawful.table.order 32

      order_valid : All (Valid 32) (load_order t)
      order_valid = member_all (load_order t) (λ q n. all_member lawful.table.valid ((load_member q).0 n))

      -- The slots are the table's routes by falling length, and then unused ones.
      pub load_slots : slots_of m' ≡ load_order t ++ unused_slots (length (load_order t))
      load_slots =
          ap slots_of load_image
          ∙ image-slots (load_order t) order_valid few

      -- Whatever list has the table's routes, longer ones first and within a length by rising address, the image is that list's.
      pub load_only : (s : List Route) → Ordered Sooner s → ((q : Route) → Member q s ↔ Member q (routes t)) → m' ≡ image_of s
      unfolding load_order
      load_only s o same = load_image ∙ ap image_of (sym (falling_only lawful.table.order 32 (routes-short accepted) o same))

      -- First match in the image answers as longest match in the table, at each address, no route included.
      pub load_first_match : (x : ℕ) → first_match 32 (slots_of m') x ≡ lookup 32 (routes t) x
      unfolding load_order
      load_first_match x =
          ap (λ (u : List Route). first_match 32 u x) load_slots
          ∙ first_unused 32 x (load_order t) (all_map (λ q e. omega arith) (unused_long (length (load_order t))))
          ∙ falling-first 32 x lawful.table

      -- The image gives the table back: its routes, which have no host bits;
      pub load_back : table_of m' ≡ routes t
      load_back =
          ap table_of load_image
          ∙ image-table (load_order t) order_valid few
          ∙ arranged_back lawful.table.order load_ordered load_member

      -- as bytes, those of the masked table,
      pub load_masked : bytes_of (table_of m') ≡ masked_bytes t
      load_masked = ap bytes_of load_back

      -- and where the choice is strict its own.
      pub load_bytes : form ≡ strictly → bytes_of (table_of m') ≡ t
      load_bytes e =
          load_masked
          ∙ bytes-routes (records t) (records t) false t bytes (not_refused strictly false t (records t) (subst (λ (f : Form). Accepted f false t) e accepted))

  -- Answered or refused, the image keeps its length.
  pub load_length : length m' ≡ length m
  load_length = go r refl
    where
      go : (q : Result ℕ Refusal) → r ≡ q → length m' ≡ length m
      go (Err x) e = ap length (refusal_changes_nothing (number_of x.cause) x.index (ap loaded_says e))
      go (Ok used) e = ap length (load_image used e) ∙ image-length (load_order t) (few used e) ∙ sym ((load_given used).0 e).1
