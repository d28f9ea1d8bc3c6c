-- The statements of the functions for C settle the result, all that is set and all that was lent: no second of these satisfies one. Assumes nothing.
use mathlib.Core.Path.{◌≡◌, sym, ap, ◌∙◌}
use mathlib.Core.Bool.{Bool}
use mathlib.Core.List.{List}
use Prim.Native.Nat.{ℕ}
use lib.IntN.{ℤ}
use lib.ListN.{length}
use Rattle.std.specs.Prelude.{Option, Result}
use Rattle.refusals.specs.declared.Refusal.{Refusal}
use Rattle.lookup.specs.declared.answers.Match.{Match}
use Rattle.lookup.specs.Calls.{lookup_says, held_says}
use Rattle.lookup.proofs.Calls.{lookup_unique, held_unique}
use Rattle.workroom.specs.Needed.{words_says}
use Rattle.workroom.proofs.Exactly.{words_unique}
use Rattle.calls.specs.Rewriting.{rewritten_says, count_of, change_of, Outcome}
use Rattle.calls.specs.Covering.{covers_says}
use Rattle.calls.proofs.Settled.{rewrite_settled, covers_settled}
use Rattle.plain.proofs.Calls.{plain_settled}
use Rattle.holes.specs.Listing.{listed_says, listed_count}
use Rattle.holes.proofs.Calls.{unrouted_settled}
use Rattle.special.specs.Calls.{special_says}
use Rattle.special.proofs.Calls.{special_unique}
use Rattle.chip.specs.Loading.{loaded_says}
use Rattle.chip.proofs.Calls.{load_settled}
use Rattle.plans.specs.Judging.{judged_says}
use Rattle.plans.specs.declared.answers.Step.{Step}
use Rattle.plans.proofs.Calls.{check_settled}
use Rattle.planner.specs.Planning.{planned_says}
use Rattle.planner.proofs.Calls.{plan_settled}
use Rattle.suovvamet.specs.Numbers.{form_by, number_of, index_of, covered_of, found_of, hop_of, length_of, addresses_of, is_set_by, words_of, named_of, record_of, slots_used, yes_of, given_of, steps_given}
use Rattle.suovvamet.specs.Calls.{RewriteInC, PlainInC, CoversInC, LookupInC, HeldInC, WordsInC, UnroutedInC, SpecialInC, ChipInC, CheckPlanInC, PlanInC}

-- Parts of two answers that are the same are the same.
same_part : {R N : Type 0} (part : R → N) {a b : R} {m n : N} → a ≡ b → m ≡ part a → n ≡ part b → m ≡ n
same_part part e p q = p ∙ ap part e ∙ sym q

-- Of a rewrite: the number, the count, the change, the index, the output and the room.
pub rewrite_in_c_settled : (t : List ℕ) (flags mode default : ℕ) (ranks o work : List ℕ) {number number₁ count count₁ : ℕ} {change change₁ : ℤ} {index index₁ : ℕ} {o' o₁ w' w₁ : List ℕ}
    → RewriteInC t flags mode default ranks o work number count change index o' w' → RewriteInC t flags mode default ranks o work number₁ count₁ change₁ index₁ o₁ w₁
    → (number ≡ number₁) × (count ≡ count₁) × (change ≡ change₁) × (index ≡ index₁) × (o' ≡ o₁) × (w' ≡ w₁)
rewrite_in_c_settled t flags mode default ranks o work {o' = o'} {o₁ = o₁} {w' = w'} {w₁ = w₁} a b =
    let s = rewrite_settled (form_by flags) t mode default ranks o (length work) a.answer b.answer o' o₁ w' w₁ a.rewrites b.rewrites in (
      same_part (λ (r : Outcome). number_of (rewritten_says r)) s.0 a.number_is b.number_is,
      same_part count_of s.0 a.count_is b.count_is,
      same_part change_of s.0 a.change_is b.change_is,
      same_part (λ (r : Outcome). index_of (rewritten_says r)) s.0 a.index_is b.index_is,
      s.1,
      s.2,
    )

-- By the plain engine: the number, the count, the change, the index and the output.
pub plain_in_c_settled : (t : List ℕ) (flags mode default : ℕ) (ranks o : List ℕ) {number number₁ count count₁ : ℕ} {change change₁ : ℤ} {index index₁ : ℕ} {o' o₁ : List ℕ}
    → PlainInC t flags mode default ranks o number count change index o' → PlainInC t flags mode default ranks o number₁ count₁ change₁ index₁ o₁
    → (number ≡ number₁) × (count ≡ count₁) × (change ≡ change₁) × (index ≡ index₁) × (o' ≡ o₁)
plain_in_c_settled t flags mode default ranks o {o' = o'} {o₁ = o₁} a b =
    let s = plain_settled (form_by flags) t mode default ranks o a.answer b.answer o' o₁ a.rewrites b.rewrites in (
      same_part (λ (r : Outcome). number_of (rewritten_says r)) s.0 a.number_is b.number_is,
      same_part count_of s.0 a.count_is b.count_is,
      same_part change_of s.0 a.change_is b.change_is,
      same_part (λ (r : Outcome). index_of (rewritten_says r)) s.0 a.index_is b.index_is,
      s.1,
    )

-- Of the cover query: the number, what is said of the prefix, the index and the room.
pub covers_in_c_settled : (t : List ℕ) (flags address len : ℕ) (work : List ℕ) {number number₁ covered covered₁ index index₁ : ℕ} {w' w₁ : List ℕ}
    → CoversInC t flags address len work number covered index w' → CoversInC t flags address len work number₁ covered₁ index₁ w₁
    → (number ≡ number₁) × (covered ≡ covered₁) × (index ≡ index₁) × (w' ≡ w₁)
covers_in_c_settled t flags address len work {w' = w'} {w₁ = w₁} a b =
    let s = covers_settled (form_by flags) t address len (length work) a.answer b.answer w' w₁ a.queried b.queried in (
      same_part (λ (r : Result Bool Refusal). number_of (covers_says r)) s.0 a.number_is b.number_is,
      same_part covered_of s.0 a.covered_is b.covered_is,
      same_part (λ (r : Result Bool Refusal). index_of (covers_says r)) s.0 a.index_is b.index_is,
      s.1,
    )

-- Of a lookup: the number, whether there is a route, its hop and length, and the index.
pub lookup_in_c_settled : (t : List ℕ) (flags address : ℕ) {number number₁ found found₁ hop hop₁ len len₁ index index₁ : ℕ}
    → LookupInC t flags address number found hop len index → LookupInC t flags address number₁ found₁ hop₁ len₁ index₁
    → (number ≡ number₁) × (found ≡ found₁) × (hop ≡ hop₁) × (len ≡ len₁) × (index ≡ index₁)
lookup_in_c_settled t flags address a b =
    let e = lookup_unique (form_by flags) t address a.answer b.answer a.looked b.looked in (
      same_part (λ (r : Result (Option Match) Refusal). number_of (lookup_says r)) e a.number_is b.number_is,
      same_part found_of e a.found_is b.found_is,
      same_part hop_of e a.hop_is b.hop_is,
      same_part length_of e a.length_is b.length_is,
      same_part (λ (r : Result (Option Match) Refusal). index_of (lookup_says r)) e a.index_is b.index_is,
    )

-- Of addresses held: the number, how many addresses they are and the index.
pub held_in_c_settled : (t : List ℕ) (flags : ℕ) {number number₁ addresses addresses₁ index index₁ : ℕ}
    → HeldInC t flags number addresses index → HeldInC t flags number₁ addresses₁ index₁
    → (number ≡ number₁) × (addresses ≡ addresses₁) × (index ≡ index₁)
held_in_c_settled t flags a b =
    let e = held_unique (form_by flags) t a.answer b.answer a.held b.held in (
      same_part (λ (r : Result ℕ Refusal). number_of (held_says r)) e a.number_is b.number_is,
      same_part addresses_of e a.addresses_is b.addresses_is,
      same_part (λ (r : Result ℕ Refusal). index_of (held_says r)) e a.index_is b.index_is,
    )

-- Of work words: the number, the words and the index.
pub words_in_c_settled : (t : List ℕ) (flags is_set : ℕ) {number number₁ needed needed₁ index index₁ : ℕ}
    → WordsInC t flags is_set number needed index → WordsInC t flags is_set number₁ needed₁ index₁
    → (number ≡ number₁) × (needed ≡ needed₁) × (index ≡ index₁)
words_in_c_settled t flags is_set a b =
    let e = words_unique (form_by flags) (is_set_by is_set) t a.answer b.answer a.replies b.replies in (
      same_part (λ (r : Result ℕ Refusal). number_of (words_says r)) e a.number_is b.number_is,
      same_part words_of e a.words_is b.words_is,
      same_part (λ (r : Result ℕ Refusal). index_of (words_says r)) e a.index_is b.index_is,
    )

-- Of a list of what has no route: the number, the count, the index and the output.
pub unrouted_in_c_settled : (t : List ℕ) (flags : ℕ) (o : List ℕ) {number number₁ count count₁ index index₁ : ℕ} {o' o₁ : List ℕ}
    → UnroutedInC t flags o number count index o' → UnroutedInC t flags o number₁ count₁ index₁ o₁
    → (number ≡ number₁) × (count ≡ count₁) × (index ≡ index₁) × (o' ≡ o₁)
unrouted_in_c_settled t flags o {o' = o'} {o₁ = o₁} a b =
    let s = unrouted_settled (form_by flags) t o a.answer b.answer o' o₁ a.lists b.lists in (
      same_part (λ (r : Result ℕ Refusal). number_of (listed_says r)) s.0 a.number_is b.number_is,
      same_part listed_count s.0 a.count_is b.count_is,
      same_part (λ (r : Result ℕ Refusal). index_of (listed_says r)) s.0 a.index_is b.index_is,
      s.1,
    )

-- Of special use: the number, whether a record was found, which one, and the index.
pub special_in_c_settled : (t : List ℕ) (flags edition : ℕ) {number number₁ found found₁ place place₁ index index₁ : ℕ}
    → SpecialInC t flags edition number found place index → SpecialInC t flags edition number₁ found₁ place₁ index₁
    → (number ≡ number₁) × (found ≡ found₁) × (place ≡ place₁) × (index ≡ index₁)
special_in_c_settled t flags edition a b =
    let e = special_unique (form_by flags) t edition a.answer b.answer a.replies b.replies in (
      same_part (λ (r : Result (Option ℕ) Refusal). number_of (special_says r)) e a.number_is b.number_is,
      same_part named_of e a.found_is b.found_is,
      same_part record_of e a.place_is b.place_is,
      same_part (λ (r : Result (Option ℕ) Refusal). index_of (special_says r)) e a.index_is b.index_is,
    )

-- Of the chip loader: the number, the slots used, the index and the image.
pub chip_in_c_settled : (t : List ℕ) (flags : ℕ) (m : List ℕ) {number number₁ slots slots₁ index index₁ : ℕ} {m' m₁ : List ℕ}
    → ChipInC t flags m number slots index m' → ChipInC t flags m number₁ slots₁ index₁ m₁
    → (number ≡ number₁) × (slots ≡ slots₁) × (index ≡ index₁) × (m' ≡ m₁)
chip_in_c_settled t flags m {m' = m'} {m₁ = m₁} a b =
    let s = load_settled (form_by flags) t m a.answer b.answer m' m₁ a.loads b.loads in (
      same_part (λ (r : Result ℕ Refusal). number_of (loaded_says r)) s.0 a.number_is b.number_is,
      same_part slots_used s.0 a.slots_is b.slots_is,
      same_part (λ (r : Result ℕ Refusal). index_of (loaded_says r)) s.0 a.index_is b.index_is,
      s.1,
    )

-- Of the checker of a plan: the number, whether it said yes, and the index.
pub check_plan_in_c_settled : (t u : List ℕ) (flags : ℕ) (ss : List Step) {number number₁ yes yes₁ index index₁ : ℕ}
    → CheckPlanInC t u flags ss number yes index → CheckPlanInC t u flags ss number₁ yes₁ index₁
    → (number ≡ number₁) × (yes ≡ yes₁) × (index ≡ index₁)
check_plan_in_c_settled t u flags ss a b =
    let e = check_settled (form_by flags) t u ss a.answer b.answer a.judges b.judges in (
      same_part (λ (r : Result Bool Refusal). number_of (judged_says r)) e a.number_is b.number_is,
      same_part yes_of e a.yes_is b.yes_is,
      same_part (λ (r : Result Bool Refusal). index_of (judged_says r)) e a.index_is b.index_is,
    )

-- Of the planner: the number, whether there is a plan, its steps, the index and the room.
pub plan_in_c_settled : (t u : List ℕ) (flags : ℕ) (room : List Step) {number number₁ given given₁ count count₁ index index₁ : ℕ} {room' room₁ : List Step}
    → PlanInC t u flags room number given count index room' → PlanInC t u flags room number₁ given₁ count₁ index₁ room₁
    → (number ≡ number₁) × (given ≡ given₁) × (count ≡ count₁) × (index ≡ index₁) × (room' ≡ room₁)
plan_in_c_settled t u flags room {room' = room'} {room₁ = room₁} a b =
    let s = plan_settled (form_by flags) t u room a.answer b.answer room' room₁ a.plans b.plans in (
      same_part (λ (r : Result (Option ℕ) Refusal). number_of (planned_says r)) s.0 a.number_is b.number_is,
      same_part given_of s.0 a.given_is b.given_is,
      same_part steps_given s.0 a.count_is b.count_is,
      same_part (λ (r : Result (Option ℕ) Refusal). index_of (planned_says r)) s.0 a.index_is b.index_is,
      s.1,
    )
