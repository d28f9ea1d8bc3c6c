-- The functions for C on a live map: their statements settle the result, all that is set and every word of the room; the result is 0 exactly when no
-- condition for a refusal holds, and else the number of the first that does. The words of a room are below 2 ^ 32, as those of every `&[u32]` are.
use Prim.Native.Nat.{ℕ, ◌≤◌}
use mathlib.Core.Path.{◌≡◌, refl, sym, ap, ◌∙◌}
use mathlib.Core.Bool.{true}
use mathlib.Core.List.{List, [], ◌∷◌}
use mathlib.Core.Logic.{◌↔◌}
use native.Mathlib.Omega.{arith}
use lib.Dec.{leb}
use lib.ListN.{length}
use Rattle.std.specs.Prelude.{Option, Result}
use Rattle.refusals.specs.declared.Refusal.{Refusal}
use Rattle.refusals.specs.Rules.{Rule, rule, Reply, gives, refuses, judge}
use Rattle.refusals.specs.Order.{First, None, rank}
use Rattle.refusals.proofs.Judged.{Broken, InOrder, gives-exactly, refuses-exactly}
use Rattle.refusals.proofs.Ranked.{ahead_in_order}
use Rattle.records.specs.declared.Form.{Form}
use Rattle.lookup.specs.Calls.{lookup_says}
use Rattle.lookup.specs.declared.answers.Match.{Match}
use Rattle.liveroom.specs.Rooms.{shown, fit, Words}
use Rattle.live.specs.Tables.{prefix_rules, put_rules}
use Rattle.live.specs.Calls.{Done, Taken, done_says, kept_says, live_rules}
use Rattle.live.specs.Conditions.{MakeCondition, short_room, LookCondition, no_map, TakeCondition, of_room, too_long, host_bits, PutCondition, of_prefix, bad_hop, too_many, too_wide}
use Rattle.live.proofs.Calls.{make_settled, put_settled, take_settled, look_settled, make_tests, look_tests, take_tests, put_tests}
use Rattle.suovvamet.specs.Numbers.{form_by, number_of, found_of, hop_of, length_of}
use Rattle.suovvamet.specs.LiveCalls.{present_of, MakeInC, PutInC, TakeInC, LiveLookupInC}

-- ---- No second result.

same_part : {R N : Type 0} (part : R → N) {a b : R} {m n : N} → a ≡ b → m ≡ part a → n ≡ part b → m ≡ n
same_part part e p q = p ∙ ap part e ∙ sym q

pub make_in_c_settled : {room u v : List ℕ} {number number₁ : ℕ} → MakeInC room number u → MakeInC room number₁ v → (number ≡ number₁) × (u ≡ v)
make_in_c_settled a b =
    let s = make_settled a.makes b.makes in
    (same_part (λ (r : Done). number_of (done_says r)) s.0 a.number_is b.number_is, s.1)

pub put_in_c_settled : {room u v : List ℕ} {flags x l h number number₁ : ℕ}
    → PutInC room flags x l h number u → PutInC room flags x l h number₁ v → (number ≡ number₁) × (u ≡ v)
put_in_c_settled a b =
    let s = put_settled a.puts b.puts in
    (same_part (λ (r : Done). number_of (done_says r)) s.0 a.number_is b.number_is, s.1)

pub take_in_c_settled : {room u v : List ℕ} {flags x l number number₁ present present₁ : ℕ}
    → TakeInC room flags x l number present u → TakeInC room flags x l number₁ present₁ v → (number ≡ number₁) × (present ≡ present₁) × (u ≡ v)
take_in_c_settled a b =
    let s = take_settled a.takes b.takes in (
      same_part (λ (r : Taken). number_of (kept_says r)) s.0 a.number_is b.number_is,
      same_part present_of s.0 a.present_is b.present_is,
      s.1,
    )

pub live-lookup_in_c_settled : {room : List ℕ} {x number number₁ found found₁ hop hop₁ len len₁ : ℕ}
    → LiveLookupInC room x number found hop len → LiveLookupInC room x number₁ found₁ hop₁ len₁
    → (number ≡ number₁) × (found ≡ found₁) × (hop ≡ hop₁) × (len ≡ len₁)
live-lookup_in_c_settled {room} {x} a b =
    let e = look_settled room x a.answer b.answer a.looked b.looked in (
      same_part (λ (r : Result (Option Match) Refusal). number_of (lookup_says r)) e a.number_is b.number_is,
      same_part found_of e a.found_is b.found_is,
      same_part hop_of e a.hop_is b.hop_is,
      same_part length_of e a.length_is b.length_is,
    )

-- ---- Every condition has a number above 0, and names index 0.

make_numbered : {room : List ℕ} {n i : ℕ} → MakeCondition room n i → (1 ≤ n) × (i ≡ 0)
make_numbered (short_room h) = (omega arith, refl)

look_numbered : {room : List ℕ} {n i : ℕ} → LookCondition room n i → (1 ≤ n) × (i ≡ 0)
look_numbered (no_map h) = (omega arith, refl)

take_numbered : {room : List ℕ} {form : Form} {a l n i : ℕ} → TakeCondition room form a l n i → (1 ≤ n) × (i ≡ 0)
take_numbered (of_room c) = look_numbered c
take_numbered (too_long h) = (omega arith, refl)
take_numbered (host_bits s h) = (omega arith, refl)

put_numbered : {room : List ℕ} {form : Form} {a l h n i : ℕ} → PutCondition room form a l h n i → (1 ≤ n) × (i ≡ 0)
put_numbered (of_prefix c) = take_numbered c
put_numbered (bad_hop k) = (omega arith, refl)
put_numbered (too_many k) = (omega arith, refl)
put_numbered (too_wide k) = (omega arith, refl)

-- ---- Any reply that is judged by rules which test such conditions.
module _ {A : Type 0} (rs : List Rule) {Holds : ℕ → ℕ → Type 0} (tests : (n i : ℕ) → Broken rs n i ↔ Holds n i) (order : InOrder rs)
    (named : (n i : ℕ) → Holds n i → (1 ≤ n) × (i ≡ 0)) (v : A) (q : Reply A) (judged : q ≡ judge rs v) {number : ℕ} (number_is : number ≡ number_of q) where
  first_is : (n i : ℕ) → q ≡ refuses n i → First Holds n i
  first_is n i e = (refuses-exactly rs tests v order n i).0 (sym judged ∙ e)

  to_none : (p : Reply A) → q ≡ p → number_of p ≡ 0 → None Holds
  to_none (gives a) e z = ((gives-exactly rs tests v {b = a}).0 (sym judged ∙ e)).0
  to_none (refuses n i) e z = let f = named n i (first_is n i e).0 in absurd (omega arith)

  -- The number is 0 exactly when no condition holds,
  answered : number ≡ 0 ↔ None Holds
  answered = (
    λ z. to_none q refl (sym number_is ∙ z),
    λ none. number_is ∙ ap number_of (judged ∙ (gives-exactly rs tests v {b = v}).1 (none, refl)),
  )

  to_first : (p : Reply A) → q ≡ p → (n : ℕ) → 1 ≤ n → number_of p ≡ n → First Holds n 0
  to_first (gives a) e n le d = absurd (omega arith)
  to_first (refuses m j) e n le d = let f = first_is m j e in rw (d, (named m j f.0).1) at f

  -- and is n, not 0, exactly when that is the first that does.
  numbered : (n : ℕ) → ((1 ≤ n) × (number ≡ n)) ↔ First Holds n 0
  numbered n = (
    λ f. to_first q refl n f.0 (sym number_is ∙ f.1),
    λ f. ((named n 0 f.0).0, number_is ∙ ap number_of (judged ∙ (refuses-exactly rs tests v order n 0).1 f)),
  )

-- ---- Making an empty map.
module _ {room after : List ℕ} {number : ℕ} (ok : MakeInC room number after) where
  abbrev of_make : List Rule
  of_make = rule 10 0 (leb 160 (length room)) ∷ []

  pub make_in_c_answered : number ≡ 0 ↔ None (MakeCondition room)
  unfolding rank
  make_in_c_answered =
      answered of_make (make_tests room) (ahead_in_order of_make refl) (λ n i c. make_numbered c) true _ ok.makes.reply ok.number_is

  pub make_in_c_refused : (n : ℕ) → ((1 ≤ n) × (number ≡ n)) ↔ First (MakeCondition room) n 0
  unfolding rank
  make_in_c_refused =
      numbered of_make (make_tests room) (ahead_in_order of_make refl) (λ n i c. make_numbered c) true _ ok.makes.reply ok.number_is

-- ---- A put.
module _ {room after : List ℕ} (words : Words room) {flags a l h number : ℕ} (ok : PutInC room flags a l h number after) where
  abbrev of_put : List Rule
  of_put = live_rules room (put_rules (fit room) (shown room) (form_by flags) a l h)

  pub put_in_c_answered : number ≡ 0 ↔ None (PutCondition room (form_by flags) a l h)
  unfolding rank
  put_in_c_answered =
      answered of_put (put_tests room words (form_by flags) a l h) (ahead_in_order of_put refl) (λ n i c. put_numbered c) true _ ok.puts.reply ok.number_is

  pub put_in_c_refused : (n : ℕ) → ((1 ≤ n) × (number ≡ n)) ↔ First (PutCondition room (form_by flags) a l h) n 0
  unfolding rank
  put_in_c_refused =
      numbered of_put (put_tests room words (form_by flags) a l h) (ahead_in_order of_put refl) (λ n i c. put_numbered c) true _ ok.puts.reply ok.number_is

-- ---- A take.
module _ {room after : List ℕ} (words : Words room) {flags a l number present : ℕ} (ok : TakeInC room flags a l number present after) where
  abbrev of_take : List Rule
  of_take = live_rules room (prefix_rules (form_by flags) a l)

  pub take_in_c_answered : number ≡ 0 ↔ None (TakeCondition room (form_by flags) a l)
  unfolding rank
  take_in_c_answered =
      answered of_take (take_tests room words (form_by flags) a l) (ahead_in_order of_take refl) (λ n i c. take_numbered c) _ _ ok.takes.reply ok.number_is

  pub take_in_c_refused : (n : ℕ) → ((1 ≤ n) × (number ≡ n)) ↔ First (TakeCondition room (form_by flags) a l) n 0
  unfolding rank
  take_in_c_refused =
      numbered of_take (take_tests room words (form_by flags) a l) (ahead_in_order of_take refl) (λ n i c. take_numbered c) _ _ ok.takes.reply ok.number_is

-- ---- A lookup.
module _ {room : List ℕ} (words : Words room) {x number found hop len : ℕ} (ok : LiveLookupInC room x number found hop len) where
  pub live-lookup_in_c_answered : number ≡ 0 ↔ None (LookCondition room)
  unfolding rank
  live-lookup_in_c_answered =
      answered (live_rules room []) (look_tests room words) (ahead_in_order (live_rules room []) refl) (λ n i c. look_numbered c) _ _ ok.looked ok.number_is

  pub live-lookup_in_c_refused : (n : ℕ) → ((1 ≤ n) × (number ≡ n)) ↔ First (LookCondition room) n 0
  unfolding rank
  live-lookup_in_c_refused =
      numbered (live_rules room []) (look_tests room words) (ahead_in_order (live_rules room []) refl) (λ n i c. look_numbered c) _ _ ok.looked ok.number_is
