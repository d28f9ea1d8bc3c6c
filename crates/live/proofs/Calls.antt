-- What the calls' statements settle: no second answer and no second room satisfies one, each case of an answer stands for exactly these facts, and a refusal
-- leaves the room. The answer of a call is any k, and the room `after`, of which the call's `ensures` holds. Assumes nothing.
use Prim.{tt}
use Prim.Native.Nat.{ℕ, ◌-◌, ◌%◌, ◌^◌}
use mathlib.Core.Path.{◌≡◌, refl, sym, ◌∙◌}
use mathlib.Core.Bool.{Bool, true, false, not, ◌||◌, true≢false}
use mathlib.Core.List.{List, [], ◌∷◌}
use mathlib.Core.Logic.{inl, inr, ◌↔◌}
use native.Mathlib.Omega.{arith}
use lib.Dec.{leb}
use lib.ListN.{length}
use borrow.Author.Tests.{leb-false, lt-leb, eqb-false, ne_eqb}
use Rattle.theory.specs.Routes.{Route, Match, miss, hit, lookup}
use Rattle.words.specs.Prefix.{host_clear}
use Rattle.refusals.specs.Rules.{Rule, rule, Reply, gives, refuses}
use Rattle.refusals.specs.Order.{rank, First, None}
use Rattle.std.specs.Prelude.{Option, None as NoRoute, Some, Result, Ok}
use Rattle.refusals.specs.declared.Refusal.{Refusal}
use Rattle.refusals.proofs.Replies.{reply_same}
use Rattle.refusals.proofs.Answered.{given_exactly, says_refused}
use Rattle.refusals.proofs.Judged.{Broken}
use Rattle.refusals.proofs.Ranked.{sound-each, ahead_in_order}
use Rattle.records.specs.declared.Form.{Form}
use Rattle.nodecount.specs.Nodes.{nodes}
use Rattle.lookup.specs.Calls.{lookup_says}
use Rattle.lookup.specs.declared.answers.Match.{Match as Found}
use Rattle.lookup.proofs.Calls.{lookup_same}
use Rattle.steps.specs.Steps.{present}
use Rattle.liveroom.specs.Rooms.{shown, fit, live, Words}
use Rattle.live.specs.Tables.{masked, putting, prefix_rules, put_rules}
use Rattle.live.specs.Calls.{Done, done_says, Taken, kept_says, left_by, live_rules, Makes, Puts, Takes, look_reply}
use Rattle.live.specs.Conditions.{Holding, MakeCondition, short_room, LookCondition, no_map}
use Rattle.live.specs.Conditions.{TakeCondition, of_room, too_long, host_bits, PutCondition, of_prefix, bad_hop, too_many, too_wide}
use Rattle.live.proofs.Maps.{live_holds, holds_live}

-- Answers that say the same are the same.
pub done_same : (j k : Done) → done_says j ≡ done_says k → j ≡ k
done_same = reply_same (λ done. true) (λ a b e. refl)

pub kept_same : (j k : Taken) → kept_says j ≡ kept_says k → j ≡ k
kept_same = reply_same (λ b. b) (λ a b e. e)

-- ---- No second answer and no second room.

pub make_settled : {room u v : List ℕ} {j k : Done} → Makes room j u → Makes room k v → (j ≡ k) × (u ≡ v)
make_settled p q = (done_same _ _ (p.reply ∙ sym q.reply), p.left ∙ sym q.left)

pub put_settled : {room u v : List ℕ} {form : Form} {a l h : ℕ} {j k : Done} → Puts room form a l h j u → Puts room form a l h k v → (j ≡ k) × (u ≡ v)
put_settled p q = (done_same _ _ (p.reply ∙ sym q.reply), p.left ∙ sym q.left)

pub take_settled : {room u v : List ℕ} {form : Form} {a l : ℕ} {j k : Taken} → Takes room form a l j u → Takes room form a l k v → (j ≡ k) × (u ≡ v)
take_settled p q = (kept_same _ _ (p.reply ∙ sym q.reply), p.left ∙ sym q.left)

pub look_settled : (room : List ℕ) (x : ℕ) (j k : Result (Option Found) Refusal) → lookup_says j ≡ look_reply room x → lookup_says k ≡ look_reply room x → j ≡ k
look_settled room x j k p q = lookup_same j k (p ∙ sym q)

-- ---- A refusal leaves the room as it was.

left_same : {A : Type 0} (x : Reply A) (t : List Route) (room : List ℕ) (n i : ℕ) → x ≡ refuses n i → left_by x t room ≡ room
left_same (gives a) t room n i e = let z : ◌≡◌ {A = ℕ} 0 1 = cc in absurd (omega arith)
left_same (refuses m j) t room n i e = refl

pub make_left : {room after : List ℕ} {k : Done} (n i : ℕ) → Makes room k after → done_says k ≡ refuses n i → after ≡ room
make_left {room} n i p e = p.left ∙ left_same _ _ room n i (sym p.reply ∙ e)

pub put-left : {room after : List ℕ} {form : Form} {a l h : ℕ} {k : Done} (n i : ℕ) → Puts room form a l h k after → done_says k ≡ refuses n i → after ≡ room
put-left {room} n i p e = p.left ∙ left_same _ _ room n i (sym p.reply ∙ e)

pub take_left : {room after : List ℕ} {form : Form} {a l : ℕ} {k : Taken} (n i : ℕ) → Takes room form a l k after → kept_says k ≡ refuses n i → after ≡ room
take_left {room} n i p e = p.left ∙ left_same _ _ room n i (sym p.reply ∙ e)

-- ---- The rules test the conditions, and stand in the order of the checks.
module _ (room : List ℕ) where
  abbrev make_rules : List Rule
  make_rules = rule 10 0 (leb 160 (length room)) ∷ []

  pub make_tests : (n i : ℕ) → Broken make_rules n i ↔ MakeCondition room n i
  make_tests n i = (sound-each (MakeCondition room) make_rules (λ e. short_room (leb-false 160 (length room) e), tt) n i, back n i)
    where
      back : (n i : ℕ) → MakeCondition room n i → Broken make_rules n i
      back n i (short_room h) = inl (lt-leb 160 (length room) h, refl, refl)

  module _ (words : Words room) where
    -- Rule 18: the room passes the test exactly when it holds a live map.
    dead : live room ≡ false → Holding room → ⊥
    dead e h = true≢false (sym (holds_live h.1) ∙ e)

    pub is_dead : (Holding room → ⊥) → live room ≡ false
    is_dead none = go (live room) refl
      where
        go : (b : Bool) → live room ≡ b → b ≡ false
        go true e = absurd (none (shown room, live_holds room words e))
        go false e = refl

    pub look_tests : (n i : ℕ) → Broken (live_rules room []) n i ↔ LookCondition room n i
    look_tests n i = (sound-each (LookCondition room) (live_rules room []) (λ e. no_map (dead e), tt) n i, back n i)
      where
        back : (n i : ℕ) → LookCondition room n i → Broken (live_rules room []) n i
        back n i (no_map h) = inl (is_dead h, refl, refl)

    module _ (form : Form) (a l : ℕ) where
      -- Rule 6: no host bits, where the choice is strict.
      abbrev host_kept : Bool
      host_kept = not form.strict || host_clear 32 a l

      unclean : host_kept ≡ false → (form.strict ≡ true) × (a % 2 ^ (32 - l) ≡ 0 → ⊥)
      unclean e = go form.strict refl e
        where
          go : (b : Bool) → form.strict ≡ b → (not b || host_clear 32 a l) ≡ false → (form.strict ≡ true) × (a % 2 ^ (32 - l) ≡ 0 → ⊥)
          go true s q = (s, eqb-false (a % 2 ^ (32 - l)) 0 q)
          go false s q = absurd (true≢false q)

      is_unclean : form.strict ≡ true → (a % 2 ^ (32 - l) ≡ 0 → ⊥) → host_kept ≡ false
      is_unclean s k = rw (s) (ne_eqb (a % 2 ^ (32 - l)) 0 k)

      abbrev take_rules : List Rule
      take_rules = live_rules room (prefix_rules form a l)

      take-broken : (n i : ℕ) → Broken take_rules n i → TakeCondition room form a l n i
      take-broken =
          sound-each (TakeCondition room form a l) take_rules
          (λ e. of_room (no_map (dead e)), (λ e. too_long (leb-false l 32 e), (λ e. (let u = unclean e in host_bits u.0 u.1), tt)))

      take_breaks : (n i : ℕ) → TakeCondition room form a l n i → Broken take_rules n i
      take_breaks n i (of_room (no_map h)) = inl (is_dead h, refl, refl)
      take_breaks n i (too_long h) = inr (inl (lt-leb l 32 h, refl, refl))
      take_breaks n i (host_bits s h) = inr (inr (inl (is_unclean s h, refl, refl)))

      pub take_tests : (n i : ℕ) → Broken take_rules n i ↔ TakeCondition room form a l n i
      take_tests n i = (take-broken n i, take_breaks n i)

      module _ (h : ℕ) where
        abbrev whole_rules : List Rule
        whole_rules = live_rules room (put_rules (fit room) (shown room) form a l h)

        put-broken : (n i : ℕ) → Broken whole_rules n i → PutCondition room form a l h n i
        put-broken =
            sound-each (PutCondition room form a l h) whole_rules (
              λ e. of_prefix (of_room (no_map (dead e))),
              (
                λ e. of_prefix (too_long (leb-false l 32 e)),
                (
                  λ e. (let u = unclean e in of_prefix (host_bits u.0 u.1)),
                  (
                    λ e. bad_hop (leb-false h 63 e),
                    (
                      λ e. too_many (leb-false (length (putting (shown room) a l h)) 1024 e),
                      (λ e. too_wide (leb-false (nodes 32 (putting (shown room) a l h)) (fit room) e), tt),
                    ),
                  ),
                ),
              ),
            )

        put_breaks : (n i : ℕ) → PutCondition room form a l h n i → Broken whole_rules n i
        put_breaks n i (of_prefix (of_room (no_map k))) = inl (is_dead k, refl, refl)
        put_breaks n i (of_prefix (too_long k)) = inr (inl (lt-leb l 32 k, refl, refl))
        put_breaks n i (of_prefix (host_bits s k)) = inr (inr (inl (is_unclean s k, refl, refl)))
        put_breaks n i (bad_hop k) = inr (inr (inr (inl (lt-leb h 63 k, refl, refl))))
        put_breaks n i (too_many k) = inr (inr (inr (inr (inl (lt-leb (length (putting (shown room) a l h)) 1024 k, refl, refl)))))
        put_breaks n i (too_wide k) = inr (inr (inr (inr (inr (inl (lt-leb (nodes 32 (putting (shown room) a l h)) (fit room) k, refl, refl))))))

        pub put_tests : (n i : ℕ) → Broken whole_rules n i ↔ PutCondition room form a l h n i
        put_tests n i = (put-broken n i, put_breaks n i)

-- ---- Making an empty map.
module _ (room : List ℕ) (k : Done) (after : List ℕ) (ok : Makes room k after) where
  -- It is refused exactly by the first condition that holds: 10.
  pub make_refused : (n i : ℕ) → done_says k ≡ refuses n i ↔ First (MakeCondition room) n i
  unfolding rank
  make_refused n i =
      says_refused done_says done_same (make_rules room) (make_tests room) (ahead_in_order (make_rules room) refl) true k ok.reply n i

  -- It is done exactly when none holds.
  pub make_done : k ≡ Ok tt ↔ None (MakeCondition room)
  unfolding rank
  make_done =
      let e = given_exactly done_says done_same (make_rules room) (make_tests room) (ahead_in_order (make_rules room) refl) true k ok.reply (Ok tt) true refl in
      (λ q. (e.0 q).0, λ f. e.1 (f, refl))

-- ---- Put.
module _ (room : List ℕ) (words : Words room) (form : Form) (a l h : ℕ) (k : Done) (after : List ℕ) (ok : Puts room form a l h k after) where
  -- It is refused with a number exactly when that is the first whose condition holds: of 18, 5, 6, 7, 17, 10.
  pub put_refused : (n i : ℕ) → done_says k ≡ refuses n i ↔ First (PutCondition room form a l h) n i
  unfolding rank
  put_refused n i =
      says_refused done_says done_same (whole_rules room words form a l h) (put_tests room words form a l h)
      (ahead_in_order (whole_rules room words form a l h) refl) true k ok.reply n i

  -- It is done exactly when none holds.
  pub put_done : k ≡ Ok tt ↔ None (PutCondition room form a l h)
  unfolding rank
  put_done =
      let e =
      given_exactly done_says done_same (whole_rules room words form a l h) (put_tests room words form a l h)
      (ahead_in_order (whole_rules room words form a l h) refl) true k ok.reply (Ok tt) true refl in
      (λ q. (e.0 q).0, λ f. e.1 (f, refl))

-- ---- Take.
module _ (room : List ℕ) (words : Words room) (form : Form) (a l : ℕ) (k : Taken) (after : List ℕ) (ok : Takes room form a l k after) where
  -- It is refused with a number exactly when that is the first whose condition holds: of 18, 5, 6.
  pub take_refused : (n i : ℕ) → kept_says k ≡ refuses n i ↔ First (TakeCondition room form a l) n i
  unfolding rank
  take_refused n i =
      says_refused kept_says kept_same (take_rules room words form a l) (take_tests room words form a l)
      (ahead_in_order (take_rules room words form a l) refl) (present (shown room) (masked a l) l) k ok.reply n i

  take_given : (b : Taken) (v : Bool) → kept_says b ≡ gives v → k ≡ b ↔ (None (TakeCondition room form a l) × (present (shown room) (masked a l) l ≡ v))
  unfolding rank
  take_given =
      given_exactly kept_says kept_same (take_rules room words form a l) (take_tests room words form a l)
      (ahead_in_order (take_rules room words form a l) refl) (present (shown room) (masked a l) l) k ok.reply

  -- It is done exactly when none holds and the prefix is present,
  pub take_done : k ≡ Ok true ↔ (None (TakeCondition room form a l) × (present (shown room) (masked a l) l ≡ true))
  take_done = take_given (Ok true) true refl

  -- and the prefix is absent exactly when none holds and it is not.
  pub take_absent : k ≡ Ok false ↔ (None (TakeCondition room form a l) × (present (shown room) (masked a l) l ≡ false))
  take_absent = take_given (Ok false) false refl

-- ---- Lookup.
module _ (room : List ℕ) (words : Words room) (x : ℕ) (k : Result (Option Found) Refusal) (ok : lookup_says k ≡ look_reply room x) where
  -- It is refused exactly when the room holds no live map: 18.
  pub look_refused : (n i : ℕ) → lookup_says k ≡ refuses n i ↔ First (LookCondition room) n i
  unfolding rank
  look_refused n i =
      says_refused lookup_says lookup_same (live_rules room []) (look_tests room words) (ahead_in_order (live_rules room []) refl)
      (lookup 32 (shown room) x) k ok n i

  look_given : (b : Result (Option Found) Refusal) (m : Match) → lookup_says b ≡ gives m → k ≡ b ↔ (None (LookCondition room) × (lookup 32 (shown room) x ≡ m))
  unfolding rank
  look_given =
      given_exactly lookup_says lookup_same (live_rules room []) (look_tests room words) (ahead_in_order (live_rules room []) refl)
      (lookup 32 (shown room) x) k ok

  -- It answers a route exactly for a live map of whose routes that is the longest match,
  pub look_route : (hop len : ℕ) → k ≡ Ok (Some (record { hop = hop; length = len })) ↔ (None (LookCondition room) × (lookup 32 (shown room) x ≡ hit len hop))
  look_route hop len = look_given (Ok (Some (record { hop = hop; length = len }))) (hit len hop) refl

  -- and that there is none exactly for one of whose routes none matches.
  pub look_none : k ≡ Ok NoRoute ↔ (None (LookCondition room) × (lookup 32 (shown room) x ≡ miss))
  look_none = look_given (Ok NoRoute) miss refl
