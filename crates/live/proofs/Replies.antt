-- The calls' statements, case by case of what the code has found. Assumes nothing.
use Prim.Native.Nat.{ℕ, ◌-◌, ◌/◌, ◌^◌, ◌≤◌, ◌<◌}
use mathlib.Core.Path.{◌≡◌, refl, sym, ap, ◌∙◌}
use mathlib.Core.Bool.{Bool, true, false, not, ◌||◌}
use mathlib.Core.List.{List, [], ◌∷◌, ◌++◌}
use native.Mathlib.Nat.{mul-mod_left}
use native.Mathlib.Omega.{arith}
use lib.Dec.{leb}
use lib.ListN.{length, set}
use borrow.Author.Tests.{le-leb, lt-leb, leb-true, eq-eqb}
use Rattle.theory.specs.Routes.{Match, lookup}
use Rattle.words.specs.Prefix.{host_clear}
use Rattle.refusals.specs.Rules.{Rule, rule, Reply, gives, refuses, judge}
use Rattle.std.specs.Prelude.{Ok, Err}
use Rattle.refusals.specs.Numbers.{number_of}
use Rattle.refusals.specs.declared.Cause.TheVariants.{WorkRoom, NoMap, Tail}
use Rattle.refusals.specs.declared.Refusal.{Refusal}
use Rattle.refusals.proofs.Judged.{kept_next, broken-here, all_next, some-here}
use Rattle.records.specs.Sized.{route}
use Rattle.records.specs.declared.Form.{Form}
use Rattle.steps.specs.Steps.{present}
use Rattle.liveroom.specs.Rooms.{mark, words_of, pairs, shown, sound, stored, live, fit}
use Rattle.liveroom.proofs.Sound.{true_and}
use Rattle.live.specs.Tables.{masked, putting, taking, prefix_rules, room_rules}
use Rattle.live.specs.Calls.{Done, done_says, Taken, kept_says, left_by, make_reply, Makes, put_reply, Puts, take_reply, Takes, look_reply}
use Rattle.live.specs.Inner.{PutsKept, TakesKept}

-- ---- An empty map.

pub makes-short : (room : List ℕ) → length room < 160 → Makes room (Err (record { cause = WorkRoom; index = 0 })) room
makes-short room lt =
    let e : refuses 10 0 ≡ make_reply room = sym (broken-here true 10 0 [] (lt-leb 160 (length room) lt)) in
    record { reply = e; left = ap (λ (x : Reply Bool). left_by x [] room) e }

emptied : (room : List ℕ) → 2 ≤ length room → set (set room 0 mark) 1 0 ≡ stored [] room
unfolding stored words_of pairs
emptied [] le = absurd (omega arith)
emptied (x ∷ []) le = absurd (omega arith)
emptied (x ∷ y ∷ room) le = refl

pub makes_done : (room : List ℕ) → 160 ≤ length room → Makes room (Ok tt) (set (set room 0 mark) 1 0)
unfolding judge
makes_done room le =
    let e : gives true ≡ make_reply room = sym (kept_next true 10 0 [] (le-leb 160 (length room) le)) in
    record { reply = e; left = emptied room (omega arith) ∙ ap (λ (x : Reply Bool). left_by x [] room) e }

-- A prefix that keeps its rules is no longer than an address.
pub prefix-short : (form : Form) (a l : ℕ) → gives true ≡ judge (prefix_rules form a l) true → l ≤ 32
unfolding judge
prefix-short form a l kept = leb-true l 32 (go (leb l 32) kept)
  where
    go : (p : Bool) → gives true ≡ judge (rule 5 0 p ∷ rule 6 0 (not form.strict || host_clear 32 a l) ∷ []) true → p ≡ true
    go true e = refl
    go false e = let z : ◌≡◌ {A = ℕ} 0 1 = cc in absurd (omega arith)

-- A route of a masked address has no host bits.
pub masked-sound : (a l h : ℕ) → l ≤ 32 → h ≤ 63 → sound (route (masked a l) l h) ≡ true
masked-sound a l h le small =
    true_and (le-leb l 32 le) (true_and (eq-eqb _ 0 (mul-mod_left (a / 2 ^ (32 - l)) (2 ^ (32 - l)))) (le-leb h 63 small))

-- ---- Put.
module _ (room : List ℕ) (form : Form) (a l h : ℕ) where
  puts : (k : Done) (after : List ℕ) → done_says k ≡ put_reply room form a l h → after ≡ left_by (done_says k) (putting (shown room) a l h) room
      → Puts room form a l h k after
  puts k after e q = record { reply = e; left = q ∙ ap (λ (x : Reply Bool). left_by x (putting (shown room) a l h) room) e }

  pub puts_dead : live room ≡ false → Puts room form a l h (Err (record { cause = NoMap; index = 0 })) room
  puts_dead e = puts (Err (record { cause = NoMap; index = 0 })) room (sym (broken-here true 18 0 _ e)) refl

  module _ (alive : live room ≡ true) where
    -- The rules behind those of the prefix.
    abbrev ends : List Rule
    ends = rule 7 0 (leb h 63) ∷ room_rules (fit room) (putting (shown room) a l h)

    past-live : put_reply room form a l h ≡ judge (prefix_rules form a l ++ ends) true
    past-live = kept_next true 18 0 (prefix_rules form a l ++ ends) alive

    pub puts_faulty : (r : Refusal) → refuses (number_of r.cause) r.index ≡ judge (prefix_rules form a l) true → Puts room form a l h (Err r) room
    puts_faulty r e =
        puts (Err r) room (sym (past-live ∙ some-here true true (number_of r.cause) r.index (prefix_rules form a l) ends (sym e))) refl

    module _ (kept : gives true ≡ judge (prefix_rules form a l) true) where
      past-prefix : put_reply room form a l h ≡ judge ends true
      past-prefix = past-live ∙ all_next true true {c = true} (prefix_rules form a l) ends (sym kept)

      pub puts-hop : 63 < h → Puts room form a l h (Err (record { cause = Tail; index = 0 })) room
      puts-hop lt = puts (Err (record { cause = Tail; index = 0 })) room (sym (past-prefix ∙ broken-here true 7 0 _ (lt-leb h 63 lt))) refl

      pub puts-past : h ≤ 63 → (k : Done) (after : List ℕ) → PutsKept room (route (masked a l) l h) k after → Puts room form a l h k after
      puts-past le k after p =
          puts k after (p.reply ∙ sym (past-prefix ∙ kept_next true 7 0 (room_rules (fit room) (putting (shown room) a l h)) (le-leb h 63 le))) p.left

-- ---- Take.
module _ (room : List ℕ) (form : Form) (a l : ℕ) where
  there : Bool
  there = present (shown room) (masked a l) l

  takes : (k : Taken) (after : List ℕ) → kept_says k ≡ take_reply room form a l → after ≡ left_by (kept_says k) (taking (shown room) a l) room
      → Takes room form a l k after
  takes k after e q = record { reply = e; left = q ∙ ap (λ (x : Reply Bool). left_by x (taking (shown room) a l) room) e }

  pub takes_dead : live room ≡ false → Takes room form a l (Err (record { cause = NoMap; index = 0 })) room
  takes_dead e = takes (Err (record { cause = NoMap; index = 0 })) room (sym (broken-here (present (shown room) (masked a l) l) 18 0 _ e)) refl

  module _ (alive : live room ≡ true) where
    pub takes_faulty : (r : Refusal) → refuses (number_of r.cause) r.index ≡ judge (prefix_rules form a l) true → Takes room form a l (Err r) room
    takes_faulty r e =
        takes (Err r) room
        (sym (kept_next (present (shown room) (masked a l) l) 18 0 (prefix_rules form a l) alive
        ∙ some-here (present (shown room) (masked a l) l) true (number_of r.cause) r.index (prefix_rules form a l) [] (sym e))) refl

    pub takes-past : gives true ≡ judge (prefix_rules form a l) true → (b : Bool) (after : List ℕ) → TakesKept room (masked a l) l b after
        → Takes room form a l (Ok b) after
    unfolding judge
    takes-past kept b after p =
        let past : take_reply room form a l ≡ gives (present (shown room) (masked a l) l) =
        kept_next (present (shown room) (masked a l) l) 18 0 (prefix_rules form a l) alive
        ∙ all_next (present (shown room) (masked a l) l) true {c = true} (prefix_rules form a l) [] (sym kept) in
        record {
          reply = ap gives p.reply ∙ sym past;
          left = p.left ∙ ap (λ (x : Reply Bool). left_by x (taking (shown room) a l) room) (sym past);
        }

-- ---- Lookup.

pub looks_dead : (room : List ℕ) (x : ℕ) → live room ≡ false → refuses 18 0 ≡ look_reply room x
looks_dead room x e = sym (broken-here (lookup 32 (shown room) x) 18 0 [] e)

pub looks-past : (room : List ℕ) (x : ℕ) (m : Match) → live room ≡ true → m ≡ lookup 32 (shown room) x → gives m ≡ look_reply room x
unfolding judge
looks-past room x m alive e = ap gives e ∙ sym (kept_next (lookup 32 (shown room) x) 18 0 [] alive)
