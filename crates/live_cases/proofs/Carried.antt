-- What a command does, case by case, and that a call which answers no change leaves the room as it was. Assumes nothing.
use Prim.{tt}
use Prim.Native.Nat.{ℕ, suc, ◌+◌, ◌%◌, ◌*◌, ◌^◌, ◌≤◌, ◌<◌}
use mathlib.Core.Path.{◌≡◌, refl, ap, ◌∙◌}
use mathlib.Core.Bool.{Bool, true, false, cond, false≢true}
use mathlib.Core.List.{List, [], ◌∷◌, ◌++◌}
use native.Mathlib.Omega.{arith}
use lib.Bits.{bit_xor}
use lib.Dec.{lit<, leb, eqb}
use lib.ListN.{length, get_or, set}
use lib.Pow.{shl_exact}
use borrow.Author.Tests.{eq-eqb, ne_eqb, lt-ltb, le-ltb}
use Rattle.refusals.specs.Rules.{Rule, rule, Reply, gives, refuses, judge}
use Rattle.std.specs.Prelude.{Ok, Err}
use Rattle.std.specs.Result.{result_and}
use Rattle.refusals.specs.Numbers.{number_of}
use Rattle.liveroom.specs.Rooms.{shown, fit, Words}
use Rattle.live.specs.Tables.{putting, taking, put_rules}
use Rattle.live.specs.Calls.{Done, done_says, Taken, kept_says, left_by, live_rules, make_reply, put_reply, take_reply, look_reply, Makes, Puts, Takes}
use Rattle.live.proofs.Calls.{make_left, put-left, take_left}
use Rattle.live.proofs.Promises.{absent_left}
use Rattle.live_cases.specs.declared.Command.{Command}
use Rattle.live_cases.specs.Lines.{kept_line, look_line, flipped_line, unknown_line}
use Rattle.live_cases.specs.Commands.{command_at, flipped, change_reply, change_left, stays, line_of, left_of, left_after, lines_of}

-- ---- A flipped bit: the code's `1 << k`.
one_shl : (k : ℕ) → k < 32 → 1 * 2 ^ k % 2 ^ 32 ≡ 2 ^ k
one_shl k lt = let e : 1 * 2 ^ k ≡ 2 ^ k = omega arith in shl_exact {a = 1} 1 k 32 (lit< tt) (omega arith) ∙ e

pub flip_in : (room : List ℕ) (i bit : ℕ) → i < length room → set room i (bit_xor (get_or room i 0) (1 * 2 ^ (bit % 32) % 2 ^ 32)) ≡ flipped room i bit
unfolding flipped
flip_in room i bit lt = rw (lt-ltb i (length room) lt, one_shl (bit % 32) (omega arith))

pub flip_out : (room : List ℕ) (i bit : ℕ) → length room ≤ i → room ≡ flipped room i bit
unfolding flipped
flip_out room i bit le = rw (le-ltb i (length room) le)

-- ---- Make, put and take.

-- A call that is done changes the map.
said : (k : Done) → kept_says (result_and k (Ok true)) ≡ done_says k
said (Ok done) = refl
said (Err refusal) = refl

module _ (c : Command) {room after : List ℕ} {k : Done} {r : Taken} (is : r ≡ result_and k (Ok true)) where
  pub by_make : c.order ≡ 0 → Makes room k after → (kept_says r ≡ change_reply c room) × (after ≡ change_left c room)
  unfolding change_reply change_left
  by_make z m = rw (eq-eqb c.order 0 z) (ap kept_says is ∙ said k ∙ m.reply, m.left)

  pub by_put : (c.order ≡ 0 → ⊥) → c.order ≡ 1 → Puts room c.form c.address c.len c.hop k after
      → (kept_says r ≡ change_reply c room) × (after ≡ change_left c room)
  unfolding change_reply change_left
  by_put n0 is1 p = rw (ne_eqb c.order 0 n0, eq-eqb c.order 1 is1) (ap kept_says is ∙ said k ∙ p.reply, p.left)

module _ (c : Command) {room after : List ℕ} {k : Taken} where
  pub by_take : (c.order ≡ 0 → ⊥) → (c.order ≡ 1 → ⊥) → Takes room c.form c.address c.len k after
      → (kept_says k ≡ change_reply c room) × (after ≡ change_left c room)
  unfolding change_reply change_left
  by_take n0 n1 t = rw (ne_eqb c.order 0 n0, ne_eqb c.order 1 n1) (t.reply, t.left)

-- ---- A refused call, and a take of an absent prefix.

-- What is judged gives what it was to give.
never : (rs : List Rule) → ◌≡◌ {A = Reply Bool} (gives false) (judge rs true) → ⊥
unfolding judge
never [] e = let z : ◌≡◌ {A = Bool} false true = cc in false≢true z
never (r ∷ rs) e = go r.kept (never rs) e
  where
    go : (b : Bool) → (◌≡◌ {A = Reply Bool} (gives false) (judge rs true) → ⊥)
        → ◌≡◌ {A = Reply Bool} (gives false) (cond b (judge rs true) (refuses r.number r.index)) → ⊥
    go true f e = f e
    go false f e = let z : ◌≡◌ {A = ℕ} 0 1 = cc in omega arith

module _ (c : Command) {room : List ℕ} (words : Words room) where
  pub stays-left : (k : Taken) → kept_says k ≡ change_reply c room → stays k ≡ true → change_left c room ≡ room
  unfolding change_reply change_left
  stays-left k e s = go (eqb c.order 0) (eqb c.order 1) k e s
    where
      go : (p q : Bool) (k : Taken)
          → kept_says k ≡ cond p (make_reply room) (cond q (put_reply room c.form c.address c.len c.hop) (take_reply room c.form c.address c.len))
          → stays k ≡ true
          → cond p (left_by (make_reply room) [] room)
          (cond q (left_by (put_reply room c.form c.address c.len c.hop) (putting (shown room) c.address c.len c.hop) room)
          (left_by (take_reply room c.form c.address c.len) (taking (shown room) c.address c.len) room))
          ≡ room
      go p q (Ok true) e s = absurd (false≢true s)
      go true q (Ok false) e s = absurd (never (rule 10 0 (leb 160 (length room)) ∷ []) e)
      go false true (Ok false) e s = absurd (never (live_rules room (put_rules (fit room) (shown room) c.form c.address c.len c.hop)) e)
      go false false (Ok false) e s =
          absent_left {room = room} {form = c.form} {a = c.address} {l = c.len} {k = Ok false} words (record { reply = e; left = refl }) refl
      go true q (Err r) e s = make_left {room = room} {k = Err r} (number_of r.cause) r.index (record { reply = e; left = refl }) refl
      go false true (Err r) e s =
          put-left {room = room} {form = c.form} {a = c.address} {l = c.len} {h = c.hop} {k = Err r} (number_of r.cause) r.index (record { reply = e; left = refl }) refl
      go false false (Err r) e s =
          take_left {room = room} {form = c.form} {a = c.address} {l = c.len} {k = Err r} (number_of r.cause) r.index (record { reply = e; left = refl }) refl

-- ---- Any command: its line and the room then, by what is to be done.
module _ (c : Command) (room : List ℕ) where
  pub as_unknown : 4 < c.order → (unknown_line ≡ line_of c room) × (room ≡ left_of c room)
  unfolding line_of left_of
  as_unknown lt = rw (lt-ltb 4 c.order lt) (refl, refl)

  module _ (few : c.order ≤ 4) where
    pub as_flip : c.order ≡ 4 → (flipped_line ≡ line_of c room) × (flipped room c.address c.len ≡ left_of c room)
    unfolding line_of left_of
    as_flip e = rw (le-ltb 4 c.order few, eq-eqb c.order 4 e) (refl, refl)

    pub as_look : (c.order ≡ 4 → ⊥) → c.order ≡ 3 → (look_line (look_reply room c.address) ≡ line_of c room) × (room ≡ left_of c room)
    unfolding line_of left_of
    as_look n4 e = rw (le-ltb 4 c.order few, ne_eqb c.order 4 n4, eq-eqb c.order 3 e) (refl, refl)

    pub as_change : (c.order ≡ 4 → ⊥) → (c.order ≡ 3 → ⊥) → (kept_line (change_reply c room) ≡ line_of c room) × (change_left c room ≡ left_of c room)
    unfolding line_of left_of
    as_change n4 n3 = rw (le-ltb 4 c.order few, ne_eqb c.order 4 n4, ne_eqb c.order 3 n3) (refl, refl)

-- ---- One command more.
module _ (cs room : List ℕ) (i : ℕ) where
  pub left_more : left_of (command_at cs i) (left_after cs i room) ≡ left_after cs (i + 1) room
  unfolding left_after
  left_more = let e : i + 1 ≡ suc i = omega arith in rw e refl

  pub lines_more : lines_of cs i room ++ line_of (command_at cs i) (left_after cs i room) ≡ lines_of cs (i + 1) room
  unfolding lines_of
  lines_more = let e : i + 1 ≡ suc i = omega arith in rw e refl
