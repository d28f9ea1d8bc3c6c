-- The statements of the calls on a live map: for every room, what each answers and what stands in the room then.
use Rattle.std.specs.Prelude.{ℕ, ◌≡◌, Bool, true, List, [], ◌∷◌, leb, length, Result}
use Rattle.theory.specs.Routes.{Route, Match, lookup}
use Rattle.refusals.specs.Rules.{Rule, rule, Reply, gives, refuses, judge}
use Rattle.refusals.specs.Numbers.{reply_of}
use Rattle.refusals.specs.declared.Refusal.{Refusal}
use Rattle.records.specs.declared.Form.{Form}
use Rattle.steps.specs.Steps.{present}
use Rattle.liveroom.specs.Rooms.{shown, stored, live, fit}
use Rattle.live.specs.Tables.{masked, putting, taking, prefix_rules, put_rules}

-- ---- Answers.

-- Of a make and of a put: it is done, or refused.
abbrev pub Done : Type 0
Done = Result (Unit {0}) Refusal

abbrev pub done_says : Done → Reply Bool
done_says = reply_of (λ done. true)

-- Of a take: whether the prefix was present, or a refusal.
abbrev pub Taken : Type 0
Taken = Result Bool Refusal

abbrev pub kept_says : Taken → Reply Bool
kept_says = reply_of (λ b. b)

-- The room after a call that stores t unless it refuses.
abbrev pub left_by : {A : Type 0} → Reply A → List Route → List ℕ → List ℕ
left_by (gives a) t room = stored t room
left_by (refuses n i) t room = room

-- ---- The right replies. The room must hold a live map; then a simple table of the routes that it shows decides.

-- An empty map wants the 160 words of its one node.
abbrev pub make_reply : List ℕ → Reply Bool
make_reply room = judge (rule 10 0 (leb 160 (length room)) ∷ []) true

-- Rule 18, and the others.
abbrev pub live_rules : List ℕ → List Rule → List Rule
live_rules room rs = rule 18 0 (live room) ∷ rs

abbrev pub put_reply : List ℕ → Form → ℕ → ℕ → ℕ → Reply Bool
put_reply room form a l h = judge (live_rules room (put_rules (fit room) (shown room) form a l h)) true

abbrev pub take_reply : List ℕ → Form → ℕ → ℕ → Reply Bool
take_reply room form a l = judge (live_rules room (prefix_rules form a l)) (present (shown room) (masked a l) l)

abbrev pub look_reply : List ℕ → ℕ → Reply Match
look_reply room x = judge (live_rules room []) (lookup 32 (shown room) x)

-- ---- The statements: the room was lent, the answer given, and the room is `after` then.

pub record Makes (room : List ℕ) (answer : Done) (after : List ℕ) : Type 0 where
  pub reply : done_says answer ≡ make_reply room
  pub left : after ≡ left_by (make_reply room) [] room

pub record Puts (room : List ℕ) (form : Form) (a l h : ℕ) (answer : Done) (after : List ℕ) : Type 0 where
  pub reply : done_says answer ≡ put_reply room form a l h
  pub left : after ≡ left_by (put_reply room form a l h) (putting (shown room) a l h) room

pub record Takes (room : List ℕ) (form : Form) (a l : ℕ) (answer : Taken) (after : List ℕ) : Type 0 where
  pub reply : kept_says answer ≡ take_reply room form a l
  pub left : after ≡ left_by (take_reply room form a l) (taking (shown room) a l) room
