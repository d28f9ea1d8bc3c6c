-- Any sequence of calls from an empty map answers as a simple table of routes does. The words of a room are assumed to be below 2 ^ 32, as those of every
-- `&[u32]` are, and so the addresses that are put.
use Prim.{Unit, tt}
use Prim.Native.Nat.{ℕ, ◌-◌, ◌/◌, ◌^◌, ◌≤◌, ◌<◌}
use mathlib.Core.Path.{◌≡◌, refl, sym, ap, ap₂, ◌∙◌}
use mathlib.Core.Bool.{Bool, true, false, not, ◌||◌}
use mathlib.Core.List.{List, [], ◌∷◌}
use native.Mathlib.Omega.{arith}
use lib.Dec.{leb}
use lib.ListN.{length}
use borrow.Author.Tests.{leb-true}
use Rattle.theory.specs.Routes.{Route, lookup, nil, empty}
use Rattle.theory.proofs.Parts.{length_parts}
use Rattle.words.specs.Prefix.{host_clear}
use Rattle.words.proofs.PrefixLaws.{start_small}
use Rattle.std.specs.Prelude.{Ok}
use Rattle.refusals.specs.Rules.{rule, Reply, gives, refuses, judge}
use Rattle.refusals.proofs.Judged.{kept_next}
use Rattle.records.specs.Sized.{route}
use Rattle.records.specs.declared.Form.{Form}
use Rattle.nodecount.specs.Nodes.{nodes, brought}
use Rattle.steps.specs.Steps.{same, present, put, without}
use Rattle.liveroom.specs.Rooms.{shown, fit, Words}
use Rattle.liveroom.proofs.Reading.{length-shown}
use Rattle.liveroom.proofs.Sound.{Mapped, is_live, live_mapped, mapped_table, sound_proper}
use Rattle.live.specs.Tables.{masked, table_put, table_take}
use Rattle.live.specs.Calls.{Done, done_says, Taken, kept_says, left_by, Makes, put_reply, Puts, take_reply, Takes, look_reply}
use Rattle.live.specs.Sequences.{Call, puts, takes, looks, Said, changed, found, kept_by, table_answers, Runs, nothing, put_then, take_then, look_then}
use Rattle.live.proofs.Maps.{Good, good_stored, put_mapped, take_mapped}
use Rattle.live.proofs.Present.{nodes_less}
use Rattle.live.proofs.Replies.{masked-sound}

-- ---- One call on a good room.

pub gives_not : {A B : Type 0} {a : A} {n i : ℕ} → ◌≡◌ {A = Reply A} (refuses n i) (gives a) → B
gives_not e = let z : ◌≡◌ {A = ℕ} 0 1 = cc in absurd (omega arith)

-- A put that is given keeps its rules.
five : {b : Bool} (p q r s u : Bool) → judge (rule 5 0 p ∷ rule 6 0 q ∷ rule 7 0 r ∷ rule 17 0 s ∷ rule 10 0 u ∷ []) true ≡ gives b
    → (p ≡ true) × (r ≡ true) × (s ≡ true) × (u ≡ true)
unfolding judge
five true true true true true e = (refl, refl, refl, refl)
five true true true true false e = gives_not e
five true true true false u e = gives_not e
five true true false s u e = gives_not e
five true false r s u e = gives_not e
five false q r s u e = gives_not e

module _ (most : ℕ) (t : List Route) (room : List ℕ) (g : Good most t room) where
  good_mapped : Mapped t
  good_mapped = rw g.shows at (live_mapped room g.words g.alive)

  good_few : length t ≤ 1024
  good_few = rw g.shows at (let e : length (shown room) ≤ 1024 = omega (arith, length-shown room, g.alive.few) in e)

  good_fits : nodes 32 t ≤ most
  good_fits = rw (g.shows, g.size) at g.alive.fits

  good_same : {after : List ℕ} → after ≡ room → Good most t after
  good_same e = rw e g

  -- A put.
  module _ (form : Form) (a l h : ℕ) (small : a < 2 ^ 32) (k : Done) (after : List ℕ) (p : Puts room form a l h k after) where
    put_is : put_reply room form a l h ≡ table_put most t form a l h
    put_is =
        kept_next true 18 0 _ (is_live room g.alive)
        ∙ ap₂ (λ (m : ℕ) (s : List Route). table_put m s form a l h) g.size g.shows

    pub put-said : done_says k ≡ table_put most t form a l h
    put-said = p.reply ∙ put_is

    pub put_good : Good most (kept_by (table_put most t form a l h) (put (route (masked a l) l h) t) t) after
    put_good =
        go (table_put most t form a l h) refl
        (p.left ∙ ap₂ (λ (x : Reply Bool) (s : List Route). left_by x (put (route (masked a l) l h) s) room) put_is g.shows)
      where
        go : (x : Reply Bool) → table_put most t form a l h ≡ x → after ≡ left_by x (put (route (masked a l) l h) t) room
            → Good most (kept_by x (put (route (masked a l) l h) t) t) after
        go (refuses n i) e q = good_same q
        go (gives b) e q =
            let f = five (leb l 32) (not form.strict || host_clear 32 a l) (leb h 63) (leb (length (put (route (masked a l) l h) t)) 1024)
            (leb (nodes 32 (put (route (masked a l) l h) t)) most) e in
            let le = leb-true l 32 f.0 in
            let s = masked-sound a l h le (leb-true h 63 f.1) in
            let v = sound_proper (route (masked a l) l h) (start_small 32 (32 - l) a small) s in
            rw q (good_stored room g.words g.size (put_mapped (route (masked a l) l h) v good_mapped) (leb-true _ _ f.2) (leb-true _ _ f.3))

  -- A take.
  module _ (form : Form) (a l : ℕ) (k : Taken) (after : List ℕ) (p : Takes room form a l k after) where
    take_is : take_reply room form a l ≡ table_take t form a l
    take_is =
        kept_next (present (shown room) (masked a l) l) 18 0 _ (is_live room g.alive)
        ∙ ap (λ (s : List Route). table_take s form a l) g.shows

    pub take-said : kept_says k ≡ table_take t form a l
    take-said = p.reply ∙ take_is

    pub take_good : Good most (kept_by (table_take t form a l) (without (masked a l) l t) t) after
    take_good =
        go (table_take t form a l)
        (p.left ∙ ap₂ (λ (x : Reply Bool) (s : List Route). left_by x (without (masked a l) l s) room) take_is g.shows)
      where
        go : (x : Reply Bool) → after ≡ left_by x (without (masked a l) l t) room → Good most (kept_by x (without (masked a l) l t) t) after
        go (refuses n i) q = good_same q
        go (gives b) q =
            let few : length (without (masked a l) l t) ≤ 1024 =
            omega (arith, good_few, length_parts (λ r. not (same r.addr r.len (masked a l) l)) t) in
            let fits : nodes 32 (without (masked a l) l t) ≤ most = omega (arith, good_fits, nodes_less (mapped_table good_mapped) (masked a l) l) in
            rw q (good_stored room g.words g.size (take_mapped (masked a l) l good_mapped) few fits)

  -- A lookup.
  pub look_said : (x : ℕ) → look_reply room x ≡ gives (lookup 32 t x)
  unfolding judge
  look_said x = kept_next (lookup 32 (shown room) x) 18 0 [] (is_live room g.alive) ∙ ap (λ (s : List Route). gives (lookup 32 s x)) g.shows

-- ---- Any sequence of calls.

-- The addresses that are put are words.
abbrev pub Addressed : List Call → Type 0
Addressed [] = Unit {0}
Addressed (puts form a l h ∷ cs) = (a < 2 ^ 32) × Addressed cs
Addressed (takes form a l ∷ cs) = Addressed cs
Addressed (looks x ∷ cs) = Addressed cs

runs_table : {most : ℕ} {t : List Route} {room : List ℕ} {cs : List Call} {ss : List Said} → Addressed cs → Good most t room → Runs room cs ss
    → ss ≡ table_answers most t cs
unfolding table_answers
runs_table w g nothing = refl
runs_table {most} {t} {room} w g (put_then {after = after} {form = form} {a = a} {l = l} {h = h} k p rs) =
    ap₂ (λ (x : Said) (u : List Said). x ∷ u) (ap changed (put-said most t room g form a l h w.0 k after p))
    (runs_table {t = kept_by (table_put most t form a l h) (put (route (masked a l) l h) t) t} {room = after} w.1 (put_good most t room g form a l h w.0 k after p) rs)
runs_table {most} {t} {room} w g (take_then {after = after} {form = form} {a = a} {l = l} k p rs) =
    ap₂ (λ (x : Said) (u : List Said). x ∷ u) (ap changed (take-said most t room g form a l k after p))
    (runs_table {t = kept_by (table_take t form a l) (without (masked a l) l t) t} {room = after} w (take_good most t room g form a l k after p) rs)
runs_table {most} {t} {room} w g (look_then {x = x} k p rs) =
    ap₂ (λ (y : Said) (u : List Said). y ∷ u) (ap found (p ∙ look_said most t room g x)) (runs_table {t = t} {room = room} w g rs)

-- An empty map that is made is held, with no routes.
empty_mapped : Mapped []
empty_mapped = record { each = nil; order = empty }

pub make_good : {room after : List ℕ} → Words room → Makes room (Ok tt) after → Good (fit room) [] after
unfolding judge nodes brought
make_good {room} {after} w p = go (leb 160 (length room)) refl p.reply p.left
  where
    go : (b : Bool) → leb 160 (length room) ≡ b → done_says (Ok tt) ≡ judge (rule 10 0 b ∷ []) true
        → after ≡ left_by (judge (rule 10 0 b ∷ []) true) [] room → Good (fit room) [] after
    go true e q s = rw s (good_stored room w refl empty_mapped (omega arith) (let z : 1 ≤ length room / 160 = omega (arith, leb-true 160 (length room) e) in z))
    go false e q s = gives_not (sym q)

-- Any sequence of calls from an empty map answers as a simple table does.
pub sequence : {room after : List ℕ} {cs : List Call} {ss : List Said} → Words room → Addressed cs → Makes room (Ok tt) after → Runs after cs ss
    → ss ≡ table_answers (fit room) [] cs
sequence w a m rs = runs_table a (make_good w m) rs
