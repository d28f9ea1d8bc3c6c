-- What the steps followed for a prefix come to: for its class, the marks are those of the table after the steps so far, and it is good exactly if the class has had
-- its old or its new answer; for the prefix itself, what it has. Assumes nothing.
use Prim.Native.Nat.{ℕ, zero, suc, ◌+◌, ◌-◌, ◌*◌, ◌/◌, ◌^◌, ◌≤◌, ◌<◌}
use mathlib.Core.Path.{◌≡◌, refl, sym, ap, ap₂, subst, ◌∙◌}
use mathlib.Core.Bool.{Bool, true, false, cond, not, ◌||◌, ◌&&◌, true≢false, false≢true, or-true}
use mathlib.Core.List.{List, [], ◌∷◌, map}
use mathlib.Core.Logic.{◌⊎◌, inl, inr}
use native.Mathlib.Decide.{dec_lt}
use native.Mathlib.Nat.{eq-or-lt_of_le}
use native.Mathlib.Omega.{arith}
use lib.Dec.{eqb, ltb}
use lib.ListN.{length, length-map, get_or-map, take}
use borrow.Author.Tests.{eqb-true, eqb-false, eq-eqb, ne_eqb}
use borrow.Author.Count.{below_more}
use Rattle.std.specs.Prelude.{Option, Some, None}
use Rattle.std.proofs.lemmas.List.{get_or-take}
use Rattle.theory.specs.Results.{start_of}
use Rattle.theory.specs.Routes.{Route, Answer, none, via, All, Table}
use Rattle.theory.proofs.Blocks.{pow_pos, in→block, aligned-start, in_start, start_is}
use Rattle.theory.proofs.Lists.{all_member}
use Rattle.theory.proofs.Parts.{all_part}
use Rattle.words.specs.Prefix.{agree}
use Rattle.words.proofs.PrefixLaws.{start_small}
use Rattle.positions.specs.Runs.{no_hop, or_else}
use Rattle.records.specs.Wire.{routes}
use Rattle.records.specs.Sized.{route}
use Rattle.table.proofs.SizedTables.{hops-below}
use Rattle.steps.specs.Steps.{Step as Move, putting, taking, same, entry, apply, after, Sound, Sounds}
use Rattle.steps.specs.Views.{rung, best}
use Rattle.steps.proofs.Entries.{and-true, entry_step, entry-member, true_same, same_false}
use Rattle.steps.proofs.Tables.{all_put}
use Rattle.steps.proofs.Rungs.{best_alike}
use Rattle.steps.proofs.Turns.{nth, after_step, sounds_from, table-after}
use Rattle.rungs.specs.Rungs.{number_of, row}
use Rattle.rungs.proofs.Rows.{row-hop, Small, number_one, top-best}
use Rattle.plans.specs.declared.answers.Step.{Step}
use Rattle.checking.specs.declared.marks.Marks.{Marks}
use Rattle.checking.specs.declared.Class.{Class}
use Rattle.checking.specs.Marks.{fine_of, marked_of}
use Rattle.checking.specs.Checking.{puts, left_of, best_in, class_before, answered_of}
use Rattle.plans.specs.Following.{step_at}
use Rattle.plans.specs.Judging.{step_of}
use Rattle.plans.specs.Deciding.{MayFollow, table_after, prefix_of, For, LeftAt, LastLeft, class_answer}
use Rattle.plans.proofs.Marking.{Marked, worse_is, marked_next, marked_alike, row-marked}

-- A table whose hops are below no_hop.
abbrev pub Hopped : List Route → Type 0
Hopped v = All (λ r. r.hop < no_hop) v

-- ---- Numbers for answers.

pub small-entry : {v : List Route} → Hopped v → (a l : ℕ) → Small (entry v a l)
small-entry {v} hops a l = go (entry v a l) refl
  where
    go : (w : Answer) → entry v a l ≡ w → Small w
    go none e = tt
    go (via h) e = let z = entry-member v a l e in let q : z.0.hop ≡ h = z.4 in omega (arith, all_member hops z.1)

pub best-small : (f : ℕ → Answer) (n : ℕ) → ((l : ℕ) → Small (f l)) → Small (best f n)
best-small f zero k = k zero
best-small f (suc n) k = go (f (suc n)) (k (suc n)) (best-small f n k)
  where
    go : (v : Answer) → Small v → Small (best f n) → Small (or_else v (best f n))
    go none s ih = ih
    go (via h) s ih = s

-- The number at the top of a row is that of the best answer.
pub best-number : {v : List Route} → Hopped v → (x d : ℕ) → d ≤ 32 → best_in (row (rung 32 v x) 0 33) d ≡ number_of (best (rung 32 v x) d)
best-number {v} hops x d le =
    top-best (rung 32 v x) (row (rung 32 v x) 0 33) d (λ l h. row-hop (rung 32 v x) l (omega arith)) (λ l h. small-entry hops (start_of (32 - l) x) l)

-- Is the number of an answer one of two?
module _ (a b c : Answer) (sa : Small a) (sb : Small b) (sc : Small c) where
  pub one_of_to : (eqb (number_of a) (number_of b) || eqb (number_of a) (number_of c)) ≡ true → (a ≡ b) ⊎ (a ≡ c)
  one_of_to e = go (eqb (number_of a) (number_of b)) refl e
    where
      go : (t : Bool) → eqb (number_of a) (number_of b) ≡ t → (t || eqb (number_of a) (number_of c)) ≡ true → (a ≡ b) ⊎ (a ≡ c)
      go true q p = inl (number_one a b sa sb (eqb-true _ _ q))
      go false q p = inr (number_one a c sa sc (eqb-true _ _ p))

  pub one_of_from : (a ≡ b) ⊎ (a ≡ c) → (eqb (number_of a) (number_of b) || eqb (number_of a) (number_of c)) ≡ true
  one_of_from (inl e) = rw (eq-eqb (number_of a) (number_of b) (ap number_of e))
  one_of_from (inr e) = rw (eq-eqb (number_of a) (number_of c) (ap number_of e)) (or-true (eqb (number_of a) (number_of b)))

-- ---- One step at one address.

-- What a step leaves at its own prefix.
abbrev pub leaves : Step → Answer
leaves s = cond (puts s.put) (via s.hop) none

pub step_entry : (s : Step) (v : List Route) (a l : ℕ) → entry (apply (step_of s) v) a l ≡ cond (same (prefix_of s) s.len a l) (leaves s) (entry v a l)
step_entry s v a l = go (puts s.put)
  where
    go : (b : Bool) → entry (apply (cond b (putting (route (prefix_of s) s.len s.hop)) (taking (prefix_of s) s.len)) v) a l
        ≡ cond (same (prefix_of s) s.len a l) (cond b (via s.hop) none) (entry v a l)
    go true = entry_step (putting (route (prefix_of s) s.len s.hop)) v a l
    go false = entry_step (taking (prefix_of s) s.len) v a l

pub start-block : (n x : ℕ) → start_of n x / 2 ^ n ≡ x / 2 ^ n
start-block n x = sym (in→block n (start_of n x) x (aligned-start n x) (in_start n x))

-- The rungs of x after a step: only that of its length may change, and that where its prefix holds x.
pub rung_step : (s : Step) (v : List Route) (x l : ℕ) → rung 32 (apply (step_of s) v) x l
    ≡ cond (eqb s.len l && agree 32 s.len x s.addr) (leaves s) (rung 32 v x l)
rung_step s v x l =
    step_entry s v (start_of (32 - l) x) l ∙ ap (λ (b : Bool). cond b (leaves s) (rung 32 v x l)) (go (eqb s.len l) refl (agree 32 s.len x s.addr) refl)
  where
    go : (b : Bool) → eqb s.len l ≡ b → (c : Bool) → agree 32 s.len x s.addr ≡ c → same (prefix_of s) s.len (start_of (32 - l) x) l ≡ (b && c)
    go false e c q = same_false (prefix_of s) s.len (start_of (32 - l) x) l (λ p r. eqb-false s.len l e r)
    go true e true q =
        let d = eqb-true s.len l e in
        true_same (prefix_of s) s.len (start_of (32 - l) x) l (rw (sym d) (ap (λ (n : ℕ). n * 2 ^ (32 - s.len)) (sym (eqb-true _ _ q)))) d
    go true e false q =
        let d = eqb-true s.len l e in
        same_false (prefix_of s) s.len (start_of (32 - l) x) l (λ p r. eqb-false (x / 2 ^ (32 - s.len)) (s.addr / 2 ^ (32 - s.len)) q
        (sym (start-block (32 - s.len) x) ∙ sym (ap (λ (n : ℕ). n / 2 ^ (32 - s.len)) (rw (sym d) at p)) ∙ start-block (32 - s.len) s.addr))

-- ---- The steps and the tables on the way.

pub start_twice : (k a : ℕ) → start_of k (start_of k a) ≡ start_of k a
start_twice k a = start_is k (start_of k a) (start_of k a) (aligned-start k a) (omega arith, omega (arith, pow_pos k))

-- What holds of a table's routes and of those put holds after any number of steps.
all_after : (P : Route → Type 0) (k : ℕ) (ms : List Move) {v : List Route} → ((j : ℕ) (r : Route) → j < length ms → nth ms j ≡ putting r → P r) → All P v → All P (after k ms v)
all_after P zero ms f z = z
all_after P (suc k) [] f z = z
all_after P (suc k) (putting r ∷ ms) f z = all_after P k ms (λ j q lt e. f (suc j) q (omega arith) e) (all_put r (f zero r (omega arith) refl) z)
all_after P (suc k) (taking a l ∷ ms) f z =
    all_after P k ms (λ j q lt e. f (suc j) q (omega arith) e) (all_part (λ r. not (same r.addr r.len a l)) (λ r y e. y) z)

-- A step's put is the route of its prefix.
pub put_is : (s : Step) (r : Route) → step_of s ≡ putting r → (puts s.put ≡ true) × (r.addr ≡ prefix_of s) × (r.len ≡ s.len) × (r.hop ≡ s.hop)
put_is s r e = go (puts s.put) refl e
  where
    go : (b : Bool) → puts s.put ≡ b → cond b (putting (route (prefix_of s) s.len s.hop)) (taking (prefix_of s) s.len) ≡ putting r
        → (puts s.put ≡ true) × (r.addr ≡ prefix_of s) × (r.len ≡ s.len) × (r.hop ≡ s.hop)
    go true q p = (q, cc, cc, cc)
    go false q p = let z : ◌≡◌ {A = ℕ} 0 1 = cc in absurd (omega arith)

step_sound : (s : Step) → s.len ≤ 32 → s.addr < 2 ^ 32 → Sound 32 (step_of s)
step_sound s le small = go (puts s.put)
  where
    go : (b : Bool) → Sound 32 (cond b (putting (route (prefix_of s) s.len s.hop)) (taking (prefix_of s) s.len))
    go true = record { short = le; clean = aligned-start (32 - s.len) s.addr; small = start_small 32 (32 - s.len) s.addr small }
    go false = tt

pub nth_is : (ss : List Step) (j : ℕ) → nth (map step_of ss) j ≡ step_of (step_at ss j)
nth_is ss j = get_or-map step_of ss j (record { addr = 0; len = 0; hop = 0; put = 0; unread = 0 })

pub next-table : (t : List ℕ) (ss : List Step) (k : ℕ) → k < length ss → table_after t ss (suc k) ≡ apply (step_of (step_at ss k)) (table_after t ss k)
next-table t ss k lt =
    after_step k (map step_of ss) (routes t) (omega (arith, length-map ss step_of)) ∙ ap (λ (s : Move). apply s (table_after t ss k)) (nth_is ss k)

module _ {t u : List ℕ} {ss : List Step} (may : MayFollow t u ss) where
  pub few : Hopped (routes t)
  few = hops-below false may.old_lawful.hops

  pub more : Hopped (routes u)
  more = hops-below false may.new_lawful.hops

  pub sound : Sounds 32 (map step_of ss)
  sound = sounds_from 32 (map step_of ss) (λ j lt. let h : j < length ss = omega (arith, length-map ss step_of) in
      subst (Sound 32) (sym (nth_is ss j)) (step_sound (step_at ss j) (may.short j h) (may.small j h)))

  pub tables : (k : ℕ) → Table 32 (table_after t ss k)
  tables k = table-after k (map step_of ss) sound may.old_lawful.table

  pub hopped : (k : ℕ) → Hopped (table_after t ss k)
  hopped k = all_after (λ r. r.hop < no_hop) k (map step_of ss) (λ j r lt e. let h : j < length ss = omega (arith, length-map ss step_of) in
      let z = put_is (step_at ss j) r (sym (nth_is ss j) ∙ e) in
      let y : r.hop ≡ (step_at ss j).hop = z.3 in
      omega (arith, may.hopped j h z.0)) few

  pub small_at : (k a l : ℕ) → Small (entry (table_after t ss k) a l)
  small_at k a l = small-entry (hopped k) a l

-- ---- A class on its way.

-- The class has its old or its new answer after j steps.
abbrev pub ClassAt : List ℕ → List ℕ → List Step → ℕ → ℕ → ℕ → Type 0
ClassAt t u ss x d j =
    (class_answer (table_after t ss j) x d ≡ class_answer (routes t) x d) ⊎ (class_answer (table_after t ss j) x d ≡ class_answer (routes u) x d)

-- c is the class of the prefix of address x and length d after k steps.
pub record Tracks (t u : List ℕ) (ss : List Step) (x d k : ℕ) (c : Class) : Type 0 where
  pub own : c.own ≡ number_of (rung 32 (table_after t ss k) x d)
  pub fine : c.fine ≡ fine_of (number_of (class_answer (routes t) x d)) (number_of (class_answer (routes u) x d))
  pub marks : Marked (number_of (class_answer (routes t) x d)) (number_of (class_answer (routes u) x d)) (rung 32 (table_after t ss k) x) d c.marks
  pub good : c.good ≡ true → (j : ℕ) → j ≤ k → ClassAt t u ss x d j
  pub bad : c.good ≡ false → ((j : ℕ) → ClassAt t u ss x d j) → ⊥

left-number : (b : Bool) (h : ℕ) → left_of b h ≡ number_of (cond b (via h) none)
left-number true h = refl
left-number false h = refl

module _ {t u : List ℕ} {ss : List Step} (may : MayFollow t u ss) where
  abbrev T : ℕ → List Route
  T k = table_after t ss k

  abbrev S : ℕ → Step
  S j = step_at ss j

  abbrev was : ℕ → ℕ → Answer
  was x d = class_answer (routes t) x d

  abbrev goal : ℕ → ℕ → Answer
  goal x d = class_answer (routes u) x d

  rung-small : (k x l : ℕ) → Small (rung 32 (T k) x l)
  rung-small k x l = small_at may k (start_of (32 - l) x) l

  pub tracks_start : (x d : ℕ) → d ≤ 32 → Tracks t u ss x d 0 (class_before (row (rung 32 (routes t) x) 0 33) (row (rung 32 (routes u) x) 0 33) d)
  tracks_start x d le =
      record {
        own = row-hop (rung 32 (routes t) x) d le;
        fine = ap₂ fine_of (best-number (few may) x d le) (best-number (more may) x d le);
        marks = rw (best-number (few may) x d le, best-number (more may) x d le)
            (row-marked (number_of (was x d)) (number_of (goal x d)) d (rung 32 (routes t) x) (row (rung 32 (routes t) x) 0 33) le (λ l h. row-hop (rung 32 (routes t) x) l h));
        good = λ e j h. let z : j ≡ 0 = omega arith in inl (ap (λ (k : ℕ). class_answer (T k) x d) z);
        bad = λ e. absurd (true≢false e);
      }

  module _ {x d k : ℕ} {c : Class} (le : d ≤ 32) (z : Tracks t u ss x d k c) (lt : k < length ss) where
    rung-next : (l : ℕ) → rung 32 (T (suc k)) x l ≡ cond (eqb (S k).len l && agree 32 (S k).len x (S k).addr) (leaves (S k)) (rung 32 (T k) x l)
    rung-next l = ap (λ (v : List Route). rung 32 v x l) (next-table t ss k lt) ∙ rung_step (S k) (T k) x l

    -- Nothing changes for the class.
    tracks_alike : ((l : ℕ) → l ≤ d → rung 32 (T (suc k)) x l ≡ rung 32 (T k) x l) → Tracks t u ss x d (suc k) c
    tracks_alike same-rung =
        record {
          own = z.own ∙ ap number_of (sym (same-rung d (omega arith)));
          fine = z.fine;
          marks = marked_alike z.marks same-rung;
          good = λ g j h. go g j (eq-or-lt_of_le h);
          bad = z.bad;
        }
      where
        same_answer : class_answer (T (suc k)) x d ≡ class_answer (T k) x d
        same_answer = best_alike (rung 32 (T (suc k)) x) (rung 32 (T k) x) d same-rung

        kept : ClassAt t u ss x d k → ClassAt t u ss x d (suc k)
        kept (inl q) = inl (same_answer ∙ q)
        kept (inr q) = inr (same_answer ∙ q)

        go : c.good ≡ true → (j : ℕ) → (j ≡ suc k) ⊎ (j < suc k) → ClassAt t u ss x d j
        go g j (inl q) = rw q (kept (z.good g k (omega arith)))
        go g j (inr h) = z.good g j (omega arith)

    -- A prefix that holds all of the class is put or taken.
    pub tracks_held : agree 32 (S k).len x (S k).addr ≡ true → (S k).len ≤ d → Tracks t u ss x d (suc k) (answered_of c d (puts (S k).put) (S k).len (S k).hop)
    tracks_held e in-d =
        record {
          own = own_now (eqb (S k).len d) refl;
          fine = z.fine;
          marks = marks_now;
          good = λ g j h. go worse refl g j (eq-or-lt_of_le h);
          bad = λ g every. fails worse refl g every;
        }
      where
        now : ℕ
        now = left_of (puts (S k).put) (S k).hop

        f : ℕ → Answer
        f = rung 32 (T (suc k)) x

        held : (l : ℕ) → f l ≡ cond (eqb (S k).len l && true) (leaves (S k)) (rung 32 (T k) x l)
        held l = rung-next l ∙ ap (λ (b : Bool). cond (eqb (S k).len l && b) (leaves (S k)) (rung 32 (T k) x l)) e

        here : (l : ℕ) → (S k).len ≡ l → f l ≡ leaves (S k)
        here l q = held l ∙ ap (λ (b : Bool). cond (b && true) (leaves (S k)) (rung 32 (T k) x l)) (eq-eqb (S k).len l q)

        there : (l : ℕ) → (l ≡ (S k).len → ⊥) → f l ≡ rung 32 (T k) x l
        there l n = held l ∙ ap (λ (b : Bool). cond (b && true) (leaves (S k)) (rung 32 (T k) x l)) (ne_eqb (S k).len l (λ q. n (sym q)))

        number_now : now ≡ number_of (f (S k).len)
        number_now = left-number (puts (S k).put) (S k).hop ∙ ap number_of (sym (here (S k).len refl))

        m : Marks
        m = marked_of c.fine c.marks (S k).len now

        marks_now : Marked (number_of (was x d)) (number_of (goal x d)) f d m
        marks_now = rw z.fine (marked_next le z.marks (S k).len now in-d number_now there)

        own_now : (b : Bool) → eqb (S k).len d ≡ b → cond b now c.own ≡ number_of (f d)
        own_now true q = number_now ∙ ap (λ (l : ℕ). number_of (f l)) (eqb-true (S k).len d q)
        own_now false q = z.own ∙ ap number_of (sym (there d (λ i. eqb-false (S k).len d q (sym i))))

        worse : Bool
        worse = ltb m.fair m.foul

        one : Bool
        one = eqb (number_of (best f d)) (number_of (was x d)) || eqb (number_of (best f d)) (number_of (goal x d))

        worse_not : worse ≡ not one
        worse_not = worse_is le (λ l h. rung-small (suc k) x l) marks_now

        now_small : Small (best f d)
        now_small = best-small f d (λ l. rung-small (suc k) x l)

        was_small : Small (was x d)
        was_small = best-small (rung 32 (routes t) x) d (λ l. small-entry (few may) (start_of (32 - l) x) l)

        goal_small : Small (goal x d)
        goal_small = best-small (rung 32 (routes u) x) d (λ l. small-entry (more may) (start_of (32 - l) x) l)

        un_not : (b c : Bool) → b ≡ not c → b ≡ false → c ≡ true
        un_not b true q h = refl
        un_not b false q h = absurd (true≢false (sym q ∙ h))

        go : (b : Bool) → worse ≡ b → cond b false c.good ≡ true → (j : ℕ) → (j ≡ suc k) ⊎ (j < suc k) → ClassAt t u ss x d j
        go true q g j h = absurd (false≢true g)
        go false q g j (inl i) = rw i (one_of_to (best f d) (was x d) (goal x d) now_small was_small goal_small (un_not worse one worse_not q))
        go false q g j (inr h) = z.good g j (omega arith)

        fails : (b : Bool) → worse ≡ b → cond b false c.good ≡ false → ((j : ℕ) → ClassAt t u ss x d j) → ⊥
        fails false q g every = z.bad g every
        fails true q g every =
            true≢false (sym q ∙ worse_not ∙ ap not (one_of_from (best f d) (was x d) (goal x d) now_small was_small goal_small (every (suc k))))

    unheld : agree 32 (S k).len x (S k).addr ≡ false → (l : ℕ) → rung 32 (T (suc k)) x l ≡ rung 32 (T k) x l
    unheld e l = rung-next l ∙ ap (λ (b : Bool). cond (eqb (S k).len l && b) (leaves (S k)) (rung 32 (T k) x l)) e ∙ pick (eqb (S k).len l)
      where
        pick : (b : Bool) → cond (b && false) (leaves (S k)) (rung 32 (T k) x l) ≡ rung 32 (T k) x l
        pick true = refl
        pick false = refl

    longer_step : d < (S k).len → (l : ℕ) → l ≤ d → rung 32 (T (suc k)) x l ≡ rung 32 (T k) x l
    longer_step gt l h =
        rung-next l ∙ ap (λ (b : Bool). cond (b && agree 32 (S k).len x (S k).addr) (leaves (S k)) (rung 32 (T k) x l)) (ne_eqb (S k).len l (λ q. omega arith))

    -- Its prefix does not hold x, or is longer.
    pub tracks_other : ((S k).len ≤ d → agree 32 (S k).len x (S k).addr ≡ true → ⊥) → Tracks t u ss x d (suc k) c
    tracks_other n = go (dec_lt d (S k).len)
      where
        not_held : (S k).len ≤ d → (b : Bool) → agree 32 (S k).len x (S k).addr ≡ b → Tracks t u ss x d (suc k) c
        not_held h true e = absurd (n h e)
        not_held h false e = tracks_alike (λ l le. unheld e l)

        go : Dec (d < (S k).len) → Tracks t u ss x d (suc k) c
        go (yes gt) = tracks_alike (longer_step gt)
        go (no ge) = not_held (omega arith) (agree 32 (S k).len x (S k).addr) refl

-- ---- A prefix by itself on its way.

-- The test of a step is whether it is for the prefix.
module _ {x d : ℕ} (own : start_of (32 - d) x ≡ x) (s : Step) {b : Bool} (is : b ≡ (eqb s.len d && agree 32 d x s.addr)) where
  pub for_true : b ≡ true → (prefix_of s ≡ x) × (s.len ≡ d)
  for_true e =
      let z = and-true (eqb s.len d) _ (sym is ∙ e) in
      let l : s.len ≡ d = eqb-true s.len d z.0 in
      (ap (λ (m : ℕ). start_of (32 - m) s.addr) l ∙ ap (λ (n : ℕ). n * 2 ^ (32 - d)) (sym (eqb-true _ _ z.1)) ∙ own, l)

  pub for_false : b ≡ false → (prefix_of s ≡ x) × (s.len ≡ d) → ⊥
  for_false e f = true≢false (sym (ap₂ ◌&&◌ (eq-eqb s.len d f.1) (eq-eqb _ _ block)) ∙ sym is ∙ e)
    where
      block : x / 2 ^ (32 - d) ≡ s.addr / 2 ^ (32 - d)
      block =
          ap (λ (a : ℕ). a / 2 ^ (32 - d)) (sym f.0 ∙ ap (λ (m : ℕ). start_of (32 - m) s.addr) f.1) ∙ start-block (32 - d) s.addr

-- What the last step for it left.
module _ (ss : List Step) (x d k : ℕ) where
  pub last_own : For ss x d k → LastLeft ss x d (k + 1) (Some (left_of (puts (step_at ss k).put) (step_at ss k).hop))
  last_own f = record { step = k; before = omega arith; own = f; last = λ i gt lt. absurd (omega arith); is = refl }

  pub last_other : (For ss x d k → ⊥) → (r : Option ℕ) → LastLeft ss x d k r → LastLeft ss x d (k + 1) r
  last_other n None f = below_more _ _ f n
  last_other n (Some v) z = record { step = z.step; before = omega (arith, z.before); own = z.own; last = λ i gt lt. go i gt (dec_lt i k) lt; is = z.is }
    where
      go : (i : ℕ) → z.step < i → Dec (i < k) → i < k + 1 → For ss x d i → ⊥
      go i gt (yes h) lt = z.last i gt h
      go i gt (no h) lt = let e : i ≡ k = omega arith in rw e n

abbrev nowhere : Step
nowhere = record { addr = 0; len = 0; hop = 0; put = 0; unread = 0 }

-- The first k of the steps are those of a shorter list.
pub last_take : (ss : List Step) (x d k : ℕ) → k ≤ length ss → (r : Option ℕ) → LastLeft (take k ss) x d k r → LastLeft ss x d k r
last_take ss x d k le None f = λ j lt q. f j lt (rw (get_or-take k ss j nowhere lt) q)
last_take ss x d k le (Some v) z =
    let h = z.before in
    let e = get_or-take k ss z.step nowhere h in
    record {
      step = z.step;
      before = h;
      own = rw e at z.own;
      last = λ i gt lt q. z.last i gt lt (rw (get_or-take k ss i nowhere lt) q);
      is = rw e at z.is;
    }

module _ (t : List ℕ) (ss : List Step) (x d : ℕ) where
  entry_next : (k : ℕ) → k < length ss → entry (table_after t ss (suc k)) x d
      ≡ cond (same (prefix_of (step_at ss k)) (step_at ss k).len x d) (leaves (step_at ss k)) (entry (table_after t ss k) x d)
  entry_next k lt = ap (λ (v : List Route). entry v x d) (next-table t ss k lt) ∙ step_entry (step_at ss k) (table_after t ss k) x d

  pub entry-own : (k : ℕ) → k < length ss → For ss x d k → left_of (puts (step_at ss k).put) (step_at ss k).hop ≡ number_of (entry (table_after t ss (suc k)) x d)
  entry-own k lt q =
      left-number (puts (step_at ss k).put) (step_at ss k).hop
      ∙ ap number_of (sym (entry_next k lt ∙ ap (λ (b : Bool). cond b (leaves (step_at ss k)) (entry (table_after t ss k) x d))
      (true_same (prefix_of (step_at ss k)) (step_at ss k).len x d q.0 q.1)))

  pub entry-other : (k : ℕ) → k < length ss → (For ss x d k → ⊥) → entry (table_after t ss (suc k)) x d ≡ entry (table_after t ss k) x d
  entry-other k lt n =
      entry_next k lt ∙ ap (λ (b : Bool). cond b (leaves (step_at ss k)) (entry (table_after t ss k) x d)) (same_false (prefix_of (step_at ss k)) (step_at ss k).len x d (λ a l. n (a, l)))

  -- Where no step from j to k is for it, nothing changes there.
  pub entry-still : (j m : ℕ) → j + m ≤ length ss → ((i : ℕ) → j ≤ i → i < j + m → For ss x d i → ⊥) → entry (table_after t ss (j + m)) x d ≡ entry (table_after t ss j) x d
  entry-still j zero le n = ap (λ (k : ℕ). entry (table_after t ss k) x d) (omega arith)
  entry-still j (suc m) le n =
      let e : j + suc m ≡ suc (j + m) = omega arith in
      ap (λ (k : ℕ). entry (table_after t ss k) x d) e ∙ entry-other (j + m) (omega arith) (n (j + m) (omega arith) (omega arith))
      ∙ entry-still j m (omega arith) (λ i ge lt. n i ge (omega arith))

  -- So what the last step left is what is there, or without one what was.
  pub last-number : {k v : ℕ} → k ≤ length ss → LeftAt ss x d k v → v ≡ number_of (entry (table_after t ss k) x d)
  last-number {k} {v} le z =
      let h = z.before in
      let e : suc z.step + (k - suc z.step) ≡ k = omega arith in
      z.is ∙ entry-own z.step (omega arith) z.own
      ∙ ap number_of (sym (rw e at (entry-still (suc z.step) (k - suc z.step) (omega arith) (λ i ge lt. z.last i (omega arith) (omega arith)))))

  pub none-left : {k : ℕ} → k ≤ length ss → ((j : ℕ) → j < k → For ss x d j → ⊥) → entry (table_after t ss k) x d ≡ entry (routes t) x d
  none-left {k} le n =
      let e : 0 + k ≡ k = omega arith in
      rw e at (entry-still 0 k (omega arith) (λ i ge lt. n i (omega arith)))
