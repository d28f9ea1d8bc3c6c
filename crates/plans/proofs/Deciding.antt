-- What the checker finds out of the steps, of prefixes and of classes, and that it settles the answer. Assumes nothing.
use Prim.Native.Nat.{ℕ, suc, ◌+◌, ◌-◌, ◌*◌, ◌/◌, ◌^◌, ◌≤◌, ◌<◌}
use mathlib.Core.Path.{◌≡◌, refl, sym, ap, ap₂, subst, ◌∙◌}
use mathlib.Core.Bool.{Bool, true, false, cond, not, ◌||◌, true≢false}
use mathlib.Core.List.{List, map}
use mathlib.Core.Logic.{◌⊎◌, inl, inr}
use native.Mathlib.Decide.{dec_lt}
use native.Mathlib.Omega.{arith}
use lib.Dec.{eqb, leb}
use lib.ListN.{length, get_or, length-map, take}
use borrow.Author.Tests.{eqb-true, eq-eqb, ne_eqb, leb-true}
use borrow.Author.Count.{below_more}
use Rattle.std.proofs.lemmas.List.{length-take-le}
use Rattle.std.specs.Prelude.{Option, Some, None, MatchOption, unwrap_or}
use Rattle.theory.specs.Results.{start_of}
use Rattle.theory.specs.Routes.{Route, matches, Answer, none, via, Aligned, All, Member}
use Rattle.theory.specs.Shapes.{routed}
use Rattle.theory.proofs.Blocks.{pow_pos, aligned_down, next-block, aligned-start, in_start, start_is}
use Rattle.theory.proofs.Numbered.{all_numbered, member_numbered}
use Rattle.words.specs.Prefix.{agree}
use Rattle.positions.specs.Runs.{no_hop}
use Rattle.refusals.specs.Rules.{gives}
use Rattle.records.specs.Wire.{records, route_at, routes}
use Rattle.records.specs.Sized.{route, Bytes}
use Rattle.records.specs.declared.Form.{Form}
use Rattle.records.proofs.Reading.{length-routes}
use Rattle.table.specs.Checking.{check_reply}
use Rattle.table.proofs.AtEight.{accepted-table}
use Rattle.runs.proofs.Halves.{whole_run, record_within}
use Rattle.runs.proofs.Records.{run-whole, run_numbered}
use Rattle.steps.specs.Steps.{Step as Move, putting, taking, entry, present, put, without, can, apply}
use Rattle.steps.specs.Views.{rung}
use Rattle.steps.proofs.Entries.{and-true, ascending_distinct, member-entry}
use Rattle.steps.proofs.Tables.{length_new, length_old, length_without}
use Rattle.steps.proofs.Rungs.{best_is}
use Rattle.steps.proofs.Turns.{nth, after_every, possible_at}
use Rattle.steps.proofs.Classes.{ClassPassed, KnownAt, Classed, Classes, Within, class_needed, enough_classes}
use Rattle.steps.proofs.Classes as classes
use Rattle.rungs.specs.Rungs.{number_of, row}
use Rattle.rungs.proofs.Rows.{Small, row-hop, number_one}
use Rattle.checking.specs.declared.Class.{Class}
use Rattle.checking.specs.Marks.{fine_of, is_fine}
use Rattle.checking.specs.Checking.{puts, left_of, host_kept_of, counted_of, best_in}
use Rattle.plans.specs.declared.answers.Step.{Step}
use Rattle.plans.specs.Following.{step_at}
use Rattle.plans.specs.Judging.{step_of, Accepts}
use Rattle.plans.specs.Deciding.{MayFollow, table_after, prefix_of, For, LastLeft, class_answer, Passes, PutBy, Known, in_old, in_new, is_put, InClass, NoClass, Kept, Done}
use Rattle.plans.proofs.Marking.{fine_hop}
use Rattle.plans.proofs.Following.{Hopped, small-entry, best-small, best-number, start-block, put_is, nth_is, next-table, few, more, sound, tables, small_at, Tracks, entry-own, entry-other, last-number, none-left, last_take}
use Rattle.plans.proofs.Rules.{kept}

-- ---- Steps that keep their rule.

module _ (form : Form) (s : Step) (ok : kept form s ≡ true) where
  pub kept-short : s.len ≤ 32
  kept-short = leb-true s.len 32 (and-true (leb s.len 32) _ ok).0

  pub kept-hop : puts s.put ≡ true → s.hop < no_hop
  kept-hop e =
      let z = and-true (leb s.len 32) _ ok in
      let y = and-true (host_kept_of form.strict s.addr s.len) _ z.1 in
      let h : cond true (leb s.hop 63) true ≡ true = rw e at y.1 in
      omega (arith, leb-true s.hop 63 h)

-- So the checker may follow them.
pub may_follow : (form : Form) (t u : List ℕ) (ss : List Step) {m l : ℕ} → Bytes t → Bytes u → check_reply form false t ≡ gives m → check_reply form false u ≡ gives l
    → ((j : ℕ) → j < length ss → kept form (step_at ss j) ≡ true) → ((j : ℕ) → j < length ss → (step_at ss j).addr < 2 ^ 32) → MayFollow t u ss
may_follow form t u ss {m} {l} bt bu valid valid' k small =
    record {
      old_lawful = (accepted-table (records t) m form false t bt valid).0;
      new_lawful = (accepted-table (records u) l form false u bu valid').0;
      short = λ j lt. kept-short form (step_at ss j) (k j lt);
      hopped = λ j lt. kept-hop form (step_at ss j) (k j lt);
      small = small;
    }

-- ---- Where the prefix itself has a hop, that is the answer of its class.

there_is : (v : Answer) → Small v → not (eqb (number_of v) no_hop) ≡ routed v
there_is none s = refl
there_is (via h) s = ap not (ne_eqb h no_hop (λ e. omega arith))

own_class : (v : List Route) (a d : ℕ) {h : ℕ} → start_of (32 - d) a ≡ a → entry v a d ≡ via h → class_answer v a d ≡ via h
own_class v a d own e =
    best_is (rung 32 v a) d d (omega arith) (ap (λ (x : ℕ). entry v x d) own ∙ e) (λ l lt le. absurd (omega arith))

-- The number of a prefix among those of its address.
pub own-number : (v : List Route) (a d : ℕ) → d ≤ 32 → start_of (32 - d) a ≡ a → get_or (row (rung 32 v a) 0 33) d 0 ≡ number_of (entry v a d)
own-number v a d le own = row-hop (rung 32 v a) d le ∙ ap (λ (x : ℕ). number_of (entry v x d)) own

-- A block that starts at an address ends at one, or behind the last.
block-fits : (a d : ℕ) → d ≤ 32 → a < 2 ^ 32 → start_of (32 - d) a ≡ a → a + 2 ^ (32 - d) ≤ 2 ^ 32
block-fits a d le lt own =
    next-block (32 - d) a (2 ^ 32) (subst (Aligned (32 - d)) own (aligned-start (32 - d) a))
    (aligned_down (32 - d) 32 (2 ^ 32) (omega arith) (aligned-whole)) lt
  where
    aligned-whole : Aligned 32 (2 ^ 32)
    aligned-whole = (1, omega arith)

module _ {t u : List ℕ} {ss : List Step} (may : MayFollow t u ss) where
  abbrev n : ℕ
  n = length ss

  abbrev T : ℕ → List Route
  T k = table_after t ss k

  abbrev S : ℕ → Step
  S j = step_at ss j

  moves-length : length (map step_of ss) ≡ n
  moves-length = length-map ss step_of

  -- ---- The end.

  module _ (a d : ℕ) {v w : ℕ} (is : v ≡ number_of (entry (T n) a d)) (to : w ≡ number_of (entry (routes u) a d)) where
    lands : v ≡ w → entry (T n) a d ≡ entry (routes u) a d
    lands e = number_one (entry (T n) a d) (entry (routes u) a d) (small_at may n a d) (small-entry (more may) a d) (sym is ∙ e ∙ to)

    lost : (v ≡ w → ⊥) → Accepts t u ss → ⊥
    lost f h = f (is ∙ ap (λ (v : List Route). number_of (entry v a d)) (ap T (sym moves-length) ∙ h.arrives) ∙ sym to)

  every : (P : List Route → Type 0) → ((k : ℕ) → k ≤ n → P (T k)) → (k : ℕ) → P (T k)
  every P f = after_every P (map step_of ss) (routes t) (λ k le. f k (omega (arith, moves-length)))

  -- ---- A class that was followed to the end.

  module _ {x d : ℕ} {c : Class} (le : d ≤ 32) (own : start_of (32 - d) x ≡ x) (z : Tracks t u ss x d n c) {w : ℕ} (to : w ≡ get_or (row (rung 32 (routes u) x) 0 33) d 0) where
    own_is : c.own ≡ number_of (entry (T n) x d)
    own_is = z.own ∙ ap (λ (a : ℕ). number_of (entry (T n) a d)) own

    goal_is : w ≡ number_of (entry (routes u) x d)
    goal_is = to ∙ own-number (routes u) x d le own

    pub class_good : c.own ≡ w → c.good ≡ true → Kept t u ss x d
    class_good e g =
        record {
          passes = inl (every (λ v. (class_answer v x d ≡ class_answer (routes t) x d) ⊎ (class_answer v x d ≡ class_answer (routes u) x d)) (z.good g));
          lands = lands x d own_is goal_is e;
        }

    pub class_none : c.own ≡ w → NoClass t u ss x d → Kept t u ss x d
    class_none e f = record { passes = inr f; lands = lands x d own_is goal_is e }

    pub class_lost : (c.own ≡ w → ⊥) → Accepts t u ss → ⊥
    class_lost = lost x d own_is goal_is

    pub class_astray : c.good ≡ false → (y : ℕ) → y < 2 ^ 32 → start_of (32 - d) y ≡ x → InClass t u ss y d → Accepts t u ss → ⊥
    class_astray g y lt at f h =
        z.bad g (subst (λ (a : ℕ). ClassPassed 32 (routes t) (routes u) (map step_of ss) a d) at
        (class_needed 32 (routes t) (routes u) (map step_of ss) may.old_lawful.table may.new_lawful.table (sound may) 1024 h y d lt le within))
      where
        none-there : (v : List Route) (l : ℕ) → (routed (rung 32 v y l) ≡ true → ⊥) → rung 32 v y l ≡ none
        none-there v l k = go (rung 32 v y l) refl
          where
            go : (a : Answer) → rung 32 v y l ≡ a → rung 32 v y l ≡ none
            go none e = e
            go (via h) e = absurd (k (ap routed e))

        short_put : (j : ℕ) (r : Route) → j < n → step_of (S j) ≡ putting r → matches 32 r y ≡ true → Dec (d < r.len) → r.len ≤ d
        short_put j r lt e m (no ge) = omega arith
        short_put j r lt e m (yes gt) =
            let p = put_is (S j) r e in
            absurd (f r.len gt (let i : r.len ≡ (S j).len = p.2 in omega (arith, may.short j lt)) (is_put (record {
              step = j;
              before = lt;
              put = p.0;
              holds = eq-eqb _ _ (eqb-true _ _ (rw (p.1, p.2) at m) ∙ start-block (32 - (S j).len) (S j).addr);
              long = sym p.2;
            })))

        within : Within 32 (routes t) (routes u) (map step_of ss) y d
        within =
            record {
              of_old = λ l gt up. none-there (routes t) l (λ q. f l gt up (in_old q));
              of_puts = λ j r h e m. let i : j < n = omega (arith, moves-length) in short_put j r i (sym (nth_is ss j) ∙ e) m (dec_lt d r.len);
            }

  -- ---- A longer prefix, and the addresses of a class.

  -- What a table has above a length, and has not.
  pub table_bare : {v : List Route} → Hopped v → (y l : ℕ) → l ≤ 32 → get_or (row (rung 32 v y) 0 33) l 0 ≡ no_hop → routed (rung 32 v y l) ≡ true → ⊥
  table_bare {v} hops y l up q e =
      true≢false (sym e ∙ ap routed (number_one (rung 32 v y l) none (small-entry hops (start_of (32 - l) y) l) tt (sym (row-hop (rung 32 v y) l up) ∙ q)))

  pub table_has : (v : List Route) (y l : ℕ) → l ≤ 32 → (get_or (row (rung 32 v y) 0 33) l 0 ≡ no_hop → ⊥) → routed (rung 32 v y l) ≡ true
  table_has v y l up q = pick (rung 32 v y l) refl
    where
      pick : (a : Answer) → rung 32 v y l ≡ a → routed a ≡ true
      pick none e = absurd (q (row-hop (rung 32 v y) l up ∙ ap number_of e))
      pick (via h) e = refl

  -- None of the tables' and none that a step puts: no longer prefix is known.
  pub none_known : {y d : ℕ} → ((l : ℕ) → d < l → l ≤ 32 → get_or (row (rung 32 (routes t) y) 0 33) l 0 ≡ no_hop)
      → ((l : ℕ) → d < l → l ≤ 32 → get_or (row (rung 32 (routes u) y) 0 33) l 0 ≡ no_hop) → ((l : ℕ) → d < l → PutBy ss n y l → ⊥) → InClass t u ss y d
  none_known {y} f g h l gt up (in_old q) = table_bare (few may) y l up (f l gt up) q
  none_known {y} f g h l gt up (in_new q) = table_bare (more may) y l up (g l gt up) q
  none_known f g h l gt up (is_put q) = h l gt q

  pub longer_put : (y d : ℕ) → ((l : ℕ) → d < l → l ≤ 32 → get_or (row (rung 32 (routes t) y) 0 33) l 0 ≡ no_hop)
      → ((l : ℕ) → d < l → l ≤ 32 → get_or (row (rung 32 (routes u) y) 0 33) l 0 ≡ no_hop)
      → (r : Option ℕ) → MatchOption r ((l : ℕ) → d < l → PutBy ss n y l → ⊥) (λ l. (d < l) × (l ≤ 32) × PutBy ss n y l)
      → MatchOption r (InClass t u ss y d) (λ l. (d < l) × (l ≤ 32) × Known t u ss y l)
  longer_put y d f g None h = none_known f g h
  longer_put y d f g (Some l) z = (z.0, z.1, is_put z.2)

  -- What is known at an address is known at every address of that prefix.
  known_moves : {x y l : ℕ} → start_of (32 - l) x ≡ start_of (32 - l) y → Known t u ss y l → Known t u ss x l
  known_moves e (in_old q) = in_old (rw e q)
  known_moves e (in_new q) = in_new (rw e q)
  known_moves {x} {y} {l} e (is_put q) =
      is_put (record { step = q.step; before = q.before; put = q.put; long = q.long; holds = eq-eqb _ _ (blocks q.step q.long ∙ eqb-true _ _ q.holds) })
    where
      blocks : (j : ℕ) → (S j).len ≡ l → x / 2 ^ (32 - (S j).len) ≡ y / 2 ^ (32 - (S j).len)
      blocks j g = rw g (sym (start-block (32 - l) x) ∙ ap (λ (a : ℕ). a / 2 ^ (32 - l)) e ∙ start-block (32 - l) y)

  -- ---- The steps, one after the other.

  pub done_start : Done t u ss 0
  done_start = record { able = λ j lt. absurd (omega arith); small = λ j le. few_at j (omega arith); kept = λ j lt. absurd (omega arith) }
    where
      few_at : (j : ℕ) → j ≡ 0 → length (T j) ≤ 1024
      few_at j e = rw e may.old_lawful.few

  -- The step can be done, and leaves no more than 1,024 routes.
  pub done_next : {i : ℕ} → Done t u ss i → can (step_of (S i)) (T i) ≡ true → length (T (i + 1)) ≤ 1024
      → (entry (routes t) (prefix_of (S i)) (S i).len ≡ none → Kept t u ss (prefix_of (S i)) (S i).len) → Done t u ss (i + 1)
  done_next {i} d able fits f =
      record { able = below_more _ _ d.able able; small = λ j le. few_at j (dec_lt i j) le; kept = below_more _ _ d.kept f }
    where
      few_at : (j : ℕ) → Dec (i < j) → j ≤ i + 1 → length (T j) ≤ 1024
      few_at j (no g) le = d.small j (omega arith)
      few_at j (yes g) le = let q : j ≡ i + 1 = omega arith in rw q fits

  module _ {i : ℕ} (lt : i < n) {stands : ℕ} (is : stands ≡ number_of (entry (T i) (prefix_of (S i)) (S i).len)) where
    abbrev there : Bool
    there = not (eqb stands no_hop)

    there-present : there ≡ present (T i) (prefix_of (S i)) (S i).len
    there-present =
        ap (λ (k : ℕ). not (eqb k no_hop)) is ∙ there_is (entry (T i) (prefix_of (S i)) (S i).len) (small_at may i (prefix_of (S i)) (S i).len)

    -- The count is the number of routes after the step, or above 1,024 where it cannot be done.
    count-right : (k : ℕ) → k ≡ counted_of (puts (S i).put) there (length (T i)) → k ≤ 1024 → (length (T (suc i)) ≡ k) × (can (step_of (S i)) (T i) ≡ true)
    count-right k e le = go (puts (S i).put) refl there-present
      where
        r : Route
        r = route (prefix_of (S i)) (S i).len (S i).hop

        go : (b : Bool) → puts (S i).put ≡ b → there ≡ present (T i) (prefix_of (S i)) (S i).len → (length (T (suc i)) ≡ k) × (can (step_of (S i)) (T i) ≡ true)
        go true q f =
            let m : step_of (S i) ≡ putting r = rw q in
            let c : k ≡ cond there (length (T i)) (length (T i) + 1) = e ∙ ap (λ (b : Bool). counted_of b there (length (T i))) q in
            (ap length (next-table t ss i lt ∙ ap (λ (s : Move). apply s (T i)) m) ∙ put-length (present (T i) (prefix_of (S i)) (S i).len) refl (rw f at c), ap (λ (s : Move). can s (T i)) m)
          where
            put-length : (b : Bool) → present (T i) r.addr r.len ≡ b → k ≡ cond b (length (T i)) (length (T i) + 1) → length (put r (T i)) ≡ k
            put-length true y c = length_old (tables may i).order r y ∙ sym c
            put-length false y c = length_new (tables may i).order r y ∙ omega arith
        go false q f =
            let m : step_of (S i) ≡ taking (prefix_of (S i)) (S i).len = rw q in
            let c : k ≡ cond there (length (T i) - 1) 1025 = e ∙ ap (λ (b : Bool). counted_of b there (length (T i))) q in
            let y = take-length (present (T i) (prefix_of (S i)) (S i).len) refl (rw f at c) in
            (ap length (next-table t ss i lt ∙ ap (λ (s : Move). apply s (T i)) m) ∙ y.0, ap (λ (s : Move). can s (T i)) m ∙ y.1)
          where
            take-length : (b : Bool) → present (T i) (prefix_of (S i)) (S i).len ≡ b → k ≡ cond b (length (T i) - 1) 1025
                → (length (without (prefix_of (S i)) (S i).len (T i)) ≡ k) × (present (T i) (prefix_of (S i)) (S i).len ≡ true)
            take-length true y c = (omega (arith, length_without (tables may i).order (prefix_of (S i)) (S i).len y), y)
            take-length false y c = absurd (omega arith)

    -- Where the steps are hitless it is not above.
    count_small : (k : ℕ) → k ≡ counted_of (puts (S i).put) there (length (T i)) → Accepts t u ss → k ≤ 1024
    count_small k e h = go (dec_lt 1024 k)
      where
        can_it : can (step_of (S i)) (T i) ≡ true
        can_it = ap (λ (s : Move). can s (T i)) (sym (nth_is ss i)) ∙ possible_at (map step_of ss) (routes t) h.possible i (omega (arith, length-map ss step_of))

        within : (b : Bool) → puts (S i).put ≡ b → there ≡ present (T i) (prefix_of (S i)) (S i).len → k ≤ 1024
        within true q f =
            let c : k ≡ cond there (length (T i)) (length (T i) + 1) = e ∙ ap (λ (b : Bool). counted_of b there (length (T i))) q in
            let m : step_of (S i) ≡ putting (route (prefix_of (S i)) (S i).len (S i).hop) = rw q in
            put_small (present (T i) (prefix_of (S i)) (S i).len) refl (rw f at c) (ap length (next-table t ss i lt ∙ ap (λ (s : Move). apply s (T i)) m))
          where
            r : Route
            r = route (prefix_of (S i)) (S i).len (S i).hop

            put_small : (b : Bool) → present (T i) r.addr r.len ≡ b → k ≡ cond b (length (T i)) (length (T i) + 1) → length (T (suc i)) ≡ length (put r (T i)) → k ≤ 1024
            put_small true y c g = omega (arith, h.small i)
            put_small false y c g = omega (arith, h.small (suc i), length_new (tables may i).order r y)
        within false q f =
            let c : k ≡ cond there (length (T i) - 1) 1025 = e ∙ ap (λ (b : Bool). counted_of b there (length (T i))) q in
            let m : step_of (S i) ≡ taking (prefix_of (S i)) (S i).len = rw q in
            let y : present (T i) (prefix_of (S i)) (S i).len ≡ true = sym (ap (λ (s : Move). can s (T i)) m) ∙ can_it in
            let d : k ≡ length (T i) - 1 = c ∙ ap (λ (b : Bool). cond b (length (T i) - 1) 1025) (f ∙ y) in
            omega (arith, h.small i)

        go : Dec (1024 < k) → k ≤ 1024
        go (no ge) = omega arith
        go (yes gt) = within (puts (S i).put) refl there-present

  -- What stood at the prefix of step i before it: what the last step for it left, or what the installed table has.
  pub stood_is : {i : ℕ} → i ≤ n → (x d : ℕ) (r : Option ℕ) → LastLeft ss x d i r → unwrap_or r (number_of (entry (routes t) x d)) ≡ number_of (entry (T i) x d)
  stood_is le x d None z = sym (ap number_of (none-left t ss x d le z))
  stood_is le x d (Some v) z = last-number t ss x d le z

  -- A prefix that a step is for, that the installed table lacks and that was not kept as the step's own, was an earlier step's.
  pub kept_before : {i : ℕ} → i < n → Done t u ss i → can (step_of (S i)) (T i) ≡ true → (r : Option ℕ) → LastLeft ss (prefix_of (S i)) (S i).len i r
      → (puts (S i).put ≡ true → r ≡ None → present (T i) (prefix_of (S i)) (S i).len ≡ false → Kept t u ss (prefix_of (S i)) (S i).len)
      → entry (routes t) (prefix_of (S i)) (S i).len ≡ none → Kept t u ss (prefix_of (S i)) (S i).len
  kept_before {i} lt d can_it (Some v) z f l =
      let c = d.kept z.step z.before (ap₂ (entry (routes t)) z.own.0 z.own.1 ∙ l) in
      record { passes = rw (sym z.own.0, sym z.own.1) c.passes; lands = rw (sym z.own.0, sym z.own.1) c.lands }
  kept_before {i} lt d can_it None z f l = go (puts (S i).put) refl
    where
      gone : entry (T i) (prefix_of (S i)) (S i).len ≡ none
      gone = none-left t ss (prefix_of (S i)) (S i).len (omega arith) z ∙ l

      go : (b : Bool) → puts (S i).put ≡ b → Kept t u ss (prefix_of (S i)) (S i).len
      go true h = f h refl (ap routed gone)
      go false h =
          let m : step_of (S i) ≡ taking (prefix_of (S i)) (S i).len = rw h in
          absurd (true≢false (sym can_it ∙ ap (λ (s : Move). can s (T i)) m ∙ ap routed gone))

  -- Step i, where this stands at its prefix before it.
  module _ {i : ℕ} (lt : i < n) (d : Done t u ss i) {x : ℕ} (starts : x ≡ prefix_of (S i)) (r : Option ℕ) (left : LastLeft (take i ss) x (S i).len (length (take i ss)) r)
      {stands count : ℕ} (is : stands ≡ unwrap_or r (number_of (entry (routes t) x (S i).len))) (counts : count ≡ length (T i)) where
    last : LastLeft ss (prefix_of (S i)) (S i).len i r
    last =
        let le : i ≤ n = omega arith in
        last_take ss (prefix_of (S i)) (S i).len i le r (rw (starts, length-take-le i ss le) at left)

    stands_is : stands ≡ number_of (entry (T i) (prefix_of (S i)) (S i).len)
    stands_is = (rw starts at is) ∙ stood_is (omega arith) (prefix_of (S i)) (S i).len r last

    pub step_on : {k : ℕ} → k ≡ counted_of (puts (S i).put) (not (eqb stands no_hop)) count → k ≤ 1024
        → (puts (S i).put ≡ true → r ≡ None → stands ≡ no_hop → Kept t u ss x (S i).len)
        → Done t u ss (i + 1) × (k ≡ length (T (i + 1)))
    step_on {k} e le f =
        let s : suc i ≡ i + 1 = omega arith in
        let z = count-right lt stands_is k (rw counts at e) le in
        let long : length (T (i + 1)) ≡ k = rw s at z.0 in
        (done_next d z.1 (omega arith) (kept_before lt d z.1 r last (λ p q g. rw starts at (f p q (stands_is ∙ gone (entry (T i) (prefix_of (S i)) (S i).len) g)))), sym long)
      where
        gone : (v : Answer) → routed v ≡ false → number_of v ≡ no_hop
        gone none g = refl
        gone (via h) g = absurd (true≢false g)

    pub step_lost : 1024 < counted_of (puts (S i).put) (not (eqb stands no_hop)) count → Accepts t u ss → ⊥
    step_lost gt h =
        let e : count ≡ length (T i) = counts in
        let le = count_small lt stands_is _ refl h in
        let g = rw e at gt in
        absurd (omega arith)

  -- ---- The answer.

  known_at : {y l : ℕ} → Known t u ss y l → KnownAt 32 (routes t) (routes u) (map step_of ss) y l
  known_at (in_old q) = classes.in_old q
  known_at (in_new q) = classes.in_new q
  known_at {y} {l} (is_put z) =
      classes.is_put (record {
        step = z.step;
        route = route (prefix_of (S z.step)) (S z.step).len (S z.step).hop;
        inside = omega (arith, z.before, moves-length);
        puts = nth_is ss z.step ∙ ap (λ (b : Bool). cond b (putting (route (prefix_of (S z.step)) (S z.step).len (S z.step).hop)) (taking (prefix_of (S z.step)) (S z.step).len)) z.put;
        start = ap (λ (q : ℕ). q * 2 ^ (32 - (S z.step).len)) (sym (eqb-true _ _ z.holds)) ∙ ap (λ (m : ℕ). start_of (32 - m) y) z.long;
        long = z.long;
      })

  classed : (r : Route) → Kept t u ss r.addr r.len → Classed 32 (routes t) (routes u) (map step_of ss) r
  classed r z = record { passes = go z.passes; lands = ap (λ (k : ℕ). entry (T k) r.addr r.len) (moves-length) ∙ z.lands }
    where
      go : Passes t u ss r.addr r.len ⊎ NoClass t u ss r.addr r.len
          → ClassPassed 32 (routes t) (routes u) (map step_of ss) r.addr r.len ⊎ classes.NoClass 32 (routes t) (routes u) (map step_of ss) r.addr r.len
      go (inl p) = inl p
      go (inr f) = inr (λ y lt e. let q = f y lt e in (q.0, q.1, q.2, known_at q.3))

  -- All is known: yes exactly if the number of routes is the new table's.
  pub hitless : Done t u ss n → length (T n) ≡ records u → ((i : ℕ) → i < records t → Kept t u ss (route_at t i).addr (route_at t i).len) → Accepts t u ss
  hitless d e rs =
      enough_classes 32 (routes t) (routes u) (map step_of ss) may.old_lawful.table may.new_lawful.table (sound may) 1024 all_classed step_known
      (after_every (λ v. length v ≤ 1024) (map step_of ss) (routes t) (λ k le. d.small k (omega (arith, moves-length))))
      (ap (λ (k : ℕ). length (T k)) (moves-length) ∙ e ∙ sym (length-routes u))
    where
      all_classed : All (Classed 32 (routes t) (routes u) (map step_of ss)) (routes t)
      all_classed =
          subst (All (Classed 32 (routes t) (routes u) (map step_of ss))) (sym (run_numbered 8 t 0 (records t)) ∙ run-whole 8 t)
          (all_numbered (route_at t) 0 (records t) (λ i le lt. classed (route_at t i) (rs i lt)))

      step_known : (j : ℕ) → j < length (map step_of ss) → Classes 32 (routes t) (routes u) (map step_of ss) (nth (map step_of ss) j) (T j)
      step_known j lt =
          let h : j < n = omega (arith, moves-length) in
          rw (nth_is ss j) (record { able = d.able j h; classed = λ r e l. moved r (put_is (S j) r e) (λ q. d.kept j h q) l })
        where
          moved : (r : Route) → (puts (S j).put ≡ true) × (r.addr ≡ prefix_of (S j)) × (r.len ≡ (S j).len) × (r.hop ≡ (S j).hop)
              → (entry (routes t) (prefix_of (S j)) (S j).len ≡ none → Kept t u ss (prefix_of (S j)) (S j).len) → entry (routes t) r.addr r.len ≡ none
              → Classed 32 (routes t) (routes u) (map step_of ss) r
          moved r w f l = classed r (rw (w.1, w.2) (f (ap₂ (entry (routes t)) (sym w.1) (sym w.2) ∙ l)))

  pub count_needed : (length (T n) ≡ records u → ⊥) → Accepts t u ss → ⊥
  count_needed f h = f (ap (λ (k : ℕ). length (T k)) (sym (moves-length)) ∙ ap length h.arrives ∙ length-routes u)

-- ---- A longer prefix that a step puts.

module _ (ss : List Step) (y d k : ℕ) where
  pub put-more : {l : ℕ} → PutBy ss k y l → PutBy ss (k + 1) y l
  put-more z = record { step = z.step; before = omega (arith, z.before); put = z.put; holds = z.holds; long = z.long }

  pub put_here : puts (step_at ss k).put ≡ true → agree 32 (step_at ss k).len y (step_at ss k).addr ≡ true → PutBy ss (k + 1) y (step_at ss k).len
  put_here p h = record { step = k; before = omega arith; put = p; holds = h; long = refl }

  pub none-more : ((l : ℕ) → d < l → PutBy ss k y l → ⊥)
      → (puts (step_at ss k).put ≡ true → d < (step_at ss k).len → agree 32 (step_at ss k).len y (step_at ss k).addr ≡ true → ⊥)
      → (l : ℕ) → d < l → PutBy ss (k + 1) y l → ⊥
  none-more f n l gt z = go (dec_lt z.step k)
    where
      go : Dec (z.step < k) → ⊥
      go (yes h) = f l gt (record { step = z.step; before = h; put = z.put; holds = z.holds; long = z.long })
      go (no h) =
          let e : z.step ≡ k = omega (arith, z.before) in
          let i : (step_at ss k).len ≡ l = rw e at z.long in
          n (rw e at z.put) (omega arith) (rw e at z.holds)

  -- The search among one step more, where it has found nothing, or this length.
  abbrev pub Found : ℕ → Option ℕ → Type 0
  Found i r = MatchOption r ((l : ℕ) → d < l → PutBy ss i y l → ⊥) (λ l. (d < l) × (l ≤ 32) × PutBy ss i y l)

  pub found-here : d < (step_at ss k).len → (step_at ss k).len ≤ 32 → puts (step_at ss k).put ≡ true
      → agree 32 (step_at ss k).len y (step_at ss k).addr ≡ true → Found (k + 1) (Some (step_at ss k).len)
  found-here gt up p h = (gt, up, put_here p h)

  pub found-other : (r : Option ℕ)
      → (r ≡ None → puts (step_at ss k).put ≡ true → d < (step_at ss k).len → agree 32 (step_at ss k).len y (step_at ss k).addr ≡ true → ⊥) → Found k r → Found (k + 1) r
  found-other None n f = none-more f (n refl)
  found-other (Some l) n z = (z.0, z.1, put-more z.2)

-- Each address of the prefix below y is held by a longer one.
abbrev pub Covered : List ℕ → List ℕ → List Step → ℕ → ℕ → ℕ → Type 0
Covered t u ss a d y = (x : ℕ) → x < y → start_of (32 - d) x ≡ a → (l : ℕ) × (d < l) × (l ≤ 32) × Known t u ss x l

module _ {t u : List ℕ} {ss : List Step} (may : MayFollow t u ss) {a d : ℕ} (le : d ≤ 32) (small : a < 2 ^ 32) (own : start_of (32 - d) a ≡ a) where
  pub end_fits : a + 2 ^ (32 - d) ≤ 2 ^ 32
  end_fits = block-fits a d le small own

  -- The addresses behind the start and before the end are those of the prefix.
  pub in_prefix : (y : ℕ) → a ≤ y → y < a + 2 ^ (32 - d) → start_of (32 - d) y ≡ a
  in_prefix y ge lt = start_is (32 - d) a y (subst (Aligned (32 - d)) own (aligned-start (32 - d) a)) (ge, lt)

  -- Up to the end of the longer prefix.
  pub covered_next : {y l : ℕ} → d < l → l ≤ 32 → Known t u ss y l → Covered t u ss a d y → Covered t u ss a d (start_of (32 - l) y + 2 ^ (32 - l))
  covered_next {y} {l} gt up known cov x h q = pick (dec_lt x y)
    where
      pick : Dec (x < y) → (r : ℕ) × (d < r) × (r ≤ 32) × Known t u ss x r
      pick (yes g) = cov x g q
      pick (no g) =
          let z = (in_start (32 - l) y).0 in
          (l, gt, up, known_moves may (start_is (32 - l) (start_of (32 - l) y) x (aligned-start (32 - l) y) (omega arith, h)) known)

-- ---- A record's prefix by itself.

-- The prefix has the number `own` after k steps, and has had an old or a new answer of its class of its own after each of them.
pub record OwnAt (t : List ℕ) (ss : List Step) (a d fine k own : ℕ) : Type 0 where
  pub now : own ≡ number_of (entry (table_after t ss k) a d)
  pub good : (j : ℕ) → j ≤ k → is_fine fine (number_of (entry (table_after t ss j) a d)) ≡ true

module _ {t u : List ℕ} {ss : List Step} (may : MayFollow t u ss) where
  -- What is known of record k's prefix.
  pub prefix_facts : (k : ℕ) → k < records t → {x l h : ℕ} → x ≡ (route_at t k).addr → l ≡ (route_at t k).len → h ≡ (route_at t k).hop
      → (l ≤ 32) × (start_of (32 - l) x ≡ x) × (entry (routes t) x l ≡ via h)
  prefix_facts k lt a d e =
      let v = record_within (whole_run 8 32 may.old_lawful.table) k (omega arith) lt in
      let p = pow_pos (32 - (route_at t k).len) in
      rw (a, d, e) (
        v.short,
        start_is (32 - (route_at t k).len) (route_at t k).addr (route_at t k).addr v.aligned (omega arith, omega arith),
        member-entry (ascending_distinct may.old_lawful.table.order)
            (subst (Member (route_at t k)) (sym (run_numbered 8 t 0 (records t)) ∙ run-whole 8 t) (member_numbered (route_at t) 0 (records t) k (omega arith) lt)),
      )

  module _ {a d hop : ℕ} (le : d ≤ 32) (own : start_of (32 - d) a ≡ a) (has : entry (routes t) a d ≡ via hop) where
    hop_small : hop < no_hop
    hop_small = subst (λ (v : Answer). Small v) has (small-entry (few may) a d)

    pub own_start : (to : ℕ) → OwnAt t ss a d (fine_of hop to) 0 hop
    own_start to =
        record {
          now = sym (ap number_of has);
          good = λ j le. let e : j ≡ 0 = omega arith in
              rw (e, has) (fine_hop hop to hop hop_small ∙ ap (λ (b : Bool). b || eqb hop to) (eq-eqb hop hop refl));
        }

    -- In the end.
    pub own_kept : {own w : ℕ} → OwnAt t ss a d (fine_of hop (best_in (row (rung 32 (routes u) a) 0 33) d)) (length ss) own
        → w ≡ get_or (row (rung 32 (routes u) a) 0 33) d 0 → own ≡ w → Kept t u ss a d
    own_kept {own = mine} {w} z to e =
        record {
          passes = inl (every may (λ v. (class_answer v a d ≡ class_answer (routes t) a d) ⊎ (class_answer v a d ≡ class_answer (routes u) a d)) (λ j le. go j (z.good j le)));
          lands = lands may a d z.now (to ∙ own-number (routes u) a d le own) e;
        }
      where
        goal : ℕ
        goal = best_in (row (rung 32 (routes u) a) 0 33) d

        was_is : class_answer (routes t) a d ≡ via hop
        was_is = own_class (routes t) a d own has

        go : (j : ℕ) → is_fine (fine_of hop goal) (number_of (entry (table_after t ss j) a d)) ≡ true
            → (class_answer (table_after t ss j) a d ≡ class_answer (routes t) a d) ⊎ (class_answer (table_after t ss j) a d ≡ class_answer (routes u) a d)
        go j y = by (entry (table_after t ss j) a d) refl y
          where
            by : (v : Answer) → entry (table_after t ss j) a d ≡ v → is_fine (fine_of hop goal) (number_of v) ≡ true
                → (class_answer (table_after t ss j) a d ≡ class_answer (routes t) a d) ⊎ (class_answer (table_after t ss j) a d ≡ class_answer (routes u) a d)
            by none q y = absurd (true≢false (sym y))
            by (via i) q y = pick (eqb i hop) refl (sym (fine_hop hop goal i small) ∙ y)
              where
                small : i < no_hop
                small = subst (λ (v : Answer). Small v) q (small_at may j a d)

                pick : (b : Bool) → eqb i hop ≡ b → (b || eqb i goal) ≡ true
                    → (class_answer (table_after t ss j) a d ≡ class_answer (routes t) a d) ⊎ (class_answer (table_after t ss j) a d ≡ class_answer (routes u) a d)
                pick true o w = inl (own_class (table_after t ss j) a d own q ∙ ap via (eqb-true i hop o) ∙ sym was_is)
                pick false o w =
                    inr (own_class (table_after t ss j) a d own q ∙ number_one (via i) (class_answer (routes u) a d) small
                    (best-small (rung 32 (routes u) a) d (λ l. small-entry (more may) (start_of (32 - l) a) l)) (eqb-true i goal w ∙ best-number (more may) a d le))

-- One step more.
module _ (t : List ℕ) (ss : List Step) {a d fine i own : ℕ} (lt : i < length ss) (z : OwnAt t ss a d fine i own) where
  pub own-other : (For ss a d i → ⊥) → OwnAt t ss a d fine (i + 1) own
  own-other f =
      let s : suc i ≡ i + 1 = omega arith in
      let e : entry (table_after t ss (i + 1)) a d ≡ entry (table_after t ss i) a d = rw s at (entry-other t ss a d i lt f) in
      record { now = z.now ∙ ap number_of (sym e); good = λ j le. go j e (dec_lt i j) le }
    where
      go : (j : ℕ) → entry (table_after t ss (i + 1)) a d ≡ entry (table_after t ss i) a d → Dec (i < j) → j ≤ i + 1
          → is_fine fine (number_of (entry (table_after t ss j) a d)) ≡ true
      go j e (no g) le = z.good j (omega arith)
      go j e (yes g) le = let q : j ≡ i + 1 = omega arith in rw (q, e) (z.good i (omega arith))

  pub own-own : {now : ℕ} → For ss a d i → now ≡ left_of (puts (step_at ss i).put) (step_at ss i).hop → is_fine fine now ≡ true → OwnAt t ss a d fine (i + 1) now
  own-own {now} f is good =
      let s : suc i ≡ i + 1 = omega arith in
      let e : left_of (puts (step_at ss i).put) (step_at ss i).hop ≡ number_of (entry (table_after t ss (i + 1)) a d) = rw s at (entry-own t ss a d i lt f) in
      record { now = is ∙ e; good = λ j le. go j (is ∙ e) (dec_lt i j) le }
    where
      go : (j : ℕ) → now ≡ number_of (entry (table_after t ss (i + 1)) a d) → Dec (i < j) → j ≤ i + 1
          → is_fine fine (number_of (entry (table_after t ss j) a d)) ≡ true
      go j e (no g) le = z.good j (omega arith)
      go j e (yes g) le = let q : j ≡ i + 1 = omega arith in rw (q, sym e) good
