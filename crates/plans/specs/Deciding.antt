-- What the checker finds out of the steps one after the other, of a prefix, and of the class of a prefix: the addresses that no longer prefix holds, of the
-- tables' and those that a step puts. Tables are records of 8 bytes, addresses have 32 bits.
use Rattle.std.specs.Prelude.{ℕ, ◌-◌, ◌^◌, ◌≤◌, ◌<◌, ◌≡◌, Bool, true, false, ◌&&◌, List, map, eqb, ◌⊎◌, length, Option, MatchOption}
use Rattle.theory.specs.Results.{start_of}
use Rattle.theory.specs.Routes.{Route, Answer, none}
use Rattle.theory.specs.Shapes.{routed}
use Rattle.words.specs.Prefix.{agree}
use Rattle.positions.specs.Runs.{no_hop}
use Rattle.records.specs.Wire.{routes}
use Rattle.table.specs.Conditions.{Lawful}
use Rattle.steps.specs.Steps.{entry, can, after}
use Rattle.steps.specs.Views.{rung, best}
use Rattle.checking.specs.Checking.{puts, left_of}
use Rattle.plans.specs.declared.answers.Step.{Step}
use Rattle.plans.specs.Following.{step_at}
use Rattle.plans.specs.Judging.{step_of}

-- What this asks: two accepted tables, and steps that keep their rule.
pub record MayFollow (t u : List ℕ) (ss : List Step) : Type 0 where
  pub old_lawful : Lawful false (routes t)
  pub new_lawful : Lawful false (routes u)
  pub short : (j : ℕ) → j < length ss → (step_at ss j).len ≤ 32
  pub hopped : (j : ℕ) → j < length ss → puts (step_at ss j).put ≡ true → (step_at ss j).hop < no_hop
  pub small : (j : ℕ) → j < length ss → (step_at ss j).addr < 2 ^ 32

-- Are two routes one?
abbrev pub same_route : Route → Route → Bool
same_route r s = (eqb r.addr s.addr && eqb r.len s.len) && eqb r.hop s.hop

-- The table after the first k steps.
abbrev pub table_after : List ℕ → List Step → ℕ → List Route
table_after t ss k = after k (map step_of ss) (routes t)

-- ---- A prefix.

-- Where the prefix of a step starts.
abbrev pub prefix_of : Step → ℕ
prefix_of s = start_of (32 - s.len) s.addr

-- Step j is for the prefix of address x and length d.
abbrev pub For : List Step → ℕ → ℕ → ℕ → Type 0
For ss x d j = (prefix_of (step_at ss j) ≡ x) × ((step_at ss j).len ≡ d)

-- v is what the last of the first k steps for the prefix left there.
pub record LeftAt (ss : List Step) (x d k v : ℕ) : Type 0 where
  pub step : ℕ
  pub before : step < k
  pub own : For ss x d step
  pub last : (i : ℕ) → step < i → i < k → For ss x d i → ⊥
  pub is : v ≡ left_of (puts (step_at ss step).put) (step_at ss step).hop

-- What the last of the first k steps for the prefix left there; None where none is for it.
abbrev pub LastLeft : List Step → ℕ → ℕ → ℕ → Option ℕ → Type 0
LastLeft ss x d k r = MatchOption r ((j : ℕ) → j < k → For ss x d j → ⊥) (λ v. LeftAt ss x d k v)

-- ---- A class.

-- What a table says of the class of the prefix of address a and length d.
abbrev pub class_answer : List Route → ℕ → ℕ → Answer
class_answer v a d = best (rung 32 v a) d

-- The class has its old or its new answer after any number of steps.
abbrev pub Passes : List ℕ → List ℕ → List Step → ℕ → ℕ → Type 0
Passes t u ss a d =
    (k : ℕ) → (class_answer (table_after t ss k) a d ≡ class_answer (routes t) a d) ⊎ (class_answer (table_after t ss k) a d ≡ class_answer (routes u) a d)

-- One of the first k steps puts the prefix of length l that holds y.
pub record PutBy (ss : List Step) (k y l : ℕ) : Type 0 where
  pub step : ℕ
  pub before : step < k
  pub put : puts (step_at ss step).put ≡ true
  pub holds : agree 32 (step_at ss step).len y (step_at ss step).addr ≡ true
  pub long : (step_at ss step).len ≡ l

-- The prefix of length l that holds y is the installed table's, or the new one's, or a step puts it.
pub data Known (t u : List ℕ) (ss : List Step) (y l : ℕ) : Type 0 where
  in_old : routed (rung 32 (routes t) y l) ≡ true → Known t u ss y l
  in_new : routed (rung 32 (routes u) y l) ≡ true → Known t u ss y l
  is_put : PutBy ss (length ss) y l → Known t u ss y l

-- No such prefix above length d holds y: it is in the class of its prefix of length d.
abbrev pub InClass : List ℕ → List ℕ → List Step → ℕ → ℕ → Type 0
InClass t u ss y d = (l : ℕ) → d < l → l ≤ 32 → Known t u ss y l → ⊥

-- Every address of the prefix is held by a longer one.
abbrev pub NoClass : List ℕ → List ℕ → List Step → ℕ → ℕ → Type 0
NoClass t u ss a d = (y : ℕ) → y < 2 ^ 32 → start_of (32 - d) y ≡ a → (l : ℕ) × (d < l) × (l ≤ 32) × Known t u ss y l

-- The prefix has in the end what the new table has there, and its class passes or is empty.
pub record Kept (t u : List ℕ) (ss : List Step) (a d : ℕ) : Type 0 where
  pub passes : Passes t u ss a d ⊎ NoClass t u ss a d
  pub lands : entry (table_after t ss (length ss)) a d ≡ entry (routes u) a d

-- ---- The steps.

-- The first i steps are done with: each can be done, there are never too many routes, and a prefix of theirs that the installed table lacks is kept.
pub record Done (t u : List ℕ) (ss : List Step) (i : ℕ) : Type 0 where
  pub able : (j : ℕ) → j < i → can (step_of (step_at ss j)) (table_after t ss j) ≡ true
  pub small : (j : ℕ) → j ≤ i → length (table_after t ss j) ≤ 1024
  pub kept : (j : ℕ) → j < i → entry (routes t) (prefix_of (step_at ss j)) (step_at ss j).len ≡ none → Kept t u ss (prefix_of (step_at ss j)) (step_at ss j).len
