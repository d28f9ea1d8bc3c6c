-- A table seen by its entries: what a step makes of one, and the longest match of an address by the lengths of the prefixes that hold it.
use Rattle.std.specs.Prelude.{ℕ, zero, suc, ◌-◌, Bool, true, false, cond, List, eqb}
use Rattle.theory.specs.Results.{start_of}
use Rattle.theory.specs.Routes.{Route, Answer, none, via}
use Rattle.positions.specs.Runs.{or_else}
use Rattle.steps.specs.Steps.{Step, putting, taking, same, entry}

-- What stands at the prefix (a, l) after a step, where e stood there before it.
abbrev pub stepped : Step → ℕ → ℕ → Answer → Answer
stepped (putting r) a l e = cond (same r.addr r.len a l) (via r.hop) e
stepped (taking b m) a l e = cond (same b m a l) none e

-- Are the two answers one?
abbrev pub same_answer : Answer → Answer → Bool
same_answer none none = true
same_answer none (via i) = false
same_answer (via h) none = false
same_answer (via h) (via i) = eqb h i

-- What a table has at the prefix of length l that holds x.
abbrev pub rung : ℕ → List Route → ℕ → ℕ → Answer
rung w t x l = entry t (start_of (w - l) x) l

-- The answer at the greatest length up to n that has one.
abbrev pub best : (ℕ → Answer) → ℕ → Answer
best f zero = f zero
best f (suc n) = or_else (f (suc n)) (best f n)
