-- `matching::longest_in` goes from the last record to the first. The loop's invariant: the best so far is the longest match among the
-- routes from record i on. Assumes nothing.
use Prim.Native.Nat.{ℕ}
use mathlib.Core.Path.{◌≡◌}
use Rattle.theory.specs.Routes.{lookup}
use Rattle.words.specs.Keys.{key_of}
use Rattle.lookup.specs.Calls.{match_of}
use Rattle.records.specs.Sized.{width_in}
use Rattle.records.proofs.SizedReading.{rest_in}
use Rattle.lookup.proofs.matching.longest_in.Given as goal

abbrev pub invariant-loop-i : goal.invariant-loop-i
invariant-loop-i l = (x : ℕ) → l.key ≡ key_of (width_in l.size) x → match_of l.best ≡ lookup (width_in l.size) (rest_in l.size l.table l.i) x
