-- Mode 2, which is retired: what it wrote for a set. Its tables are ordinary set tables and are still read; proofs/Retired has the one theorem about them.
use Rattle.std.specs.Prelude.{ℕ, List}
use Rattle.theory.specs.Results.{part, nearest, is_miss}
use Rattle.theory.specs.Routes.{Route}

-- The members with no member above them.
abbrev pub consistent_set : ℕ → List Route → List Route
consistent_set w t = part (λ r. is_miss (nearest w t r)) t
