-- The end of any engine's rewrite: the hop that fills, and what is answered and written once only the output's room is still to be judged.
use Rattle.std.specs.Prelude.{ℕ, ◌*◌, ◌<◌, ◌≡◌, List, [], ◌∷◌, leb, length}
use Rattle.theory.specs.Routes.{Route}
use Rattle.refusals.specs.Rules.{rule, Reply, judge}
use Rattle.records.specs.Sized.{records_in}
use Rattle.positions.specs.Runs.{no_hop}
use Rattle.calls.specs.Rewriting.{Outcome, result_of, written_of, output_of, rewritten_says}

-- The hop that fills what has no route: a hop in mode 5, none in the others.
pub record Fills (mode fill : ℕ) : Type 0 where
  pub hop : mode ≡ 5 → fill < no_hop
  pub none : (mode ≡ 5 → ⊥) → fill ≡ no_hop

-- The end of a rewrite of a table that keeps the rules: only the output's room is still to be judged, by rule 11.
abbrev pub last_reply : ℕ → List ℕ → ℕ → ℕ → List ℕ → ℕ → Reply (List Route)
last_reply size t mode fill ranks room = judge (rule 11 0 (leb (size * length (result_of size t mode fill ranks)) room) ∷ []) (result_of size t mode fill ranks)

pub record Finished (size : ℕ) (t : List ℕ) (mode fill : ℕ) (ranks o : List ℕ) (r : Outcome) (o' : List ℕ) : Type 0 where
  pub answer : rewritten_says r ≡ written_of (records_in size t) (last_reply size t mode fill ranks (length o))
  pub output : o' ≡ output_of size o (last_reply size t mode fill ranks (length o))
