-- The modes of a rewrite by their numbers, and what an engine asks before it looks at the table.
use Rattle.std.specs.Prelude.{ℕ, ◌≡◌, Bool, true, false, not, ◌||◌, ◌&&◌, ◌⊎◌, List, eqb, leb, Result, MatchResult}
use Rattle.theory.specs.Ranks.{is_ranking}
use Rattle.positions.specs.Runs.{no_hop}
use Rattle.refusals.specs.declared.Cause.{Cause}
use Rattle.refusals.specs.declared.Cause.TheVariants as cause
use Rattle.calls.specs.declared.engine.Mode.{Mode}
use Rattle.calls.specs.declared.engine.Mode.TheVariants as mode

-- The number of a mode.
abbrev pub mode_number : Mode → ℕ
mode_number mode.Set = 1
mode_number mode.ConsistentMap = 3
mode_number mode.MapDrop = 4
mode_number mode.MapFill = 5

-- The rules of a rewrite that speak of no table: 1, 2 and 15.
abbrev pub mode_known : ℕ → Bool
mode_known mode = leb 1 mode && leb mode 5

abbrev pub default_known : ℕ → ℕ → Bool
default_known mode default = not (eqb mode 5) || leb default 63

abbrev pub ranks_known : ℕ → List ℕ → Bool
ranks_known mode ranks = not (leb 4 mode) || is_ranking 64 ranks

-- A number names a mode, or it is the retired mode's or none.
abbrev pub Names : ℕ → Result Mode Cause → Type 0
Names number r =
    MatchResult r (λ m. mode_number m ≡ number)
    (λ c. ((c ≡ cause.RetiredMode) × (number ≡ 2)) ⊎ ((c ≡ cause.Mode) × (mode_known number ≡ false)))

-- The default is known, and this fills what has no route: the default in mode 5, none in the others.
abbrev pub FilledBy : ℕ → ℕ → Result ℕ Cause → Type 0
FilledBy mode default r =
    MatchResult r (λ fill. (default_known mode default ≡ true) × (mode ≡ 5 → fill ≡ default) × ((mode ≡ 5 → ⊥) → fill ≡ no_hop))
    (λ c. (c ≡ cause.Default) × (default_known mode default ≡ false))

-- The ranks may be lent, or not.
abbrev pub RankedBy : ℕ → List ℕ → Result (Unit {0}) Cause → Type 0
RankedBy mode ranks r = MatchResult r (λ _. ranks_known mode ranks ≡ true) (λ c. (c ≡ cause.Ranks) × (ranks_known mode ranks ≡ false))
