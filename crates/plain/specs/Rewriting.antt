-- The rules of the second engine. Its statement is `RewritesBy` of the crate calls, by these rules.
use Rattle.std.specs.Prelude.{ℕ, ◌*◌, ◌≡◌, Bool, not, ◌||◌, List, [], ◌∷◌, ◌++◌, eqb, leb, length, true, false, ◌⊎◌, Result, MatchResult}
use Rattle.theory.specs.Ranks.{is_ranking}
use Rattle.theory.specs.Routes.{All}
use Rattle.refusals.specs.declared.Cause.{Cause}
use Rattle.refusals.specs.declared.Cause.TheVariants.{RetiredMode, Mode as NoMode}
use Rattle.refusals.specs.Rules.{Rule, rule}
use Rattle.records.specs.Sized.{routes_in}
use Rattle.records.specs.declared.Form.{Form}
use Rattle.records.specs.Forms.{size_of}
use Rattle.table.specs.TableRules.{form_rules}
use Rattle.calls.specs.declared.engine.Mode.{Mode}
use Rattle.calls.specs.Modes.{mode_number}
use Rattle.calls.specs.Rewriting.{result_of, takes_set}

-- Is it a mode of this engine?
abbrev pub has_mode : ℕ → Bool
has_mode mode = eqb mode 1 || (eqb mode 4 || eqb mode 5)

-- Is it one, or the retired mode?
abbrev pub is_known : ℕ → Bool
is_known mode = eqb mode 1 || (eqb mode 2 || (eqb mode 4 || eqb mode 5))

-- A number names a mode of this engine, or it is the retired mode's or none's.
abbrev pub KnownBy : ℕ → Result Mode Cause → Type 0
KnownBy number r =
    MatchResult r (λ m. (mode_number m ≡ number) × (has_mode number ≡ true))
    (λ c. ((c ≡ RetiredMode) × (number ≡ 2)) ⊎ ((c ≡ NoMode) × (is_known number ≡ false)))

-- The rules 1, 16, 2, 15, 3 to 8 and 11, for an output of `room` bytes: there is no work room, so no rule 10. Mode 1 does not read the ranks.
unfoldable pub plain_rules : Form → List ℕ → ℕ → ℕ → List ℕ → ℕ → List Rule
plain_rules form t mode default ranks room =
    rule 1 0 (is_known mode)
    ∷ rule 16 0 (not (eqb mode 2))
    ∷ rule 2 0 (not (eqb mode 5) || leb default 63)
    ∷ rule 15 0 (not (leb 4 mode) || is_ranking 64 ranks)
    ∷ form_rules form (takes_set mode) t
    ++ (rule 11 0 (leb (size_of form * length (result_of (size_of form) t mode default ranks)) room) ∷ [])

-- In mode 1 the members' hops are 0.
abbrev pub Bare : ℕ → List ℕ → ℕ → Type 0
Bare size t mode = mode ≡ 1 → All (λ r. r.hop ≡ 0) (routes_in size t)
