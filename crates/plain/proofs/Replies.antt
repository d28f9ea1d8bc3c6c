-- The call's rules, one after the other: which refuses, and that past them only the output's room decides. Assumes nothing.
use Prim.Native.Nat.{ℕ, ◌*◌}
use mathlib.Core.Path.{◌≡◌, refl, sym, ap}
use mathlib.Core.Bool.{true, false, not, ◌||◌, Bool, true≢false}
use mathlib.Core.List.{List, [], ◌∷◌}
use lib.Dec.{eqb, leb}
use lib.ListN.{length}
use mathlib.Core.Logic.{inl, inr, ◌⊎◌}
use Rattle.theory.specs.Ranks.{is_ranking}
use Rattle.refusals.specs.declared.Cause.{Cause}
use Rattle.refusals.specs.declared.Cause.TheVariants.{RetiredMode, Mode as NoMode}
use Rattle.refusals.specs.Numbers.{number_of}
use Rattle.refusals.specs.Rules.{Rule, rule, gives, refuses}
use Rattle.records.specs.declared.Form.{Form}
use Rattle.records.specs.Forms.{size_of}
use Rattle.table.specs.Checking.{check_reply_in}
use Rattle.calls.specs.Ending.{last_reply}
use Rattle.calls.specs.Rewriting.{result_of, takes_set, reply_by}
use Rattle.calls.proofs.Ending.{refused_mode, refused_retired, refused_default, refused_ranks, refused_table, last_decide}
use Rattle.plain.specs.Rewriting.{is_known, plain_rules, has_mode}

module _ (form : Form) (t : List ℕ) (mode default : ℕ) (ranks : List ℕ) (room : ℕ) where
  -- The rule of the output.
  abbrev last : List Rule
  last = rule 11 0 (leb (size_of form * length (result_of (size_of form) t mode default ranks)) room) ∷ []

  -- Number 1.
  pub not_a_mode : is_known mode ≡ false → reply_by (size_of form) (plain_rules form t mode default ranks room) t mode default ranks ≡ refuses 1 0
  unfolding reply_by plain_rules
  not_a_mode e = refused_mode (is_known mode) form t mode default ranks last (result_of (size_of form) t mode default ranks) e

  module _ (known : is_known mode ≡ true) where
    -- Number 16.
    pub retired_mode : mode ≡ 2 → reply_by (size_of form) (plain_rules form t mode default ranks room) t mode default ranks ≡ refuses 16 0
    unfolding reply_by plain_rules
    retired_mode e = refused_retired (is_known mode) form t mode default ranks last (result_of (size_of form) t mode default ranks) known e

    module _ (used : mode ≡ 2 → ⊥) where
      -- Number 2.
      pub not_a_hop : (not (eqb mode 5) || leb default 63) ≡ false
          → reply_by (size_of form) (plain_rules form t mode default ranks room) t mode default ranks ≡ refuses 2 0
      unfolding reply_by plain_rules
      not_a_hop e = refused_default (is_known mode) form t mode default ranks last (result_of (size_of form) t mode default ranks) known used e

      module _ (ok : (not (eqb mode 5) || leb default 63) ≡ true) where
        -- Number 15.
        pub not_a_ranking : (not (leb 4 mode) || is_ranking 64 ranks) ≡ false
            → reply_by (size_of form) (plain_rules form t mode default ranks room) t mode default ranks ≡ refuses 15 0
        unfolding reply_by plain_rules
        not_a_ranking e = refused_ranks (is_known mode) form t mode default ranks last (result_of (size_of form) t mode default ranks) known used ok e

        module _ (ranked : (not (leb 4 mode) || is_ranking 64 ranks) ≡ true) where
          -- Numbers 3 to 8.
          pub not_a_table : {n i : ℕ} → check_reply_in (size_of form) form.strict (takes_set mode) t ≡ refuses n i
              → reply_by (size_of form) (plain_rules form t mode default ranks room) t mode default ranks ≡ refuses n i
          unfolding reply_by plain_rules
          not_a_table e = refused_table (is_known mode) form t mode default ranks last (result_of (size_of form) t mode default ranks) known used ok ranked e

          -- Past the table's rules only the output's room decides.
          pub only_output : {k : ℕ} → check_reply_in (size_of form) form.strict (takes_set mode) t ≡ gives k
              → reply_by (size_of form) (plain_rules form t mode default ranks room) t mode default ranks ≡ last_reply (size_of form) t mode default ranks room
          unfolding reply_by plain_rules
          only_output valid = last_decide (is_known mode) form t mode default ranks last (result_of (size_of form) t mode default ranks) known used ok ranked valid

-- A number that names no mode of this engine is refused by what it is.
pub named_by : (form : Form) (t : List ℕ) (mode default : ℕ) (ranks : List ℕ) (room : ℕ) (c : Cause)
    → ((c ≡ RetiredMode) × (mode ≡ 2)) ⊎ ((c ≡ NoMode) × (is_known mode ≡ false))
    → reply_by (size_of form) (plain_rules form t mode default ranks room) t mode default ranks ≡ refuses (number_of c) 0
named_by form t mode default ranks room c (inl (e, two)) = rw e (retired_mode form t mode default ranks room (ap is_known two) two)
named_by form t mode default ranks room c (inr (e, none)) = rw e (not_a_mode form t mode default ranks room none)

-- A mode that the engine has is known, and not the retired one.
pub had_known : (mode : ℕ) → has_mode mode ≡ true → (is_known mode ≡ true) × (mode ≡ 2 → ⊥)
had_known mode e = (go (eqb mode 1) (eqb mode 2) (eqb mode 4 || eqb mode 5) e, λ two. let z : ◌≡◌ {A = Bool} false true = rw two at e in true≢false (sym z))
  where
    go : (a b c : Bool) → (a || c) ≡ true → (a || (b || c)) ≡ true
    go true b c h = refl
    go false true c h = refl
    go false false c h = h
