-- The call's statement, case by case of the check and of the image's size. Assumes nothing.
use Prim.Native.Nat.{ℕ, ◌*◌, ◌≤◌}
use mathlib.Core.Path.{◌≡◌, sym, ap, ◌∙◌}
use mathlib.Core.Bool.{Bool, false}
use mathlib.Core.List.{List, [], ◌∷◌}
use native.Mathlib.Omega.{arith}
use lib.Dec.{eqb}
use lib.ListN.{length}
use borrow.Author.Tests.{eq-eqb, ne_eqb}
use Rattle.refusals.specs.declared.Cause.TheVariants.{ImageLength}
use Rattle.refusals.specs.Numbers.{number_of}
use Rattle.refusals.specs.declared.Refusal.{Refusal}
use Rattle.std.specs.Prelude.{Ok, Err}
use Rattle.theory.specs.Routes.{All}
use Rattle.theory.specs.Falling.{falling}
use Rattle.theory.proofs.Falling.{falling-length}
use Rattle.theory.proofs.Numbered.{all_numbered}
use Rattle.refusals.specs.Rules.{Rule, rule, gives, refuses, judge}
use Rattle.refusals.proofs.Judged.{kept_next, broken-here, all_next, some-here}
use Rattle.records.specs.Wire.{records, route_at, routes}
use Rattle.records.specs.declared.Form.{Form}
use Rattle.records.proofs.Reading.{length-routes, routes_numbered}
use Rattle.table.specs.Checking.{check_reply}
use Rattle.table.specs.SizedConditions.{AcceptedIn}
use Rattle.table.specs.TableRules.{table_rules}
use Rattle.table.proofs.AtEight.{accepted}
use Rattle.chip.specs.Loading.{load_rules, load_order, image_after, Loads}
use Rattle.chip.specs.Placing.{Placed, unused_from}
use Rattle.chip.proofs.Images.{placed-image}

-- ---- The routes of an accepted table by falling length.
module _ {strict : Bool} {t : List ℕ} (ok : AcceptedIn 8 strict false t) where
  -- No length is above 32,
  pub routes-short : All (λ r. r.len ≤ 32) (routes t)
  routes-short = rw (routes_numbered t) (all_numbered (route_at t) 0 (records t) (λ i le lt. (ok.each i lt).length_kept))

  -- so there is one for each record,
  pub order_length : length (falling 32 (routes t)) ≡ records t
  order_length = falling-length 32 routes-short ∙ length-routes t

  -- and a slot for each.
  pub order_few : length (falling 32 (routes t)) ≤ 1024
  order_few = omega (arith, order_length, ok.few)

-- ---- The rules, one after the other.
module _ (form : Form) (t : List ℕ) (size : ℕ) where
  -- The rule of the image.
  abbrev last : List Rule
  last = rule 12 0 (eqb size 8192) ∷ []

  module _ {A : Type 0} (a : A) where
    -- A table that is refused.
    refused_reply : {k i : ℕ} → check_reply form false t ≡ refuses k i → judge (load_rules form t size) a ≡ refuses k i
    unfolding load_rules
    refused_reply {k} {i} e = some-here a (records t) k i (table_rules form false t) last e

    module _ {n : ℕ} (valid : check_reply form false t ≡ gives n) where
      -- One that is not: the image is given where it has its size.
      given_reply : size ≡ 8192 → judge (load_rules form t size) a ≡ gives a
      unfolding load_rules judge
      given_reply e = all_next a (records t) {c = n} (table_rules form false t) last valid ∙ kept_next a 12 0 [] (eq-eqb size 8192 e)

      wrong_reply : (size ≡ 8192 → ⊥) → judge (load_rules form t size) a ≡ refuses 12 0
      unfolding load_rules
      wrong_reply f = all_next a (records t) {c = n} (table_rules form false t) last valid ∙ broken-here a 12 0 [] (ne_eqb size 8192 f)

-- ---- The statement.
module _ (form : Form) (t m : List ℕ) where
  -- The table is refused.
  pub loads_refused : {r : Refusal} → check_reply form false t ≡ refuses (number_of r.cause) r.index → Loads form t m (Err r) m
  loads_refused e =
      record {
        answer = sym (refused_reply form t (length m) (records t) e);
        image = sym (ap (image_after m) (refused_reply form t (length m) (load_order t) e));
      }

  module _ {n : ℕ} (valid : check_reply form false t ≡ gives n) where
    -- The image has another size, and stays.
    pub loads_wrong : (length m ≡ 8192 → ⊥) → Loads form t m (Err (record { cause = ImageLength; index = 0 })) m
    loads_wrong f =
        record {
          answer = sym (wrong_reply form t (length m) (records t) valid f);
          image = sym (ap (image_after m) (wrong_reply form t (length m) (load_order t) valid f));
        }

    -- The image has its size, and is written.
    pub loads_given : {used : ℕ} {m' m'' : List ℕ} → length m ≡ 8192 → Placed (falling 32 (routes t)) 0 used m m' → m'' ≡ unused_from (8 * used) m'
        → Loads form t m (Ok used) m''
    unfolding load_order
    loads_given size placed cleared =
        let ok = accepted form false t (records t) valid in
        record {
          answer = ap gives (omega (arith, placed.ends, order_length ok)) ∙ sym (given_reply form t (length m) (records t) valid size);
          image =
              cleared ∙ placed-image (order_few ok) size placed
              ∙ sym (ap (image_after m) (given_reply form t (length m) (falling 32 (routes t)) valid size));
        }
