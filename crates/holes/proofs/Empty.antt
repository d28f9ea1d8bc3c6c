-- The empty table has one hole, of length 0, at either size of a record. Assumes nothing.
use Prim.Native.Nat.{ℕ, ◌*◌, ◌≤◌, ◌<◌}
use mathlib.Core.Path.{◌≡◌, sym, ap, ◌∙◌}
use mathlib.Core.Bool.{false}
use mathlib.Core.List.{List, [], ◌∷◌}
use mathlib.Core.Logic.{inl, inr}
use native.Mathlib.Nat.{mul-one, sub_self}
use native.Mathlib.Omega.{arith}
use lib.ListN.{length, take}
use Rattle.theory.specs.Routes.{Route}
use Rattle.std.specs.Prelude.{Result, Ok}
use Rattle.refusals.specs.Rules.{refuses}
use Rattle.refusals.specs.Order.{Earlier}
use Rattle.refusals.specs.declared.Refusal.{Refusal}
use Rattle.refusals.proofs.Judged.{earlier_not}
use Rattle.records.specs.Sized.{IsSize, width_in, route, routes_from_in, routes_in, bytes_in}
use Rattle.records.specs.declared.Form.{Form}
use Rattle.records.specs.Forms.{size_of}
use Rattle.records.proofs.SizedReading.{form_size}
use Rattle.table.proofs.SizedAccepted.{in_accepted_exactly}
use Rattle.calls.proofs.Refusals.{empty-table}
use Rattle.holes.specs.Conditions.{UnroutedCondition, of_table, short_output}
use Rattle.holes.specs.Holes.{holes}
use Rattle.holes.specs.Listing.{holes_of, listed_says, Lists}
use Rattle.holes.proofs.Calls.{unrouted-listed, unrouted_refused, unrouted-written}
use Rattle.holes.proofs.Walk.{holes-empty}

-- It has no records,
no_routes : (size : ℕ) → IsSize size → routes_in size [] ≡ []
unfolding routes_in routes_from_in
no_routes size (inl e) = rw e
no_routes size (inr e) = rw e

-- so its hole is all addresses.
pub empty-holes : (size : ℕ) → IsSize size → holes_of size [] ≡ route 0 0 0 ∷ []
empty-holes size is =
    ap (holes (width_in size)) (no_routes size is)
    ∙ holes-empty (width_in size) (width_in size) 0
    ∙ ap (λ (l : ℕ). route 0 l 0 ∷ []) (sub_self (width_in size))

empty_one : (size : ℕ) → IsSize size → size * length (holes_of size []) ≡ size
empty_one size is = ap (λ (rs : List Route). size * length rs) (empty-holes size is) ∙ mul-one size

module _ (form : Form) (o : List ℕ) (r : Result ℕ Refusal) (o' : List ℕ) (ok : Lists form [] o r o') where
  -- With room for a record it is listed,
  pub empty-listed : size_of form ≤ length o → (r ≡ Ok 1) × (take (size_of form) o' ≡ bytes_in (size_of form) (route 0 0 0 ∷ []))
  empty-listed room =
      let size = size_of form in
      let is = form_size form in
      let e =
      (unrouted-listed form [] o r o' ok 1).1
      ((in_accepted_exactly size is form.strict false []).1 (empty-table form false), omega (arith, empty_one size is), ap length (empty-holes size is)) in (
        e,
        ap (λ (n : ℕ). take n o') (sym (mul-one size)) ∙ unrouted-written form [] o r o' ok 1 e ∙ ap (bytes_in size) (empty-holes size is),
      )

  -- without it is refused.
  pub empty-short : length o < size_of form → listed_says r ≡ refuses 11 0
  empty-short short =
      (unrouted_refused form [] o r o' ok 11 0).1 (short_output (omega (arith, empty_one (size_of form) (form_size form))), earlier)
    where
      earlier : (m j : ℕ) → Earlier m j 11 0 → UnroutedCondition form [] (length o) m j → ⊥
      earlier m j l (of_table c) = empty-table form false m j c
      earlier m j l (short_output h) = earlier_not 11 0 11 0 l l
