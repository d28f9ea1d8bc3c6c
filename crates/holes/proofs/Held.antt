-- Addresses held and the list of holes: together they are all the addresses, and the list is empty exactly when every address is held. Records have 8 bytes,
-- as addresses held asks; either choice on host bits. Assumes nothing.
use mathlib.Core.Path.{◌≡◌, refl, sym, ap, ◌∙◌}
use mathlib.Core.Bool.{Bool, false, not}
use mathlib.Core.List.{List, [], ◌∷◌}
use mathlib.Core.Logic.{◌↔◌}
use Prim.Native.Nat.{ℕ, ◌+◌, ◌*◌, ◌^◌}
use native.Mathlib.Omega.{arith}
use lib.ListN.{length, take}
use Rattle.theory.specs.Routes.{Route, held}
use Rattle.theory.specs.Results.{maximal}
use Rattle.theory.specs.Reach.{sizes}
use Rattle.theory.proofs.Maximal.{maximal-agree}
use Rattle.std.specs.Prelude.{Result, Ok}
use Rattle.refusals.specs.declared.Refusal.{Refusal}
use Rattle.records.specs.Wire.{routes}
use Rattle.lookup.specs.Calls.{held_says, held_reply}
use Rattle.lookup.proofs.Calls.{held-holes, held_whole}
use Rattle.calls.proofs.Masking.{choosing}
use Rattle.holes.specs.Holes.{is_unrouted, holes_in}
use Rattle.holes.specs.Listing.{holes_of, Lists}
use Rattle.holes.proofs.Walk.{unrouted-held}
use Rattle.holes.proofs.Calls.{unrouted-listed, unrouted-reads}

-- The list is the same by either test of an address.
same_list : (t : List ℕ) → holes_of 8 t ≡ maximal 32 (λ x. not (held 32 (routes t) x)) 32 0
unfolding holes_in
same_list t =
    maximal-agree (is_unrouted 32 (routes t)) (λ x. not (held 32 (routes t) x)) 32 32 0 (λ x i. unrouted-held 32 x (routes t))

none_long : (rs : List Route) → length rs ≡ 0 → rs ≡ []
none_long [] e = refl
none_long (r ∷ rs) e = absurd (omega arith)

module _ (strict : Bool) (t : List ℕ) (r : Result ℕ Refusal) (e : held_says r ≡ held_reply (choosing strict false) t) (n : ℕ) (q : r ≡ Ok n)
    (o : List ℕ) (l : Result ℕ Refusal) (o' : List ℕ) (ok : Lists (choosing strict false) t o l o') (count : ℕ) (answered : l ≡ Ok count) where
  -- The addresses held and the sizes of the listed holes make 2 ^ 32.
  pub held_and_listed : n + sizes 32 (routes (take (8 * count) o')) ≡ 2 ^ 32
  held_and_listed =
      ap (λ (rs : List Route). n + sizes 32 rs) (unrouted-reads (choosing strict false) t o l o' ok count answered ∙ same_list t) ∙ held-holes (choosing strict false) t r e n q

  -- They are 2 ^ 32 exactly when the list is empty.
  pub held_none_listed : (n ≡ 2 ^ 32) ↔ (count ≡ 0)
  held_none_listed =
      let whole = held_whole (choosing strict false) t r e n q in
      let size : length (holes_of 8 t) ≡ count = ((unrouted-listed (choosing strict false) t o l o' ok count).0 answered).2 in (
        λ p. sym size ∙ ap (λ (rs : List Route). length rs) (same_list t ∙ whole.0 p),
        λ z. whole.1 (sym (same_list t) ∙ none_long (holes_of 8 t) (size ∙ z)),
      )
