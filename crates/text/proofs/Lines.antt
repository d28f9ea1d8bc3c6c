-- Laws of the lines of records. Assumes nothing.
use mathlib.Core.Path.{◌≡◌, sym, ap, ◌∙◌}
use mathlib.Core.Bool.{Bool}
use mathlib.Core.List.{List, [], ◌∷◌, ◌++◌, append_assoc, append-nil}
use Prim.Native.Nat.{ℕ, zero, suc, ◌+◌, ◌≤◌}
use native.Mathlib.Numerals.{add-one}
use native.Mathlib.Omega.{arith}
use lib.ListN.{length}
use Rattle.theory.specs.Routes.{Route}
use Rattle.records.specs.Sized.{records_in, route_in, routes_from_in, routes_in}
use Rattle.text.specs.Text.{Put, line_in, lines_in}
use Rattle.text.proofs.Puts.{put_none}

-- The routes of one record more.
from_more : (size : ℕ) (t : List ℕ) (i k : ℕ) → routes_from_in size t i (suc k) ≡ routes_from_in size t i k ++ (route_in size t (i + k) ∷ [])
unfolding routes_from_in
from_more size t i zero = let e : i + 0 ≡ i = omega arith in rw e
from_more size t i (suc k) =
    let e : suc i + k ≡ i + suc k = omega arith in
    ap (λ (rs : List Route). route_in size t i ∷ rs)
    (from_more size t (suc i) k ∙ ap (λ (j : ℕ). routes_from_in size t (suc i) k ++ (route_in size t j ∷ [])) e)

module _ (size : ℕ) (hex hops : Bool) where
  -- A line behind lines.
  lines-behind : (rs : List Route) (r : Route) → lines_in size hex hops (rs ++ (r ∷ [])) ≡ lines_in size hex hops rs ++ line_in size hex hops r
  unfolding lines_in
  lines-behind [] r = append-nil (line_in size hex hops r)
  lines-behind (q ∷ rs) r =
      ap (λ (l : List ℕ). line_in size hex hops q ++ l) (lines-behind rs r)
      ∙ sym (append_assoc (line_in size hex hops q) (lines_in size hex hops rs) (line_in size hex hops r))

  -- No lines are put yet.
  pub lines_none : (t : List ℕ) (at : ℕ) (o : List ℕ) → at ≤ length o → Put (lines_in size hex hops (routes_from_in size t 0 0)) at at o o
  unfolding routes_from_in lines_in
  lines_none t at o fits = put_none at o fits

  -- The lines of i records with that of record i are those of i + 1.
  pub lines_more : (t : List ℕ) (i : ℕ)
      → lines_in size hex hops (routes_from_in size t 0 i) ++ line_in size hex hops (route_in size t i) ≡ lines_in size hex hops (routes_from_in size t 0 (i + 1))
  lines_more t i =
      let e : 0 + i ≡ i = omega arith in
      sym (ap (λ (k : ℕ). lines_in size hex hops (routes_from_in size t 0 k)) (add-one i)
      ∙ ap (λ (rs : List Route). lines_in size hex hops rs) (from_more size t 0 i)
      ∙ lines-behind (routes_from_in size t 0 i) (route_in size t (0 + i))
      ∙ ap (λ (j : ℕ). lines_in size hex hops (routes_from_in size t 0 i) ++ line_in size hex hops (route_in size t j)) e)

  -- The lines of all records are those of the table's routes.
  pub lines_all : (t : List ℕ) (i : ℕ) → i ≡ records_in size t → lines_in size hex hops (routes_from_in size t 0 i) ≡ lines_in size hex hops (routes_in size t)
  unfolding routes_in
  lines_all t i e = ap (λ (k : ℕ). lines_in size hex hops (routes_from_in size t 0 k)) e
