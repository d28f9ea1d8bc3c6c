-- Over the size of a record: the routes of accepted bytes are lawful, and lawful routes written down are accepted, under either choice on host bits;
-- strictly accepted bytes are their routes written down. Assumes nothing.
use Prim.{tt}
use mathlib.Core.Path.{◌≡◌, refl, sym, ap, ◌∙◌, subst}
use mathlib.Core.Bool.{Bool, true, false}
use mathlib.Core.List.{List, [], ◌∷◌, ◌++◌}
use Prim.Native.Nat.{ℕ, zero, suc, ◌+◌, ◌-◌, ◌*◌, ◌%◌, ◌^◌, ◌≤◌, ◌<◌}
use native.Mathlib.Nat.{mul_comm, mul-mod_left}
use native.Mathlib.Omega.{arith}
use lib.ListN.{length}
use Rattle.theory.specs.Routes.{Route, Valid, All, nil, cons, Before, Ascending, empty, first}
use Rattle.theory.proofs.Lists.{all_map}
use Rattle.theory.proofs.Order.{before_trans}
use Rattle.refusals.specs.Rules.{gives, judge}
use Rattle.records.specs.Sized.{IsSize, width_in, raw_in, route_in, routes_from_in, records_in, routes_in, record_in, bytes_in, Bytes}
use Rattle.records.proofs.SizedReading.{records-whole, in_hop, in_raw, in_valid, in_length_from, in_length_routes}
use Rattle.records.proofs.SizedWritten.{in_length_bytes, in_records_bytes, in_byte_shift, in_raw_shift, in_route_shift, in_hop_head, in_rest_head, in_rest_shift, in_raw_head, in_route_head, in_bytes_back}
use Rattle.table.specs.SizedRules.{table_rules_in, top_hop}
use Rattle.table.specs.SizedConditions.{TailKeptIn, OrderKeptIn, AcceptedIn, LawfulIn}
use Rattle.table.proofs.SizedAccepted.{in_not_refused, in_accepted}

-- ---- The order.
front : (r s : Route) (rs : List Route) → Before r s → Ascending (s ∷ rs) → Ascending (r ∷ s ∷ rs)
front r s rs b (first bs a) = first (cons b (all_map (λ u c. before_trans r s u b c) bs)) (first bs a)

-- Hops in range are below 64.
pub hops-below : (s : Bool) {rs : List Route} → All (λ r. r.hop ≤ top_hop s) rs → All (λ r. r.hop < 64) rs
hops-below true h = all_map (λ r l. omega arith) h
hops-below false h = all_map (λ r l. omega arith) h

-- A set's hops are zero.
pub set-hops : {rs : List Route} → All (λ r. r.hop ≤ top_hop true) rs → All (λ r. r.hop ≡ 0) rs
set-hops h = all_map (λ r l. omega arith) h

module _ (size : ℕ) (is : IsSize size) where
  -- ---- From accepted bytes to routes.
  all_routes : {P : Route → Type 0} (t : List ℕ) (i k : ℕ) → ((j : ℕ) → i ≤ j → j < i + k → P (route_in size t j)) → All P (routes_from_in size t i k)
  unfolding routes_from_in
  all_routes t i zero p = nil
  all_routes t i (suc k) p = cons (p i (omega arith) (omega arith)) (all_routes t (suc i) k (λ j l h. p j (omega arith) (omega arith)))

  ascending_routes : (t : List ℕ) (i k : ℕ) → ((j : ℕ) → i ≤ j → suc j < i + k → Before (route_in size t j) (route_in size t (suc j))) → Ascending (routes_from_in size t i k)
  unfolding routes_from_in
  ascending_routes t i zero p = empty
  ascending_routes t i (suc zero) p = first nil empty
  ascending_routes t i (suc (suc k)) p =
      front (route_in size t i) (route_in size t (suc i)) (routes_from_in size t (suc (suc i)) k) (p i (omega arith) (omega arith))
      (ascending_routes t (suc i) (suc k) (λ j l h. p j (omega arith) (omega arith)))

  module _ (strict s : Bool) (t : List ℕ) (bytes : Bytes t) where
    -- What an accepted table has for routes is lawful.
    pub in_lawful : AcceptedIn size strict s t → LawfulIn size s (routes_in size t)
    unfolding routes_in
    in_lawful a =
        record {
          table =
              record {
                valid = all_routes t 0 (records_in size t) (λ j l h. in_valid size t is bytes j (a.each j (omega arith)).length_kept);
                order =
                    ascending_routes t 0 (records_in size t)
                    (λ j l h. (a.each (suc j) (omega arith)).order_kept);
              };
          hops = all_routes t 0 (records_in size t) (λ j l h. omega (arith, in_hop size t j, (a.each j (omega arith)).tail_kept.0));
          few = let e = in_length_from size t 0 (records_in size t) in let f = a.few in omega arith;
        }

    -- The routes of an accepted table are lawful, one for each record.
    pub in_accepted_table : {A : Type 0} (a b : A) → judge (table_rules_in size strict s t) a ≡ gives b
        → LawfulIn size s (routes_in size t) × (length (routes_in size t) ≡ records_in size t) × (length t ≡ size * length (routes_in size t))
    in_accepted_table a b ok =
        let k = in_accepted size is strict s t a ok in
        let n = in_length_routes size t in
        (in_lawful k, n, sym (records-whole size is t k.whole) ∙ ap (λ (m : ℕ). size * m) (sym n))

  -- A strictly accepted table is its routes written down.
  pub in_bytes_routes : {A : Type 0} (a b : A) (s : Bool) (t : List ℕ) → Bytes t → judge (table_rules_in size true s t) a ≡ gives b → bytes_in size (routes_in size t) ≡ t
  in_bytes_routes a b s t bytes ok =
      let k = in_accepted size is true s t a ok in
      in_bytes_back size is t bytes k.whole (λ j h. ((k.each j h).tail_kept.1, in_raw size t j ((k.each j h).host_kept refl)))

  -- ---- From lawful routes to accepted bytes.
  -- By a reader of records that finds each written route.
  module _ {P : Route → Type 0} (read : List ℕ → ℕ → Route) (head : (r : Route) (t : List ℕ) → Valid (width_in size) r → read (record_in size r ++ t) 0 ≡ r)
      (shift : (r : Route) (t : List ℕ) (i : ℕ) → read (record_in size r ++ t) (suc i) ≡ read t i) where
    written : (rs : List Route) → All (Valid (width_in size)) rs → All P rs → (i : ℕ) → i < length rs → P (read (bytes_in size rs) i)
    unfolding bytes_in
    written [] v p i h = absurd (omega arith)
    written (r ∷ rs) (cons v vs) (cons p ps) zero h = subst P (sym (head r (bytes_in size rs) v)) p
    written (r ∷ rs) (cons v vs) (cons p ps) (suc i) h = subst P (sym (shift r (bytes_in size rs) i)) (written rs vs ps i (omega arith))

  module _ {P : Route → Type 0} where
    pub in_route_written : (rs : List Route) → All (Valid (width_in size)) rs → All P rs → (i : ℕ) → i < length rs → P (route_in size (bytes_in size rs) i)
    in_route_written = written (route_in size) (in_route_head size is) (in_route_shift size is)

    pub in_raw_written : (rs : List Route) → All (Valid (width_in size)) rs → All P rs → (i : ℕ) → i < length rs → P (raw_in size (bytes_in size rs) i)
    in_raw_written = written (raw_in size) (λ r t v. in_raw_head size is r t v.small) (in_raw_shift size is)

  tail_written : (s : Bool) (rs : List Route) → All (λ r. r.hop ≤ top_hop s) rs → (i : ℕ) → i < length rs → TailKeptIn size s (bytes_in size rs) i
  unfolding bytes_in
  tail_written s [] p i h = absurd (omega arith)
  tail_written s (r ∷ rs) (cons p ps) zero h = (omega (arith, in_hop_head size is r (bytes_in size rs)), in_rest_head size is r (bytes_in size rs))
  tail_written s (r ∷ rs) (cons p ps) (suc i) h =
      let more = tail_written s rs ps i (omega arith) in
      (rw (in_byte_shift size is r (bytes_in size rs) i) more.0, in_rest_shift size is r (bytes_in size rs) i more.1)

  order_written : (rs : List Route) → All (Valid (width_in size)) rs → Ascending rs → (i : ℕ) → i < length rs → OrderKeptIn size (bytes_in size rs) i
  unfolding bytes_in
  order_written rs v a zero h = tt
  order_written [] v a (suc i) h = absurd (omega arith)
  order_written (r ∷ []) v a (suc i) h = absurd (omega arith)
  order_written (r ∷ q ∷ rs) (cons v (cons w vs)) (first (cons b bs) a) (suc zero) h =
      let here = in_route_head size is r (bytes_in size (q ∷ rs)) v in
      let next = in_route_shift size is r (bytes_in size (q ∷ rs)) 0 ∙ in_route_head size is q (bytes_in size rs) w in
      subst (λ (u : Route). Before u (route_in size (bytes_in size (r ∷ q ∷ rs)) 1)) (sym here) (subst (Before r) (sym next) b)
  order_written (r ∷ q ∷ rs) (cons v vs) (first bs a) (suc (suc i)) h =
      let more = order_written (q ∷ rs) vs a (suc i) (omega arith) in
      subst (λ (u : Route). Before u (route_in size (bytes_in size (r ∷ q ∷ rs)) (suc (suc i)))) (sym (in_route_shift size is r (bytes_in size (q ∷ rs)) i))
      (subst (Before (route_in size (bytes_in size (q ∷ rs)) i)) (sym (in_route_shift size is r (bytes_in size (q ∷ rs)) (suc i))) more)

  -- Lawful routes written down keep the rules, and so are accepted.
  pub in_accepted_written : (strict s : Bool) (rs : List Route) → LawfulIn size s rs → AcceptedIn size strict s (bytes_in size rs)
  in_accepted_written strict s rs l =
      let n = in_records_bytes size is rs in
      let few = l.few in
      let v = l.table.valid in
      record {
        whole =
            ap (λ (m : ℕ). m % size) (in_length_bytes size is rs ∙ mul_comm size (length rs)) ∙ mul-mod_left (length rs) size;
        few = omega arith;
        each =
            λ i h.
            let r = raw_in size (bytes_in size rs) i in
            let clean = (in_raw_written rs v v i (omega arith)).clean in
            record {
              length_kept = (in_route_written rs v v i (omega arith)).short;
              host_kept = λ e. ap (λ (a : ℕ). a % 2 ^ (width_in size - r.len)) clean.1 ∙ mul-mod_left clean.0 (2 ^ (width_in size - r.len));
              tail_kept = tail_written s rs l.hops i (omega arith);
              order_kept = order_written rs v l.table.order i (omega arith);
            };
      }

  pub in_table_accepted : {A : Type 0} (a : A) (strict s : Bool) (rs : List Route) → LawfulIn size s rs → judge (table_rules_in size strict s (bytes_in size rs)) a ≡ gives a
  in_table_accepted a strict s rs l = in_not_refused size is strict s (bytes_in size rs) a (in_accepted_written strict s rs l)
