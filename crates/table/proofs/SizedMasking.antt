-- The two choices on host bits, over the size of a record. What is not refused by 6 under the strict choice is judged the same by default; and the masked
-- bytes of an accepted table are a strictly accepted table of the same routes, which every call judges, under either choice, as it judges the table by
-- default. Assumes nothing.
use mathlib.Core.Path.{◌≡◌, refl, sym, ap, ap₂, ◌∙◌}
use mathlib.Core.Bool.{Bool, true, false, ◌&&◌}
use mathlib.Core.List.{List, ◌∷◌, ◌++◌}
use Prim.Native.Nat.{ℕ, zero, suc, ◌+◌, ◌*◌, ◌%◌, ◌≤◌, ◌<◌}
use native.Mathlib.Omega.{arith}
use lib.Dec.{leb, eqb}
use lib.ListN.{length}
use Rattle.theory.specs.Routes.{Route, All}
use Rattle.theory.proofs.Lists.{all_map}
use Rattle.refusals.specs.Rules.{Rule, rule, Reply, refuses, judge}
use Rattle.refusals.proofs.Shown.{passes}
use Rattle.refusals.proofs.Waived.{waived, waived_append, waived_answer}
use Rattle.records.specs.Sized.{IsSize, octets_in, byte_in, route_in, routes_from_in, records_in, routes_in, bytes_in, masked_in, Bytes}
use Rattle.records.proofs.SizedReading.{records-whole, in_hop, in_valid, in_length_routes}
use Rattle.records.proofs.SizedWritten.{in_length_bytes, in_routes_bytes, in_bytes_small, in_route_head, in_route_shift}
use Rattle.table.specs.SizedRules.{host_kept_in, tail_kept_in, in_order_in, record_rules_in, rules_from_in, table_rules_in, top_hop, before}
use Rattle.table.specs.SizedConditions.{HostKeptIn, AcceptedIn, LawfulIn}
use Rattle.table.proofs.SizedTables.{in_lawful, in_accepted_written}
use Rattle.table.proofs.SizedTested.{in_host_shown, clear_rest}

-- ---- The strict choice and the default.
module _ (size : ℕ) (s : Bool) (t : List ℕ) where
  -- The default is the strict choice with number 6 waived.
  record_waived : (i : ℕ) → waived 6 (record_rules_in size true s t i) ≡ record_rules_in size false s t i
  unfolding record_rules_in
  record_waived i = refl

  scan_waived : (i k : ℕ) → waived 6 (rules_from_in size true s t i k) ≡ rules_from_in size false s t i k
  unfolding rules_from_in
  scan_waived i zero = refl
  scan_waived i (suc k) =
      waived_append 6 (record_rules_in size true s t i) (rules_from_in size true s t (suc i) k)
      ∙ ap₂ ◌++◌ (record_waived i) (scan_waived (suc i) k)

  pub in_strict_waived : waived 6 (table_rules_in size true s t) ≡ table_rules_in size false s t
  unfolding table_rules_in
  in_strict_waived =
      ap (λ (l : List Rule). rule 3 0 (eqb (length t % size) 0) ∷ rule 4 0 (leb (records_in size t) 1024) ∷ l) (scan_waived 0 (records_in size t))

-- So any call that judges a table and nothing else: where it is not refused by 6 under the strict choice, its answer is the default's.
pub in_table_carried : {R A : Type 0} (says : R → Reply A) → ((b c : R) → says b ≡ says c → b ≡ c) → (size : ℕ) (s : Bool) (t : List ℕ) (a : A) (r q : R)
    → says r ≡ judge (table_rules_in size true s t) a → says q ≡ judge (table_rules_in size false s t) a
    → ((i : ℕ) → says r ≡ refuses 6 i → ⊥) → q ≡ r
in_table_carried says same size s t a r q one other =
    waived_answer says same 6 (table_rules_in size true s t) a r q one (other ∙ ap (λ (l : List Rule). judge l a) (sym (in_strict_waived size s t)))

module _ (size : ℕ) where
  -- What is accepted under one choice is accepted under the other, if host bits are no bar;
  accepted-kept : (strict other s : Bool) (t : List ℕ) → ((i : ℕ) → i < records_in size t → HostKeptIn size other t i) → AcceptedIn size strict s t → AcceptedIn size other s t
  accepted-kept strict other s t host a =
      record {
        whole = a.whole;
        few = a.few;
        each =
            λ i h.
            let k = a.each i h in
            record {
              length_kept = k.length_kept;
              host_kept = host i h;
              tail_kept = k.tail_kept;
              order_kept = k.order_kept;
            };
      }

  -- so what is accepted at all is accepted by default,
  pub in_accepted_default : (strict s : Bool) (t : List ℕ) → AcceptedIn size strict s t → AcceptedIn size false s t
  in_accepted_default strict s t = accepted-kept strict false s t (λ i h e. let z : ◌≡◌ {A = ℕ} 0 1 = cc in absurd (omega arith))

  -- and what is strictly accepted is accepted under either choice.
  pub in_accepted_any : (strict s : Bool) (t : List ℕ) → AcceptedIn size true s t → AcceptedIn size strict s t
  in_accepted_any strict s t a = accepted-kept true strict s t (λ i h e. (a.each i h).host_kept refl) a

-- Hops in range are bytes.
hop-bytes : (s : Bool) {rs : List Route} → All (λ r. r.hop ≤ top_hop s) rs → All (λ r. r.hop < 256) rs
hop-bytes true h = all_map (λ r l. omega arith) h
hop-bytes false h = all_map (λ r l. omega arith) h

-- ---- The masked bytes of a table that is accepted, as a set or as a map, under either choice.
module _ (size : ℕ) (is : IsSize size) (strict s : Bool) (t : List ℕ) (bytes : Bytes t) (ok : AcceptedIn size strict s t) where
  lawful : LawfulIn size s (routes_in size t)
  lawful = in_lawful size is strict s t bytes ok

  -- They have the table's routes, in as many bytes.
  pub in_masked_routes : routes_in size (masked_in size t) ≡ routes_in size t
  in_masked_routes = in_routes_bytes size is (routes_in size t) lawful.table.valid

  pub in_masked_length : length (masked_in size t) ≡ length t
  in_masked_length =
      in_length_bytes size is (routes_in size t) ∙ ap (λ (m : ℕ). size * m) (in_length_routes size t) ∙ records-whole size is t ok.whole

  pub in_masked_small : Bytes (masked_in size t)
  in_masked_small = in_bytes_small size is (routes_in size t) lawful.table.valid (hop-bytes s lawful.hops)

  -- They are an accepted table under either choice.
  pub in_masked_accepted : (other : Bool) → AcceptedIn size other s (masked_in size t)
  in_masked_accepted other = in_accepted_written size is other s (routes_in size t) lawful

  -- ---- Record by record.
  written_at : (i k j : ℕ) → i + k ≤ records_in size t → j < k → route_in size (bytes_in size (routes_from_in size t i k)) j ≡ route_in size t (i + j)
  unfolding routes_from_in bytes_in
  written_at i zero j h l = absurd (omega arith)
  written_at i (suc k) zero h l =
      in_route_head size is (route_in size t i) (bytes_in size (routes_from_in size t (suc i) k)) (in_valid size t is bytes i (ok.each i (omega arith)).length_kept)
      ∙ ap (route_in size t) (omega arith)
  written_at i (suc k) (suc j) h l =
      in_route_shift size is (route_in size t i) (bytes_in size (routes_from_in size t (suc i) k)) j
      ∙ written_at (suc i) k j (omega arith) (omega arith)
      ∙ ap (route_in size t) (omega arith)

  masked_at : (i : ℕ) → i < records_in size t → route_in size (masked_in size t) i ≡ route_in size t i
  unfolding routes_in
  masked_at i h = written_at 0 (records_in size t) i (omega arith) (omega arith) ∙ ap (route_in size t) (omega arith)

  masked-inside : (i : ℕ) → i < records_in size t → i < records_in size (masked_in size t)
  masked-inside i h = rw in_masked_length h

  masked_tail : (other : Bool) (i : ℕ) → i < records_in size t → tail_kept_in size other (masked_in size t) i ≡ tail_kept_in size other t i
  masked_tail other i h =
      let p = ((in_masked_accepted strict).each i (masked-inside i h)).tail_kept.1 in
      let q = (ok.each i h).tail_kept.1 in
      let hop : byte_in size (masked_in size t) i (octets_in size + 1) ≡ byte_in size t i (octets_in size + 1) =
      sym (in_hop size (masked_in size t) i) ∙ ap (λ (r : Route). r.hop) (masked_at i h) ∙ in_hop size t i in
      ap₂ (λ (b : ℕ) (z : Bool). leb b (top_hop other) && z) hop (clear_rest size is (masked_in size t) i p ∙ sym (clear_rest size is t i q))

  masked_order : (i : ℕ) → i < records_in size t → in_order_in size (masked_in size t) i ≡ in_order_in size t i
  masked_order zero h = refl
  masked_order (suc i) h = ap₂ before (masked_at i (omega arith)) (masked_at (suc i) h)

  record_masked : (other kind : Bool) (i : ℕ) → i < records_in size t → record_rules_in size other kind (masked_in size t) i ≡ record_rules_in size false kind t i
  unfolding record_rules_in
  record_masked other kind i h =
      let none : host_kept_in size other (masked_in size t) i ≡ true =
      passes (in_host_shown size is other (masked_in size t) i) ((in_masked_accepted other).each i (masked-inside i h)).host_kept in
      rw (masked_at i h, none, masked_tail kind i h, masked_order i h)

  scan_masked : (other kind : Bool) (i k : ℕ) → i + k ≤ records_in size t → rules_from_in size other kind (masked_in size t) i k ≡ rules_from_in size false kind t i k
  unfolding rules_from_in
  scan_masked other kind i zero h = refl
  scan_masked other kind i (suc k) h = ap₂ ◌++◌ (record_masked other kind i (omega arith)) (scan_masked other kind (suc i) k (omega arith))

  -- Under either choice they are judged, as a set or as a map, as the table is by default.
  pub in_masked_rules : (other kind : Bool) → table_rules_in size other kind (masked_in size t) ≡ table_rules_in size false kind t
  unfolding table_rules_in
  in_masked_rules other kind =
      rw in_masked_length (ap (λ (l : List Rule). rule 3 0 (eqb (length t % size) 0) ∷ rule 4 0 (leb (records_in size t) 1024) ∷ l) (scan_masked other kind 0 (records_in size t) (omega arith)))
