-- Laws of records read over their size, 8 bytes or 16: where a record lies, host bits, and a table's routes record by record. Assumes nothing.
use mathlib.Core.Path.{◌≡◌, refl, sym, ap, ap₂, ◌∙◌, subst}
use mathlib.Core.Bool.{Bool, true, false, cond}
use mathlib.Core.List.{List, [], ◌∷◌}
use mathlib.Core.Logic.{inl, inr}
use Prim.Native.Nat.{ℕ, zero, suc, ◌+◌, ◌-◌, ◌*◌, ◌%◌, ◌^◌, ◌≤◌, ◌<◌}
use native.Mathlib.Nat.{sub-zero}
use native.Mathlib.Omega.{arith}
use lib.ListN.{length}
use lib.Pow.{split}
use Rattle.theory.specs.Results.{start_of}
use Rattle.theory.specs.Routes.{Route, Valid, All, cons, miss, hit, longer, lookup}
use Rattle.theory.proofs.Masked.{masked-matches, masked-valid}
use Rattle.theory.proofs.Numbered.{counted, numbered}
use Rattle.records.specs.Sized.{IsSize, octets_in, width_in, byte_in, number, raw_in, route_in, routes_from_in, records_in, routes_in, Bytes}
use Rattle.records.specs.declared.Form.{Form}
use Rattle.records.specs.Forms.{size_of}
use Rattle.records.proofs.Numbers.{number_small}

-- ---- The size.
-- A form's size is one.
pub form_size : (form : Form) → IsSize (size_of form)
form_size form = go form.long
  where
    go : (long : Bool) → IsSize (cond long 16 8)
    go true = inr refl
    go false = inl refl

pub size-some : (size : ℕ) → IsSize size → (8 ≤ size) × (size ≤ 16)
size-some size (inl e) = (omega arith, omega arith)
size-some size (inr e) = (omega arith, omega arith)

-- The bytes of a record: the address, length and hop, and the rest.
pub size_parts : (size : ℕ) → IsSize size → size ≡ octets_in size + suc (suc (octets_in size - 2))
size_parts size (inl e) = rw e
size_parts size (inr e) = rw e

-- The numbers of an address's octets are those of its bits.
pub size_width : (size : ℕ) → IsSize size → 256 ^ octets_in size ≡ 2 ^ width_in size
size_width size (inl e) = rw e
size_width size (inr e) = rw e

pub width_most : (size : ℕ) → IsSize size → width_in size ≤ 64
width_most size (inl e) = omega arith
width_most size (inr e) = omega arith

-- Record i lies in the table.
pub record_fits : (size : ℕ) → IsSize size → (t : List ℕ) (i : ℕ) → i < records_in size t → size * i + size ≤ length t
record_fits size (inl e) t i h = let g : i < records_in 8 t = rw e at h in rw e (omega arith)
record_fits size (inr e) t i h = let g : i < records_in 16 t = rw e at h in rw e (omega arith)

-- Whole records are all of the table.
pub records-whole : (size : ℕ) → IsSize size → (t : List ℕ) → length t % size ≡ 0 → size * records_in size t ≡ length t
records-whole size (inl e) t w = let z : length t % 8 ≡ 0 = rw e at w in rw e (omega arith)
records-whole size (inr e) t w = let z : length t % 16 ≡ 0 = rw e at w in rw e (omega arith)

module _ (size : ℕ) (t : List ℕ) where
  -- ---- Host bits.
  -- A record's length and hop are as its bytes have them.
  pub in_len : (i : ℕ) → (route_in size t i).len ≡ (raw_in size t i).len
  unfolding route_in
  in_len i = refl

  pub in_length : (i : ℕ) → (route_in size t i).len ≡ byte_in size t i (octets_in size)
  unfolding route_in raw_in
  in_length i = refl

  pub in_hop : (i : ℕ) → (route_in size t i).hop ≡ byte_in size t i (octets_in size + 1)
  unfolding route_in raw_in
  in_hop i = refl

  -- Without host bits its route is the record as it stands.
  pub in_raw : (i : ℕ) → (raw_in size t i).addr % 2 ^ (width_in size - (raw_in size t i).len) ≡ 0 → route_in size t i ≡ raw_in size t i
  unfolding route_in
  in_raw i z =
      let r = raw_in size t i in
      let e : start_of (width_in size - r.len) r.addr ≡ r.addr = omega (arith, split r.addr (width_in size - r.len)) in
      ap (λ (a : ℕ). record { addr = a; len = r.len; hop = r.hop }) e

  -- An address has no more bits than the width.
  pub raw_small : IsSize size → Bytes t → (i : ℕ) → (raw_in size t i).addr < 2 ^ width_in size
  unfolding raw_in
  raw_small is bytes i = subst (λ (m : ℕ). number t (size * i) (octets_in size) < m) (size_width size is) (number_small t bytes (size * i) (octets_in size))

  -- With host bits or without, its route is valid.
  pub in_valid : IsSize size → Bytes t → (i : ℕ) → (route_in size t i).len ≤ width_in size → Valid (width_in size) (route_in size t i)
  unfolding route_in
  in_valid is bytes i short = masked-valid (width_in size) (raw_in size t i) short (raw_small is bytes i)

  -- The records as they stand.
  abbrev pub raws_in : ℕ → ℕ → List Route
  raws_in i zero = []
  raws_in i (suc k) = raw_in size t i ∷ raws_in (suc i) k

  lookup_from : (x i k : ℕ) → lookup (width_in size) (routes_from_in size t i k) x ≡ lookup (width_in size) (raws_in i k) x
  unfolding routes_from_in route_in
  lookup_from x i zero = refl
  lookup_from x i (suc k) =
      ap₂ longer (ap (λ b. cond b (hit (raw_in size t i).len (raw_in size t i).hop) miss) (masked-matches (width_in size) x (raw_in size t i))) (lookup_from x (suc i) k)

  -- Host bits don't count: at every address the longest match is that among the records as they stand.
  pub in_lookup_raw : (x : ℕ) → lookup (width_in size) (routes_in size t) x ≡ lookup (width_in size) (raws_in 0 (records_in size t)) x
  unfolding routes_in
  in_lookup_raw x = lookup_from x 0 (records_in size t)

  -- ---- Record by record.
  -- The routes from record i on.
  abbrev pub rest_in : ℕ → List Route
  rest_in i = routes_from_in size t i (records_in size t - i)

  -- Behind the last record there are none.
  pub in_rest_end : (i : ℕ) → i ≡ records_in size t → rest_in i ≡ []
  unfolding routes_from_in
  in_rest_end i e =
      let z : records_in size t - i ≡ 0 = omega arith in
      rw z

  -- From record 0 on they are the table's.
  pub in_rest_all : (i : ℕ) → i ≡ 0 → rest_in i ≡ routes_in size t
  unfolding routes_in
  in_rest_all i e = ap₂ (routes_from_in size t) e (omega arith)

  -- One record more in front.
  pub in_rest_step : (i : ℕ) → 0 < i → i ≤ records_in size t → rest_in (i - 1) ≡ route_in size t (i - 1) ∷ rest_in i
  unfolding routes_from_in
  in_rest_step i p h =
      let e : records_in size t - (i - 1) ≡ suc (records_in size t - i) = omega arith in
      let f : suc (i - 1) ≡ i = omega arith in
      ap (routes_from_in size t (i - 1)) e ∙ ap (λ (j : ℕ). route_in size t (i - 1) ∷ routes_from_in size t j (records_in size t - i)) f

  -- The same, from the record in front on.
  pub in_rest_next : (i : ℕ) → i < records_in size t → rest_in i ≡ route_in size t i ∷ rest_in (i + 1)
  in_rest_next i lt = let e : i + 1 - 1 ≡ i = omega arith in rw e at (in_rest_step (i + 1) (omega arith) (omega arith))

  -- What holds of the routes from record i on holds of that of record i and of those after it.
  pub in_all_next : {P : Route → Type 0} (i : ℕ) → i < records_in size t → All P (rest_in i) → P (route_in size t i) × All P (rest_in (i + 1))
  in_all_next {P} i lt ps = go (rw (in_rest_next i lt) at ps)
    where
      go : {r : Route} {rs : List Route} → All P (r ∷ rs) → P r × All P rs
      go (cons p ps) = (p, ps)

  -- ---- By their numbers.
  -- The routes of k records from record lo on are those of these numbers.
  pub in_counted : (lo k : ℕ) → routes_from_in size t lo k ≡ counted (route_in size t) lo k
  unfolding routes_from_in
  in_counted lo zero = refl
  in_counted lo (suc k) = ap (λ (u : List Route). route_in size t lo ∷ u) (in_counted (suc lo) k)

  -- A table's routes are those of its records' numbers.
  pub in_numbered : routes_in size t ≡ numbered (route_in size t) 0 (records_in size t)
  unfolding routes_in
  in_numbered = in_counted 0 (records_in size t) ∙ ap (counted (route_in size t) 0) (sym (sub-zero (records_in size t)))

  -- ---- How many they are.
  -- There are as many as asked for.
  pub in_length_from : (i k : ℕ) → length (routes_from_in size t i k) ≡ k
  unfolding routes_from_in
  in_length_from i zero = refl
  in_length_from i (suc k) = ap suc (in_length_from (suc i) k)

  -- There is a route for each whole record.
  pub in_length_routes : length (routes_in size t) ≡ records_in size t
  unfolding routes_in
  in_length_routes = in_length_from 0 (records_in size t)
