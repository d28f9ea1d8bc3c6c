-- From routes to bytes and back over the size of a record, 8 bytes or 16: reading the records of routes gives the routes, and writing the routes of a
-- table without host bits gives its bytes. Assumes nothing.
use mathlib.Core.Path.{◌≡◌, refl, sym, ap, ap₂, ◌∙◌}
use mathlib.Core.List.{List, [], ◌∷◌, ◌++◌, append-nil, append_assoc}
use mathlib.Core.Logic.{inl, inr}
use Prim.Native.Nat.{ℕ, zero, suc, ◌+◌, ◌-◌, ◌*◌, ◌%◌, ◌^◌, ◌≤◌, ◌<◌}
use native.Mathlib.Nat.{zero-add, suc-add, add-zero, mul-suc, mul-zero}
use native.Mathlib.Omega.{arith}
use lib.ListN.{length, get_or, take, drop, replicate, length-append, length-replicate}
use lib.Seq.{get_or-append-add, take_all, take-add, drop-drop, drop-cons}
use Rattle.theory.specs.Routes.{Route, Valid, All, cons}
use Rattle.theory.specs.Results.{masked}
use Rattle.theory.proofs.Masked.{masked_same}
use Rattle.records.specs.Sized.{IsSize, octets_in, width_in, byte_in, number, raw_in, route_in, routes_from_in, records_in, routes_in, RestZero, octets_of, record_in, bytes_in, Bytes}
use Rattle.records.proofs.Numbers.{number_cong, length_octets, number_octets, octets_number, take-zeros, bytes_after, byte-before, octets_bytes, zeros-bytes}
use Rattle.records.proofs.SizedReading.{size_parts, size_width, width_most, records-whole}

module _ (size : ℕ) (is : IsSize size) where
  -- ---- Reading what is written.
  -- So many bytes a route.
  pub length_record : (r : Route) → length (record_in size r) ≡ size
  unfolding record_in
  length_record r =
      length-append (octets_of (octets_in size) r.addr) (r.len ∷ r.hop ∷ replicate (octets_in size - 2) 0)
      ∙ ap₂ ◌+◌ (length_octets (octets_in size) r.addr) (ap (λ (n : ℕ). suc (suc n)) (length-replicate (octets_in size - 2) 0))
      ∙ sym (size_parts size is)

  pub in_length_bytes : (rs : List Route) → length (bytes_in size rs) ≡ size * length rs
  unfolding bytes_in
  in_length_bytes [] = sym (mul-zero size)
  in_length_bytes (r ∷ rs) =
      omega (arith, length-append (record_in size r) (bytes_in size rs), length_record r, in_length_bytes rs, mul-suc size (length rs))

  -- A record a route.
  pub in_records_bytes : (rs : List Route) → records_in size (bytes_in size rs) ≡ length rs
  in_records_bytes rs = go is (in_length_bytes rs)
    where
      go : IsSize size → length (bytes_in size rs) ≡ size * length rs → records_in size (bytes_in size rs) ≡ length rs
      go (inl e) n = rw (n, e) (omega arith)
      go (inr e) n = rw (n, e) (omega arith)

  -- Behind a record the bytes are those of the records behind it.
  pub in_byte_shift : (r : Route) (t : List ℕ) (i k : ℕ) → byte_in size (record_in size r ++ t) (suc i) k ≡ byte_in size t i k
  in_byte_shift r t i k =
      let e : size * suc i + k ≡ length (record_in size r) + (size * i + k) = omega (arith, mul-suc size i, length_record r) in
      ap (λ (m : ℕ). get_or (record_in size r ++ t) m 0) e ∙ get_or-append-add (record_in size r) t (size * i + k) 0

  -- So are the records, and the routes.
  pub in_raw_shift : (r : Route) (t : List ℕ) (i : ℕ) → raw_in size (record_in size r ++ t) (suc i) ≡ raw_in size t i
  unfolding raw_in
  in_raw_shift r t i =
      simp (
        number_cong (record_in size r ++ t) t (size * suc i) (size * i) (octets_in size) (λ j h. in_byte_shift r t i j),
        in_byte_shift r t i,
      )

  pub in_route_shift : (r : Route) (t : List ℕ) (i : ℕ) → route_in size (record_in size r ++ t) (suc i) ≡ route_in size t i
  unfolding route_in
  in_route_shift r t i = ap (masked (width_in size)) (in_raw_shift r t i)

  -- The bytes of the first record: the octets, then the length and the hop.
  front : (r : Route) (t : List ℕ) → record_in size r ++ t ≡ octets_of (octets_in size) r.addr ++ (r.len ∷ r.hop ∷ (replicate (octets_in size - 2) 0 ++ t))
  unfolding record_in
  front r t = append_assoc (octets_of (octets_in size) r.addr) (r.len ∷ r.hop ∷ replicate (octets_in size - 2) 0) t

  -- Byte k behind the octets of the first record.
  behind : (r : Route) (t : List ℕ) (k : ℕ) → byte_in size (record_in size r ++ t) 0 (octets_in size + k) ≡ get_or (r.len ∷ r.hop ∷ (replicate (octets_in size - 2) 0 ++ t)) k 0
  behind r t k =
      let e : size * 0 + (octets_in size + k) ≡ length (octets_of (octets_in size) r.addr) + k = omega (arith, mul-zero size, length_octets (octets_in size) r.addr) in
      ap₂ (λ (l : List ℕ) (m : ℕ). get_or l m 0) (front r t) e
      ∙ get_or-append-add (octets_of (octets_in size) r.addr) (r.len ∷ r.hop ∷ (replicate (octets_in size - 2) 0 ++ t)) k 0

  pub in_hop_head : (r : Route) (t : List ℕ) → byte_in size (record_in size r ++ t) 0 (octets_in size + 1) ≡ r.hop
  in_hop_head r t = behind r t 1

  -- The first record has the route as it is, and without host bits it is the route.
  pub in_raw_head : (r : Route) (t : List ℕ) → r.addr < 2 ^ width_in size → raw_in size (record_in size r ++ t) 0 ≡ r
  unfolding raw_in
  in_raw_head r t h =
      let n = octets_in size in
      let addr : number (record_in size r ++ t) (size * 0) n ≡ r.addr =
      ap₂ (λ (l : List ℕ) (k : ℕ). number l k n) (front r t) (mul-zero size)
      ∙ number_octets n r.addr (r.len ∷ r.hop ∷ (replicate (n - 2) 0 ++ t)) (omega (arith, size_width size is)) in
      let len : byte_in size (record_in size r ++ t) 0 n ≡ r.len = ap (byte_in size (record_in size r ++ t) 0) (sym (add-zero n)) ∙ behind r t 0 in
      simp (addr, len, in_hop_head r t)

  pub in_route_head : (r : Route) (t : List ℕ) → Valid (width_in size) r → route_in size (record_in size r ++ t) 0 ≡ r
  unfolding route_in
  in_route_head r t v = ap (masked (width_in size)) (in_raw_head r t v.small) ∙ masked_same (width_in size) r v

  routes_shift : (r : Route) (t : List ℕ) (i k : ℕ) → routes_from_in size (record_in size r ++ t) (suc i) k ≡ routes_from_in size t i k
  unfolding routes_from_in
  routes_shift r t i zero = refl
  routes_shift r t i (suc k) = ap₂ ◌∷◌ (in_route_shift r t i) (routes_shift r t (suc i) k)

  -- The routes of routes' records, and of k records behind them, are those routes, and then those of the k.
  pub in_routes_front : (rs : List Route) → All (Valid (width_in size)) rs → (t : List ℕ) (k : ℕ)
      → routes_from_in size (bytes_in size rs ++ t) 0 (length rs + k) ≡ rs ++ routes_from_in size t 0 k
  unfolding routes_from_in bytes_in
  in_routes_front [] v t k = rw zero-add
  in_routes_front (r ∷ rs) (cons v vs) t k =
      let e = append_assoc (record_in size r) (bytes_in size rs) t in
      ap₂ (λ (l : List ℕ) (n : ℕ). routes_from_in size l 0 n) e (suc-add (length rs) k)
      ∙ ap₂ ◌∷◌ (in_route_head r (bytes_in size rs ++ t) v) (routes_shift r (bytes_in size rs ++ t) 0 (length rs + k) ∙ in_routes_front rs vs t k)

  -- The routes of routes' records are those routes.
  pub in_routes_bytes : (rs : List Route) → All (Valid (width_in size)) rs → routes_in size (bytes_in size rs) ≡ rs
  unfolding routes_in routes_from_in
  in_routes_bytes rs v =
      ap₂ (λ (l : List ℕ) (n : ℕ). routes_from_in size l 0 n) (sym (append-nil (bytes_in size rs))) (in_records_bytes rs ∙ sym (add-zero (length rs)))
      ∙ in_routes_front rs v [] 0
      ∙ append-nil rs

  -- Behind the hop a written record has zeros.
  pub in_rest_head : (r : Route) (t : List ℕ) → RestZero size (record_in size r ++ t) 0
  in_rest_head r t k l h =
      let n = octets_in size in
      let e : k ≡ n + suc (suc (k - (n + 2))) = omega arith in
      ap (byte_in size (record_in size r ++ t) 0) e
      ∙ behind r t (suc (suc (k - (n + 2))))
      ∙ zeros (n - 2) (k - (n + 2)) (omega (arith, size_parts size is))
    where
      zeros : (m j : ℕ) → j < m → get_or (replicate m 0 ++ t) j 0 ≡ 0
      zeros zero j h = absurd (omega arith)
      zeros (suc m) zero h = refl
      zeros (suc m) (suc j) h = zeros m j (omega arith)

  -- The bytes behind a record's hop are those of the records behind the first.
  pub in_rest_shift : (r : Route) (t : List ℕ) (i : ℕ) → RestZero size t i → RestZero size (record_in size r ++ t) (suc i)
  in_rest_shift r t i z k l h = in_byte_shift r t i k ∙ z k l h

  -- ---- Writing what is read.
  module _ (t : List ℕ) (bytes : Bytes t) where
    record_read : (i : ℕ) → size * i + size ≤ length t → RestZero size t i → record_in size (raw_in size t i) ≡ take size (drop (size * i) t)
    unfolding raw_in record_in
    record_read i h z =
        let n = octets_in size in
        let m = n - 2 in
        let k = size * i in
        let parts = size_parts size is in
        let len : drop (k + n) t ≡ get_or t (k + n) 0 ∷ drop (suc (k + n)) t = drop-cons t (k + n) 0 (omega arith) in
        let hop : drop (suc (k + n)) t ≡ get_or t (suc (k + n)) 0 ∷ drop (suc (suc (k + n))) t = drop-cons t (suc (k + n)) 0 (omega arith) in
        let one : k + (n + 1) ≡ suc (k + n) = omega arith in
        let rest : take m (drop (suc (suc (k + n))) t) ≡ replicate m 0 =
        take-zeros t (suc (suc (k + n))) m (omega arith)
        (λ j l. let e : suc (suc (k + n)) + j ≡ k + (n + 2 + j) = omega arith in ap (λ (p : ℕ). get_or t p 0) e ∙ z (n + 2 + j) (omega arith) (omega arith)) in
        ap₂ ◌++◌ (octets_number t bytes k n (omega arith))
        (ap₂ (λ (a : ℕ) (l : List ℕ). get_or t (k + n) 0 ∷ get_or t a 0 ∷ l) one (sym rest)
        ∙ ap (λ (l : List ℕ). take (suc (suc m)) (get_or t (k + n) 0 ∷ l)) (sym hop)
        ∙ ap (take (suc (suc m))) (sym len ∙ sym (drop-drop n k t)))
        ∙ sym (take-add n (suc (suc m)) (drop k t))
        ∙ ap (λ (p : ℕ). take p (drop k t)) (sym parts)

    -- A record that is written as it was read: behind the hop it has zeros, and it has no host bits.
    abbrev pub PlainIn : ℕ → Type 0
    PlainIn j = RestZero size t j × (route_in size t j ≡ raw_in size t j)

    read_back : (i k : ℕ) → size * i + size * k ≤ length t → ((j : ℕ) → j < i + k → PlainIn j)
        → bytes_in size (routes_from_in size t i k) ≡ take (size * k) (drop (size * i) t)
    unfolding routes_from_in bytes_in
    read_back i zero h z = ap (λ (m : ℕ). take m (drop (size * i) t)) (sym (mul-zero size))
    read_back i (suc k) h z =
        let e : size * suc k ≡ size + size * k = omega (arith, mul-suc size k) in
        let f : size * i + size ≡ size * suc i = omega (arith, mul-suc size i) in
        let p = z i (omega arith) in
        ap₂ ◌++◌ (ap (record_in size) p.1 ∙ record_read i (omega arith) p.0)
        (read_back (suc i) k (omega arith) (λ j l. z j (omega arith))
        ∙ ap (λ (m : ℕ). take (size * k) (drop m t)) (sym f)
        ∙ ap (take (size * k)) (sym (drop-drop size (size * i) t)))
        ∙ sym (ap (λ (m : ℕ). take m (drop (size * i) t)) e ∙ take-add size (size * k) (drop (size * i) t))

    -- The records of the routes of whole records that are so are those records.
    pub in_bytes_back : length t % size ≡ 0 → ((j : ℕ) → j < records_in size t → PlainIn j) → bytes_in size (routes_in size t) ≡ t
    unfolding routes_in
    in_bytes_back w z =
        let n = records-whole size is t w in
        read_back 0 (records_in size t) (omega (arith, mul-zero size)) (λ j l. z j (omega arith))
        ∙ ap (λ (m : ℕ). take (size * records_in size t) (drop m t)) (mul-zero size)
        ∙ take_all (size * records_in size t) t (omega arith)

  record_bytes : (r : Route) → r.len < 256 → r.hop < 256 → Bytes (record_in size r)
  unfolding record_in
  record_bytes r l h =
      bytes_after (octets_of (octets_in size) r.addr) (r.len ∷ r.hop ∷ replicate (octets_in size - 2) 0) (octets_bytes (octets_in size) r.addr)
      (byte-before r.len (r.hop ∷ replicate (octets_in size - 2) 0) l (byte-before r.hop (replicate (octets_in size - 2) 0) h (zeros-bytes (octets_in size - 2))))

  -- Routes' records are bytes.
  pub in_bytes_small : (rs : List Route) → All (Valid (width_in size)) rs → All (λ r. r.hop < 256) rs → Bytes (bytes_in size rs)
  unfolding bytes_in
  in_bytes_small [] v h = λ k. omega arith
  in_bytes_small (r ∷ rs) (cons v vs) (cons h hs) =
      let len : r.len < 256 = omega (arith, v.short, width_most size is) in
      bytes_after (record_in size r) (bytes_in size rs) (record_bytes r len h) (in_bytes_small rs vs hs)
