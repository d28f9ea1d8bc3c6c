-- The rules 3 to 8 over the size of a record test document 01's conditions, and stand in the order of the checks. Assumes nothing.
use Prim.{tt}
use mathlib.Core.Path.{◌≡◌, refl, sym, ap, ◌∙◌, subst}
use mathlib.Core.Bool.{Bool, true, false, not, ◌||◌, and-eq-true_iff}
use mathlib.Core.List.{List, [], ◌∷◌, ◌++◌}
use mathlib.Core.Logic.{inl, inr, ⊎_elim, ◌↔◌}
use Prim.Native.Nat.{ℕ, zero, suc, ◌+◌, ◌-◌, ◌*◌, ◌%◌, ◌^◌, ◌≤◌, ◌<◌}
use native.Mathlib.Omega.{arith}
use lib.Dec.{eqb, leb, ltb}
use lib.ListN.{length, get_or}
use borrow.Author.Tests.{eqb-true, eqb-false, eq-eqb, ne_eqb, leb-true, leb-false, le-leb, lt-leb, ltb-true, lt-ltb, le-ltb}
use Rattle.theory.specs.Routes.{Route, Before}
use Rattle.words.specs.Prefix.{host_clear}
use Rattle.refusals.specs.Rules.{Rule, rule}
use Rattle.refusals.specs.Order.{rank, Earlier}
use Rattle.refusals.proofs.Shown.{Shows, yes, no, shown, fails, refuted}
use Rattle.refusals.proofs.Judged.{Broken, InOrder}
use Rattle.refusals.proofs.Ranked.{broken-append, broken-left, broken-right, in_order_append, sound-each, sound-append, singles, ranked_append, Ranked}
use Rattle.records.specs.Sized.{IsSize, octets_in, width_in, byte_in, clear, raw_in, route_in, records_in, RestZero}
use Rattle.records.proofs.SizedReading.{size_parts}
use Rattle.records.proofs.Numbers.{clear_zero, zero_clear}
use Rattle.table.specs.SizedRules.{host_kept_in, tail_kept_in, in_order_in, record_rules_in, rules_from_in, table_rules_in, top_hop, before}
use Rattle.table.specs.SizedConditions.{LengthKeptIn, HostClearIn, HostKeptIn, TailKeptIn, OrderKeptIn, RecordConditionIn, too_long, host_bits, bad_tail, not_after, TableConditionIn, not_whole, too_many, of_record}

-- ---- Each rule's test says whether its fact holds.
-- Table order.
pub before-shown : (r s : Route) → Shows (Before r s) (before r s)
before-shown r s = shown (before r s) (λ e. into e (ltb r.addr s.addr) refl) from
  where
    into : before r s ≡ true → (b : Bool) → ltb r.addr s.addr ≡ b → Before r s
    into e true p = inl (ltb-true r.addr s.addr p)
    into e false p =
        let both = (and-eq-true_iff (eqb r.addr s.addr) (ltb r.len s.len)).0 (rw p at e) in
        inr (eqb-true r.addr s.addr both.0, ltb-true r.len s.len both.1)

    from : Before r s → before r s ≡ true
    from (inl h) = simp (lt-ltb r.addr s.addr h)
    from (inr h) =
        simp (le-ltb r.addr s.addr (omega arith), eq-eqb r.addr s.addr h.0, lt-ltb r.len s.len h.1)

asked : {P : Type 0} {b : Bool} → Shows P b → Shows (true ≡ true → P) b
asked (yes p) = yes (λ e. p)
asked (no n) = no (λ h. n (h refl))

module _ (size : ℕ) (is : IsSize size) where
  -- Rule 5.
  pub in_length_shown : (t : List ℕ) (i : ℕ) → Shows (LengthKeptIn size t i) (leb (route_in size t i).len (width_in size))
  in_length_shown t i = shown (leb (route_in size t i).len (width_in size)) (leb-true (route_in size t i).len (width_in size)) (le-leb (route_in size t i).len (width_in size))

  -- Rule 6.
  pub in_host_shown : (strict : Bool) (t : List ℕ) (i : ℕ) → Shows (HostKeptIn size strict t i) (host_kept_in size strict t i)
  in_host_shown strict t i = go strict
    where
      none : Shows (HostClearIn size t i) (host_clear (width_in size) (raw_in size t i).addr (raw_in size t i).len)
      none =
          shown (host_clear (width_in size) (raw_in size t i).addr (raw_in size t i).len) (eqb-true ((raw_in size t i).addr % 2 ^ (width_in size - (raw_in size t i).len)) 0)
          (eq-eqb ((raw_in size t i).addr % 2 ^ (width_in size - (raw_in size t i).len)) 0)

      go : (b : Bool) → Shows (b ≡ true → HostClearIn size t i) (not b || host_clear (width_in size) (raw_in size t i).addr (raw_in size t i).len)
      go true = asked none
      go false = yes (λ e. let z : ◌≡◌ {A = ℕ} 0 1 = cc in absurd (omega arith))

  -- Rule 7.
  rest_clear : (t : List ℕ) (i : ℕ) → clear t (size * i + (octets_in size + 2)) (octets_in size - 2) ≡ true → RestZero size t i
  rest_clear t i e k l h =
      let n = octets_in size in
      let parts = size_parts size is in
      let same : size * i + k ≡ size * i + (n + 2) + (k - (n + 2)) = omega arith in
      ap (λ (m : ℕ). get_or t m 0) same ∙ clear_zero t (size * i + (n + 2)) (n - 2) e (k - (n + 2)) (omega arith)

  pub clear_rest : (t : List ℕ) (i : ℕ) → RestZero size t i → clear t (size * i + (octets_in size + 2)) (octets_in size - 2) ≡ true
  clear_rest t i z =
      let n = octets_in size in
      let parts = size_parts size is in
      zero_clear t (size * i + (n + 2)) (n - 2)
      (λ j h. let same : size * i + (n + 2) + j ≡ size * i + (n + 2 + j) = omega arith in ap (λ (m : ℕ). get_or t m 0) same ∙ z (n + 2 + j) (omega arith) (omega arith))

  pub in_tail_shown : (s : Bool) (t : List ℕ) (i : ℕ) → Shows (TailKeptIn size s t i) (tail_kept_in size s t i)
  in_tail_shown s t i = shown (tail_kept_in size s t i) into from
    where
      into : tail_kept_in size s t i ≡ true → TailKeptIn size s t i
      into e =
          let p = (and-eq-true_iff (leb (byte_in size t i (octets_in size + 1)) (top_hop s)) (clear t (size * i + (octets_in size + 2)) (octets_in size - 2))).0 e in
          (leb-true (byte_in size t i (octets_in size + 1)) (top_hop s) p.0, rest_clear t i p.1)

      from : TailKeptIn size s t i → tail_kept_in size s t i ≡ true
      from k = simp (le-leb (byte_in size t i (octets_in size + 1)) (top_hop s) k.0, clear_rest t i k.1)

  -- Rule 8.
  pub in_order_shown : (t : List ℕ) (i : ℕ) → Shows (OrderKeptIn size t i) (in_order_in size t i)
  in_order_shown t zero = yes tt
  in_order_shown t (suc i) = before-shown (route_in size t i) (route_in size t (suc i))

  module _ (strict s : Bool) (t : List ℕ) where
    -- ---- Rules 5 to 8 test the conditions of records.
    record_broken : (i n j : ℕ) → Broken (record_rules_in size strict s t i) n j → RecordConditionIn size strict s t i n × (i ≡ j)
    unfolding record_rules_in
    record_broken i n j (inl b) = (subst (RecordConditionIn size strict s t i) b.1 (too_long (refuted (in_length_shown t i) b.0)), b.2)
    record_broken i n j (inr (inl b)) = (subst (RecordConditionIn size strict s t i) b.1 (host_bits (refuted (in_host_shown strict t i) b.0)), b.2)
    record_broken i n j (inr (inr (inl b))) = (subst (RecordConditionIn size strict s t i) b.1 (bad_tail (refuted (in_tail_shown s t i) b.0)), b.2)
    record_broken i n j (inr (inr (inr (inl b)))) = (subst (RecordConditionIn size strict s t i) b.1 (not_after (refuted (in_order_shown t i) b.0)), b.2)
    record_broken i n j (inr (inr (inr (inr b)))) = absurd b

    record_breaks : (i n : ℕ) → RecordConditionIn size strict s t i n → Broken (record_rules_in size strict s t i) n i
    unfolding record_rules_in
    record_breaks i n (too_long f) = inl (fails (in_length_shown t i) f, refl, refl)
    record_breaks i n (host_bits f) = inr (inl (fails (in_host_shown strict t i) f, refl, refl))
    record_breaks i n (bad_tail f) = inr (inr (inl (fails (in_tail_shown s t i) f, refl, refl)))
    record_breaks i n (not_after f) = inr (inr (inr (inl (fails (in_order_shown t i) f, refl, refl))))

    scan_broken : (i k n j : ℕ) → Broken (rules_from_in size strict s t i k) n j → (i ≤ j) × (j < i + k) × RecordConditionIn size strict s t j n
    unfolding rules_from_in
    scan_broken i zero n j b = absurd b
    scan_broken i (suc k) n j b =
        ⊎_elim
        (λ c. let f = record_broken i n j c in let e = f.1 in (omega arith, omega arith, subst (λ (m : ℕ). RecordConditionIn size strict s t m n) e f.0))
        (λ c. let f = scan_broken (suc i) k n j c in (omega (arith, f.0), omega (arith, f.1), f.2))
        (broken-append (record_rules_in size strict s t i) (rules_from_in size strict s t (suc i) k) n j b)

    scan_breaks : (i k n j : ℕ) → i ≤ j → j < i + k → RecordConditionIn size strict s t j n → Broken (rules_from_in size strict s t i k) n j
    unfolding rules_from_in
    scan_breaks i zero n j l h c = absurd (omega arith)
    scan_breaks i (suc k) n j l h c = go (eqb i j) refl (λ m. scan_breaks (suc i) k n j m)
      where
        go : (d : Bool) → eqb i j ≡ d → (suc i ≤ j → j < suc i + k → RecordConditionIn size strict s t j n → Broken (rules_from_in size strict s t (suc i) k) n j)
            → Broken (record_rules_in size strict s t i ++ rules_from_in size strict s t (suc i) k) n j
        go true q more =
            let e : i ≡ j = eqb-true i j q in
            rw e (broken-left (record_rules_in size strict s t j) (rules_from_in size strict s t (suc j) k) n j (record_breaks j n c))
        go false q more =
            let ne = eqb-false i j q in
            broken-right (record_rules_in size strict s t i) (rules_from_in size strict s t (suc i) k) n j (more (omega arith) (omega arith) c)

    -- ---- Rules 3 to 8 test the conditions of a table.
    abbrev front : List Rule
    front = rule 3 0 (eqb (length t % size) 0) ∷ rule 4 0 (leb (records_in size t) 1024) ∷ []

    table-broken : (n i : ℕ) → Broken (table_rules_in size strict s t) n i → TableConditionIn size strict s t n i
    unfolding table_rules_in
    table-broken =
        sound-append (TableConditionIn size strict s t) front (rules_from_in size strict s t 0 (records_in size t))
        (sound-each (TableConditionIn size strict s t) front
        (λ e. not_whole (eqb-false (length t % size) 0 e), (λ e. too_many (leb-false (records_in size t) 1024 e), tt)))
        (λ n i b. let f = scan_broken 0 (records_in size t) n i b in of_record {n = n} {i = i} (omega (arith, f.1)) f.2)

    table_breaks : (n i : ℕ) → TableConditionIn size strict s t n i → Broken (table_rules_in size strict s t) n i
    unfolding table_rules_in
    table_breaks n i (not_whole f) = inl (ne_eqb (length t % size) 0 f, refl, refl)
    table_breaks n i (too_many h) = inr (inl (lt-leb (records_in size t) 1024 h, refl, refl))
    table_breaks n i (of_record h c) = inr (inr (scan_breaks 0 (records_in size t) n i (omega arith) (omega arith) c))

    pub in_table_tests : (n i : ℕ) → Broken (table_rules_in size strict s t) n i ↔ TableConditionIn size strict s t n i
    in_table_tests n i = (table-broken n i, table_breaks n i)

    -- ---- Their order.
    record_rank : (i n : ℕ) → RecordConditionIn size strict s t i n → rank n ≡ 6
    unfolding rank
    record_rank i n (too_long f) = refl
    record_rank i n (host_bits f) = refl
    record_rank i n (bad_tail f) = refl
    record_rank i n (not_after f) = refl

    abbrev six : ℕ → Rule
    six i = rule 6 i (host_kept_in size strict t i)

    abbrev seven : ℕ → Rule
    seven i = rule 7 i (tail_kept_in size s t i)

    abbrev eight : ℕ → Rule
    eight i = rule 8 i (in_order_in size t i)

    record_in_order : (i : ℕ) → InOrder (record_rules_in size strict s t i)
    unfolding record_rules_in rank
    record_in_order i = (
      λ p. sound-each (Earlier 5 i) (six i ∷ seven i ∷ eight i ∷ []) (λ e. next 5 6 refl (omega arith), (λ e. next 5 7 refl (omega arith), (λ e. next 5 8 refl (omega arith), tt))),
      (
        λ p. sound-each (Earlier 6 i) (seven i ∷ eight i ∷ []) (λ e. next 6 7 refl (omega arith), (λ e. next 6 8 refl (omega arith), tt)),
        (λ p. sound-each (Earlier 7 i) (eight i ∷ []) (λ e. next 7 8 refl (omega arith), tt), (λ p n j b. absurd b, tt)),
      ),
    )
      where
        next : (m n : ℕ) → rank m ≡ rank n → m < n → Earlier m i n i
        next m n e h = inr (e, inr (refl, h))

    scan_in_order : (i k : ℕ) → InOrder (rules_from_in size strict s t i k)
    unfolding rules_from_in
    scan_in_order i zero = tt
    scan_in_order i (suc k) = in_order_append (record_rules_in size strict s t i) (rules_from_in size strict s t (suc i) k) (record_in_order i) (scan_in_order (suc i) k) onward
      where
        onward : (m a n b : ℕ) → Broken (record_rules_in size strict s t i) m a → Broken (rules_from_in size strict s t (suc i) k) n b → Earlier m a n b
        onward m a n b c d =
            let f = record_broken i m a c in
            let g = scan_broken (suc i) k n b d in
            let e = f.1 in
            inr (record_rank i m f.0 ∙ sym (record_rank b n g.2), inl (omega (arith, g.0)))

    -- They stand in the order of the checks, at the ranks of 3 to 8.
    pub in_table_ranked : Ranked 4 7 (table_rules_in size strict s t)
    unfolding table_rules_in rank
    in_table_ranked =
        let scan : Ranked 6 7 (rules_from_in size strict s t 0 (records_in size t)) =
        record {
          order = scan_in_order 0 (records_in size t);
          from = λ n i b. let e = record_rank i n (scan_broken 0 (records_in size t) n i b).2 in omega arith;
          below = λ n i b. let e = record_rank i n (scan_broken 0 (records_in size t) n i b).2 in omega arith;
        } in
        ranked_append 4 6 7 front (rules_from_in size strict s t 0 (records_in size t)) (omega arith) (omega arith) (singles 4 6 front refl).1 scan

  -- The numbers that a table's conditions have.
  pub in_table_numbers : (strict s : Bool) (t : List ℕ) (n i : ℕ) → TableConditionIn size strict s t n i → (3 ≤ n) × (n ≤ 8)
  in_table_numbers strict s t n i (not_whole f) = (omega arith, omega arith)
  in_table_numbers strict s t n i (too_many h) = (omega arith, omega arith)
  in_table_numbers strict s t n i (of_record h (too_long f)) = (omega arith, omega arith)
  in_table_numbers strict s t n i (of_record h (host_bits f)) = (omega arith, omega arith)
  in_table_numbers strict s t n i (of_record h (bad_tail f)) = (omega arith, omega arith)
  in_table_numbers strict s t n i (of_record h (not_after f)) = (omega arith, omega arith)
