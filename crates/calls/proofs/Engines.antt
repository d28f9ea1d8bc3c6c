-- The demands of any engine. Demand 1 by what its rules test; demands 2 and 3 wherever its rules are guarded, so that an answer with records means an
-- accepted table, a known mode, a hop for a default, lawful ranks and an output that is long enough. Assumes of a table, where it says so, that its elements are bytes.
use mathlib.Core.Path.{◌≡◌, refl, sym, ap, ap₂, ◌∙◌, subst}
use mathlib.Core.Bool.{Bool, true, false}
use mathlib.Core.List.{List, ◌++◌}
use mathlib.Core.Logic.Iff
use mathlib.Core.Logic.{inl, inr, ◌↔◌}
use Prim.Native.Nat.{ℕ, zero, suc, ◌*◌, ◌^◌, ◌≤◌, ◌<◌}
use native.Mathlib.Omega.{arith}
use lib.IntN.{ℤ, pos, ◌-ℤ◌, +ℤ_invr}
use lib.ListN.{length, take, drop, length-append, length-drop}
use lib.Seq.{take_at}
use Rattle.refusals.specs.Numbers.{number_of}
use Rattle.std.specs.Prelude.{Ok, Err}
use Rattle.theory.specs.Routes.{Route, All, Table, held, answer, filled, Alike}
use Rattle.theory.specs.Results.{result}
use Rattle.theory.specs.Ranks.{lowest}
use Rattle.theory.specs.Demands.{Keeps, HopIn, HopFrom}
use Rattle.theory.proofs.Lists.{all_map, all_member}
use Rattle.theory.proofs.Ranks.{lowest_chooses}
use Rattle.theory.proofs.Modes.{result-keeps, result-table, result-hops, result_again, drop_alike, fill_alike, set_alike}
use Rattle.refusals.specs.Rules.{Rule, Reply, gives, refuses, judge}
use Rattle.refusals.specs.Order.{First, None}
use Rattle.refusals.proofs.Judged.{Broken, InOrder, gives_any, gives-exactly, refuses-exactly}
use Rattle.records.specs.Sized.{width_in, records_in, routes_in, bytes_in, Bytes}
use Rattle.records.specs.declared.Form.{Form}
use Rattle.records.specs.Forms.{size_of}
use Rattle.records.proofs.SizedReading.{form_size}
use Rattle.records.proofs.SizedWritten.{in_length_bytes, in_records_bytes, in_routes_bytes, in_bytes_small}
use Rattle.table.specs.SizedRules.{top_hop}
use Rattle.table.specs.SizedConditions.{AcceptedIn, LawfulIn}
use Rattle.table.proofs.SizedTables.{in_lawful, in_accepted_written}
use Rattle.calls.specs.Conditions.{Answerable, Guarded}
use Rattle.calls.specs.Rewriting.{InUse, mode_of, result_of, takes_set, Written, reply_by, written_of, output_of, rewritten_says, count_of, change_of, RewritesBy, Outcome, records_out}
use Rattle.calls.proofs.Settled.{rewritten_same}

-- A reply that is said with records gives the result.
reply-result : (size : ℕ) (rules : List Rule) (t : List ℕ) (mode default : ℕ) (ranks : List ℕ) (before : ℕ) {w : Written}
    → written_of before (reply_by size rules t mode default ranks) ≡ gives w
    → reply_by size rules t mode default ranks ≡ gives (result_of size t mode default ranks)
unfolding reply_by
reply-result size rules t mode default ranks before e = go (judge rules (result_of size t mode default ranks)) refl e
  where
    go : (q : Reply (List Route)) → judge rules (result_of size t mode default ranks) ≡ q → {w : Written} → written_of before q ≡ gives w
        → judge rules (result_of size t mode default ranks) ≡ gives (result_of size t mode default ranks)
    go (gives rs) p e = gives_any rules (result_of size t mode default ranks) rs (result_of size t mode default ranks) p
    go (refuses n i) p e = let z : ◌≡◌ {A = ℕ} 0 1 = cc in absurd (omega arith)

-- ---- Demand 1.

-- What is said of a reply.
says-refuses : (before : ℕ) (q : Reply (List Route)) {n i : ℕ} → written_of before q ≡ refuses n i → q ≡ refuses n i
says-refuses before (gives rs) e = let z : ◌≡◌ {A = ℕ} 0 1 = cc in absurd (omega arith)
says-refuses before (refuses n i) e = cc

says-gives : (before : ℕ) (q : Reply (List Route)) {w : Written} → written_of before q ≡ gives w → (rs : List Route) × (q ≡ gives rs)
says-gives before (gives rs) e = (rs, refl)
says-gives before (refuses n i) e = let z : ◌≡◌ {A = ℕ} 0 1 = cc in absurd (omega arith)

module _ {Holds : ℕ → ℕ → Type 0} (size : ℕ) (rules : List Rule) (tests : (n i : ℕ) → Broken rules n i ↔ Holds n i) (t : List ℕ) (mode default : ℕ) (ranks : List ℕ) where
  -- The right reply gives the result exactly when no condition holds, and refuses exactly by the first that holds.
  pub by_gives : {rs : List Route} → reply_by size rules t mode default ranks ≡ gives rs ↔ (None Holds × (result_of size t mode default ranks ≡ rs))
  unfolding reply_by
  by_gives = gives-exactly rules tests (result_of size t mode default ranks)

  by_refuses : InOrder rules → (n i : ℕ) → reply_by size rules t mode default ranks ≡ refuses n i ↔ First Holds n i
  unfolding reply_by
  by_refuses order = refuses-exactly rules tests (result_of size t mode default ranks) order

  module _ (o : List ℕ) (r : Outcome) (o' : List ℕ) (ok : RewritesBy size rules t mode default ranks o r o') where
    -- It is refused with a number and an index exactly when their condition holds and none before it in the order of the checks does.
    pub by_refused : InOrder rules → (number index : ℕ) → rewritten_says r ≡ refuses number index ↔ First Holds number index
    by_refused order number index = (
      λ e. (by_refuses order number index).0 (says-refuses (records_in size t) (reply_by size rules t mode default ranks) (sym ok.answer ∙ e)),
      λ f. ok.answer ∙ ap (written_of (records_in size t)) ((by_refuses order number index).1 f),
    )

    -- It is answered with records exactly when no condition holds.
    pub by_accepted : ((count : ℕ) × ((change : ℤ) × (r ≡ records_out count change))) ↔ None Holds
    by_accepted = (
      λ (count, (change, e)).
          let g = says-gives (records_in size t) (reply_by size rules t mode default ranks) (sym ok.answer ∙ ap rewritten_says e) in
          (by_gives.0 g.1).0,
      λ none.
          let e = by_gives.1 (none, refl) in (
            length (result_of size t mode default ranks),
            (_, rewritten_same r (records_out _ _) (ok.answer ∙ ap (written_of (records_in size t)) e)),
          ),
    )

-- A refusal leaves the output as it was, and has count 0 and change 0.
pub by_untouched : (size : ℕ) (rules : List Rule) (t : List ℕ) (mode default : ℕ) (ranks o : List ℕ) (r : Outcome) (o' : List ℕ)
    → RewritesBy size rules t mode default ranks o r o'
    → (number index : ℕ) → rewritten_says r ≡ refuses number index → (o' ≡ o) × (count_of r ≡ 0) × (change_of r ≡ pos 0)
by_untouched size rules t mode default ranks o r o' ok number index e =
    let f = says-refuses (records_in size t) (reply_by size rules t mode default ranks) (sym ok.answer ∙ e) in
    let n = none r e in
    (ok.output ∙ ap (output_of size o) f, n.0, n.1)
  where
    none : (a : Outcome) → rewritten_says a ≡ refuses number index → (count_of a ≡ 0) × (change_of a ≡ pos 0)
    none (Ok w) h = let z : ◌≡◌ {A = ℕ} 0 1 = cc in absurd (omega arith)
    none (Err refusal) h = (refl, refl)

-- ---- The hops that a mode may write are in range for it.
hop_of : (s : Bool) {t : List Route} → All (λ r. r.hop ≤ top_hop s) t → {h : ℕ} → HopIn t h → h ≤ top_hop s
hop_of s hops (r, (m, e)) = let k = all_member hops m in subst (λ (n : ℕ). n ≤ top_hop s) e k

hop_kept : (mode default : ℕ) → InUse mode → (mode ≡ 5 → default ≤ 63) → {t : List Route} → All (λ r. r.hop ≤ top_hop (takes_set mode)) t
    → (h : ℕ) → HopFrom (mode_of mode default) t h → h ≤ top_hop (takes_set mode)
hop_kept zero d m f hops h from = absurd (omega arith)
hop_kept (suc zero) d m f hops h from = omega arith
hop_kept (suc (suc zero)) d m f hops h from = absurd (m.2 refl)
hop_kept (suc (suc (suc zero))) d m f hops h from = hop_of (takes_set 3) hops from
hop_kept (suc (suc (suc (suc zero)))) d m f hops h from = hop_of (takes_set 4) hops from
hop_kept (suc (suc (suc (suc (suc zero))))) d m f hops h (inl e) = let k = f refl in omega arith
hop_kept (suc (suc (suc (suc (suc zero))))) d m f hops h (inr from) = hop_of (takes_set 5) hops from
hop_kept (suc (suc (suc (suc (suc (suc n)))))) d m f hops h from = absurd (omega arith)

-- ---- A table t, rewritten by an engine.
module _ (form : Form) (rules : List Rule) (t : List ℕ) (mode default : ℕ) (ranks o : List ℕ) (guarded : Guarded form rules t mode default ranks (length o)) (r : Outcome) (o' : List ℕ)
    (ok : RewritesBy (size_of form) rules t mode default ranks o r o') where
  -- ---- Demand 2.
  -- An answer with records says that the reply is the result.
  pub by_reply : (count : ℕ) (change : ℤ) → r ≡ records_out count change
      → reply_by (size_of form) rules t mode default ranks ≡ gives (result_of (size_of form) t mode default ranks)
  by_reply count change e = reply-result (size_of form) rules t mode default ranks (records_in (size_of form) t) (sym ok.answer ∙ ap rewritten_says e)

  -- It is the number of the result's records and the change, and the output has them from its start.
  pub by_records : (count : ℕ) (change : ℤ) → r ≡ records_out count change
      → Answerable form t mode default ranks (length o) × (count ≡ length (result_of (size_of form) t mode default ranks))
      × (change ≡ pos (length (result_of (size_of form) t mode default ranks)) -ℤ pos (records_in (size_of form) t))
      × (o' ≡ bytes_in (size_of form) (result_of (size_of form) t mode default ranks) ++ drop (size_of form * length (result_of (size_of form) t mode default ranks)) o)
  by_records count change e =
      let f = by_reply count change e in
      let said : r ≡ records_out (length (result_of (size_of form) t mode default ranks)) (pos (length (result_of (size_of form) t mode default ranks)) -ℤ pos (records_in (size_of form) t)) =
      rewritten_same r (records_out _ _) (ok.answer ∙ ap (written_of (records_in (size_of form) t)) f) in
      let same : records_out count change ≡ records_out (length (result_of (size_of form) t mode default ranks)) (pos (length (result_of (size_of form) t mode default ranks)) -ℤ pos (records_in (size_of form) t)) = sym e ∙ said in
      (guarded (result_of (size_of form) t mode default ranks) f, ap count_of same, ap change_of same, ok.output ∙ ap (output_of (size_of form) o) f)

  -- Outcome or refused, the output keeps its length.
  pub by_length : length o' ≡ length o
  by_length = go r refl
    where
      go : (q : Outcome) → r ≡ q → length o' ≡ length o
      go (Ok w) e =
          let f = by_records w.count w.change e in
          let fits = f.0.enough_output in
          ap (λ (l : List ℕ). length l) f.3 ∙ simp (length-append, length-drop, in_length_bytes (size_of form) (form_size form)) (omega arith)
      go (Err x) e = ap (λ (l : List ℕ). length l) ok.output ∙ kept (reply_by (size_of form) rules t mode default ranks) (sym ok.answer ∙ ap rewritten_says e)
        where
          kept : (q : Reply (List Route)) → written_of (records_in (size_of form) t) q ≡ refuses (number_of x.cause) x.index → length (output_of (size_of form) o q) ≡ length o
          kept (refuses m j) h = refl
          kept (gives rs) h = let z : ◌≡◌ {A = ℕ} 0 1 = cc in absurd (omega arith)

  module _ (count : ℕ) (change : ℤ) (answered : r ≡ records_out count change) where
    pub by_answerable : Answerable form t mode default ranks (length o)
    by_answerable = (by_records count change answered).0

    pub by_counted : count ≡ length (result_of (size_of form) t mode default ranks)
    by_counted = (by_records count change answered).1

    -- The records are written from the output's start.
    pub by_written : take (size_of form * count) o' ≡ bytes_in (size_of form) (result_of (size_of form) t mode default ranks)
    by_written =
        let f = by_records count change answered in
        let n : size_of form * count ≡ size_of form * length (result_of (size_of form) t mode default ranks) = ap (λ (m : ℕ). size_of form * m) f.1 in
        rw (n, f.3)
        (take_at (bytes_in (size_of form) (result_of (size_of form) t mode default ranks))
        (drop (size_of form * length (result_of (size_of form) t mode default ranks)) o) (size_of form * length (result_of (size_of form) t mode default ranks))
        (in_length_bytes (size_of form) (form_size form) (result_of (size_of form) t mode default ranks)))

    module _ (bytes : Bytes t) where
      -- The table of bytes is one of routes, with hops in range.
      pub by_lawful : LawfulIn (size_of form) (takes_set mode) (routes_in (size_of form) t)
      by_lawful =
          in_lawful (size_of form) (form_size form) form.strict (takes_set mode) t bytes by_answerable.accepted

      -- So is the result.
      pub by_table : Table (width_in (size_of form)) (result_of (size_of form) t mode default ranks)
      unfolding result_of
      by_table = result-table (lowest ranks) (lowest_chooses ranks) (width_in (size_of form)) (mode_of mode default) by_lawful.table

      -- What is written reads back as the result.
      pub by_reads : routes_in (size_of form) (take (size_of form * count) o')
          ≡ result (lowest ranks) (width_in (size_of form)) (mode_of mode default) (routes_in (size_of form) t)
      unfolding result_of
      by_reads = ap (routes_in (size_of form)) by_written ∙ in_routes_bytes (size_of form) (form_size form) (result_of (size_of form) t mode default ranks) by_table.valid

      -- And says of each address what is demanded of its mode: the sets hold it alike, the maps answer it alike, fill gives the unrouted the default.
      pub by_keeps : (x : ℕ) → x < 2 ^ width_in (size_of form)
          → Keeps (width_in (size_of form)) (mode_of mode default) (routes_in (size_of form) t) (routes_in (size_of form) (take (size_of form * count) o')) x
      by_keeps x lt =
          subst (λ (s : List Route). Keeps (width_in (size_of form)) (mode_of mode default) (routes_in (size_of form) t) s x) (sym by_reads)
          (result-keeps (lowest ranks) (lowest_chooses ranks) (width_in (size_of form)) (mode_of mode default) by_lawful.table x lt)

      by_hops : All (λ q. q.hop ≤ top_hop (takes_set mode)) (result_of (size_of form) t mode default ranks)
      unfolding result_of
      by_hops =
          all_map
          (λ q. hop_kept mode default by_answerable.known_mode by_answerable.small_default by_lawful.hops q.hop)
          (result-hops (lowest ranks) (lowest_chooses ranks) (width_in (size_of form)) (mode_of mode default) (routes_in (size_of form) t))

      -- The written records are bytes.
      pub by_output_bytes : Bytes (take (size_of form * count) o')
      by_output_bytes =
          rw by_written
          (in_bytes_small (size_of form) (form_size form) (result_of (size_of form) t mode default ranks) by_table.valid
          (all_map (λ q h. below (takes_set mode) h) by_hops))
        where
          below : (s : Bool) {h : ℕ} → h ≤ top_hop s → h < 256
          below true k = omega arith
          below false k = omega arith

      -- They are an accepted table again, under either choice on host bits, where they are at most 1,024.
      pub by_output_accepted : count ≤ 1024 → (strict : Bool) → AcceptedIn (size_of form) strict (takes_set mode) (take (size_of form * count) o')
      by_output_accepted few strict =
          rw by_written
          (in_accepted_written (size_of form) (form_size form) strict (takes_set mode) (result_of (size_of form) t mode default ranks)
          (record {
            table = by_table;
            hops = by_hops;
            few = let e = by_counted in omega arith;
          }))

      -- ---- Demand 3: rewriting again.
      -- Their result in the same mode is they themselves.
      by_again : result_of (size_of form) (take (size_of form * count) o') mode default ranks ≡ result_of (size_of form) t mode default ranks
      unfolding result_of
      by_again =
          ap (λ (l : List ℕ). result_of (size_of form) l mode default ranks) by_written
          ∙ ap (result (lowest ranks) (width_in (size_of form)) (mode_of mode default)) (in_routes_bytes (size_of form) (form_size form) (result_of (size_of form) t mode default ranks) by_table.valid)
          ∙ result_again (lowest ranks) (lowest_chooses ranks) (width_in (size_of form)) (mode_of mode default) by_lawful.table

      -- They are answerable again where they are at most 1,024 and the output is long enough for them.
      pub again_answerable : count ≤ 1024 → (room : ℕ) → size_of form * count ≤ room → Answerable form (take (size_of form * count) o') mode default ranks room
      again_answerable few room fits =
          record {
            known_mode = by_answerable.known_mode;
            small_default = by_answerable.small_default;
            lawful_ranks = by_answerable.lawful_ranks;
            accepted = by_output_accepted few form.strict;
            enough_output = rw by_again (subst (λ (n : ℕ). size_of form * n ≤ room) by_counted fits);
          }

-- Rewritten again in their mode and under the same ranks, by the same engine or another and without refusal, the records of an output are given back with change 0: as many records,
-- and the same bytes from the output's start.
pub again_by : (form : Form) (rules : List Rule) (t : List ℕ) (mode default : ℕ) (ranks o : List ℕ) → Guarded form rules t mode default ranks (length o)
    → (count : ℕ) (change : ℤ) (o' : List ℕ)
    → RewritesBy (size_of form) rules t mode default ranks o (records_out count change) o' → Bytes t
    → (more : List Rule) (p : List ℕ) → Guarded form more (take (size_of form * count) o') mode default ranks (length p) → (q : Outcome) (p' : List ℕ)
    → RewritesBy (size_of form) more (take (size_of form * count) o') mode default ranks p q p'
    → (number : ℕ) (other : ℤ) → q ≡ records_out number other → (q ≡ records_out count (pos 0)) × (take (size_of form * count) p' ≡ take (size_of form * count) o')
again_by form rules t mode default ranks o guarded count change o' ok bytes more p guards q p' b number other e =
    let f = by_records form more (take (size_of form * count) o') mode default ranks p guards q p' b number other e in
    let counted : count ≡ length (result_of (size_of form) t mode default ranks) = by_counted form rules t mode default ranks o guarded (records_out count change) o' ok count change refl in
    let written : take (size_of form * count) o' ≡ bytes_in (size_of form) (result_of (size_of form) t mode default ranks) =
    by_written form rules t mode default ranks o guarded (records_out count change) o' ok count change refl in
    let again : result_of (size_of form) (take (size_of form * count) o') mode default ranks ≡ result_of (size_of form) t mode default ranks =
    by_again form rules t mode default ranks o guarded (records_out count change) o' ok count change refl bytes in
    let size : length (result_of (size_of form) (take (size_of form * count) o') mode default ranks) ≡ length (result_of (size_of form) t mode default ranks) = ap (λ (l : List Route). length l) again in
    let before : records_in (size_of form) (take (size_of form * count) o') ≡ length (result_of (size_of form) t mode default ranks) =
    ap (λ (l : List ℕ). records_in (size_of form) l) written ∙ in_records_bytes (size_of form) (form_size form) (result_of (size_of form) t mode default ranks) in
    let en : number ≡ count = f.1 ∙ size ∙ sym counted in
    let ec : other ≡ pos 0 =
    f.2 ∙ ap₂ (λ (a b : ℕ). pos a -ℤ pos b) size before ∙ +ℤ_invr (pos (length (result_of (size_of form) t mode default ranks))) in (
      e ∙ ap₂ records_out en ec,
      ap (λ (n : ℕ). take (size_of form * n) p') (sym en)
          ∙ by_written form more (take (size_of form * count) o') mode default ranks p guards q p' b number other e ∙ ap (bytes_in (size_of form)) again ∙ sym written,
    )

-- ---- Demand 3: two tables t and s, each rewritten by an engine, the same or another, under the same ranks and without refusal.
module _ (form : Form) (ranks : List ℕ) (rules : List Rule) (t : List ℕ) (bytes : Bytes t) (o : List ℕ) (count : ℕ) (change : ℤ) (o' : List ℕ)
    (more : List Rule) (s : List ℕ) (small : Bytes s) (p : List ℕ) (number : ℕ) (other : ℤ) (p' : List ℕ) where
  -- The same bytes are written exactly when the results are the same.
  same_results_by : (mode d e : ℕ) → Guarded form rules t mode d ranks (length o) → RewritesBy (size_of form) rules t mode d ranks o (records_out count change) o'
      → Guarded form more s mode e ranks (length p) → RewritesBy (size_of form) more s mode e ranks p (records_out number other) p'
      → take (size_of form * count) o' ≡ take (size_of form * number) p' ↔ result_of (size_of form) t mode d ranks ≡ result_of (size_of form) s mode e ranks
  same_results_by mode d e g a h b =
      let f = by_written form rules t mode d ranks o g (records_out count change) o' a count change refl in
      let k = by_written form more s mode e ranks p h (records_out number other) p' b number other refl in
      let u = (by_table form rules t mode d ranks o g (records_out count change) o' a count change refl bytes).valid in
      let v = (by_table form more s mode e ranks p h (records_out number other) p' b number other refl small).valid in (
        λ q.
            sym (in_routes_bytes (size_of form) (form_size form) (result_of (size_of form) t mode d ranks) u)
            ∙ ap (routes_in (size_of form)) (sym f ∙ q ∙ k) ∙ in_routes_bytes (size_of form) (form_size form) (result_of (size_of form) s mode e ranks) v,
        λ q. f ∙ ap (bytes_in (size_of form)) q ∙ sym k,
      )

  -- Mode 4: exactly when they send all addresses the same way, no route included.
  pub drop_by : (d e : ℕ) → Guarded form rules t 4 d ranks (length o) → RewritesBy (size_of form) rules t 4 d ranks o (records_out count change) o'
      → Guarded form more s 4 e ranks (length p) → RewritesBy (size_of form) more s 4 e ranks p (records_out number other) p'
      → take (size_of form * count) o' ≡ take (size_of form * number) p'
      ↔ Alike (width_in (size_of form)) (answer (width_in (size_of form)) (routes_in (size_of form) t)) (answer (width_in (size_of form)) (routes_in (size_of form) s))
  unfolding result_of
  drop_by d e g a h b = Iff.trans (same_results_by 4 d e g a h b) (drop_alike (lowest ranks) (lowest_chooses ranks) (width_in (size_of form)) (routes_in (size_of form) t) (routes_in (size_of form) s))

  -- Mode 5, at one default: exactly when they do once unrouted addresses have the default.
  pub fill_by : (d : ℕ) → Guarded form rules t 5 d ranks (length o) → RewritesBy (size_of form) rules t 5 d ranks o (records_out count change) o'
      → Guarded form more s 5 d ranks (length p) → RewritesBy (size_of form) more s 5 d ranks p (records_out number other) p'
      → take (size_of form * count) o' ≡ take (size_of form * number) p'
      ↔ Alike (width_in (size_of form)) (filled d (answer (width_in (size_of form)) (routes_in (size_of form) t))) (filled d (answer (width_in (size_of form)) (routes_in (size_of form) s)))
  unfolding result_of
  fill_by d g a h b = Iff.trans (same_results_by 5 d d g a h b) (fill_alike (lowest ranks) (lowest_chooses ranks) (width_in (size_of form)) d (routes_in (size_of form) t) (routes_in (size_of form) s))

  -- Mode 1: exactly when they hold the same addresses.
  pub set_by : (d e : ℕ) → Guarded form rules t 1 d ranks (length o) → RewritesBy (size_of form) rules t 1 d ranks o (records_out count change) o'
      → Guarded form more s 1 e ranks (length p) → RewritesBy (size_of form) more s 1 e ranks p (records_out number other) p'
      → take (size_of form * count) o' ≡ take (size_of form * number) p'
      ↔ ((x : ℕ) → x < 2 ^ width_in (size_of form) → held (width_in (size_of form)) (routes_in (size_of form) t) x ≡ held (width_in (size_of form)) (routes_in (size_of form) s) x)
  unfolding result_of
  set_by d e g a h b = Iff.trans (same_results_by 1 d e g a h b) (set_alike (lowest ranks) (lowest_chooses ranks) (width_in (size_of form)) (routes_in (size_of form) t) (routes_in (size_of form) s))
