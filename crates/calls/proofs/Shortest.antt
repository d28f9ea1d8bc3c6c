-- What modes 1, 4 and 5 write is as short as can be: no list of valid routes that says the same of every address, in any order and with any hops, is shorter,
-- so no accepted table is; mode 1's is the only set table that short; and mode 4's change is never above 0, mode 5's never above 1.
-- Of any engine whose rules are guarded, then of the one over nodes. The tables' elements are bytes.
use Prim.{tt}
use mathlib.Core.Path.{◌≡◌, refl, sym, ap, subst, ◌∙◌}
use mathlib.Core.Bool.{Bool, true, false, cond}
use mathlib.Core.List.{List}
use mathlib.Core.Logic.{◌↔◌}
use Prim.Native.Nat.{ℕ, zero, suc, ◌+◌, ◌-◌, ◌*◌, ◌^◌, ◌≤◌, ◌<◌}
use native.Mathlib.Omega.{arith}
use lib.Dec.{ltb, le→leb}
use lib.IntN.{ℤ, pos, negsuc, ◌-ℤ◌}
use lib.ListN.{length, take}
use lib.Signed.{◌≤ℤ◌, le_z_yes}
use Rattle.std.specs.Prelude.{Ok, Err}
use Rattle.theory.specs.Routes.{Route, Table, Member, held, answer, filled, Alike}
use Rattle.theory.specs.Results.{unhopped, Mode, aggregate_set, aggregate_consistent_map, aggregate_map_drop, aggregate_map_fill}
use Rattle.theory.specs.Ranks.{lowest}
use Rattle.theory.specs.Shortest.{Shortens, of_set, of_drop, of_fill, Serves, NoFewer}
use Rattle.theory.proofs.Ranks.{lowest_chooses}
use Rattle.theory.proofs.Lengths.{most_of, result-length}
use Rattle.theory.proofs.OnlyShortest.{set_prefixes, set_only}
use Rattle.theory.proofs.Routed.{unhopped-bare}
use Rattle.theory.proofs.Shortest.{result_shortest}
use Rattle.refusals.specs.Rules.{Rule}
use Rattle.records.specs.Sized.{width_in, records_in, routes_in, bytes_in, Bytes}
use Rattle.records.specs.declared.Form.{Form}
use Rattle.records.specs.Forms.{size_of}
use Rattle.records.proofs.SizedReading.{form_size, in_length_routes}
use Rattle.table.specs.SizedConditions.{AcceptedIn}
use Rattle.table.proofs.SizedAccepted.{in_not_refused}
use Rattle.table.proofs.SizedTables.{set-hops, in_lawful, in_bytes_routes}
use Rattle.calls.specs.Conditions.{Guarded}
use Rattle.calls.specs.Rewriting.{mode_of, result_of, change_of, rewrite_rules, RewritesBy, Rewrites, Outcome, records_out}
use Rattle.calls.specs.Shortest.{NoneShorter, most_change}
use Rattle.calls.proofs.Engines.{by_records, by_counted, by_written, by_lawful, by_reads}
use Rattle.calls.proofs.Refusals.{rewrite_guarded}

-- ---- The change.

-- Where a is at most k more than b, their difference is at most k.
difference : (a b : ℕ) {k : ℕ} → a ≤ b + k → (pos a -ℤ pos b) ≤ℤ pos k
difference a zero {k} le = le_z_yes (le→leb (a + 0) k (omega arith))
difference a (suc b) {k} le = go (ltb a (suc b)) refl
  where
    go : (c : Bool) → ltb a (suc b) ≡ c → cond c (negsuc (suc b - suc a)) (pos (a - suc b)) ≤ℤ pos k
    go true e = le_z_yes tt
    go false e = le_z_yes (le→leb (a - suc b) k (omega arith))

-- So it is of a result's records and its table's.
most-change : (m : Mode) (a b : ℕ) → a ≤ most_of m b → (pos a -ℤ pos b) ≤ℤ most_change m
most-change aggregate_set a b le = difference a b (omega arith)
most-change aggregate_consistent_map a b le = difference a b (omega arith)
most-change aggregate_map_drop a b le = difference a b (omega arith)
most-change (aggregate_map_fill d) a b le = difference a b (omega arith)

-- Outcome or refused, the change of a rewrite is at most its mode's most: 0 in modes 1 to 4, and 1 in mode 5.
pub change_by : (form : Form) (rules : List Rule) (t : List ℕ) (mode default : ℕ) (ranks o : List ℕ) → Guarded form rules t mode default ranks (length o)
    → (r : Outcome) (o' : List ℕ)
    → RewritesBy (size_of form) rules t mode default ranks o r o' → Bytes t → change_of r ≤ℤ most_change (mode_of mode default)
unfolding result_of
change_by form rules t mode default ranks o guarded r o' ok bytes = go r refl
  where
    go : (q : Outcome) → r ≡ q → change_of q ≤ℤ most_change (mode_of mode default)
    go (Err refusal) e = most-change (mode_of mode default) 0 0 (omega arith)
    go (Ok w) e =
        let f = by_records form rules t mode default ranks o guarded r o' ok w.count w.change e in
        let table = (by_lawful form rules t mode default ranks o guarded r o' ok w.count w.change e bytes).table in
        rw f.2 (most-change (mode_of mode default) _ (records_in (size_of form) t) (rw (in_length_routes (size_of form)) at (result-length (lowest ranks) (lowest_chooses ranks) (width_in (size_of form)) (mode_of mode default) table)))

-- ---- A table t, rewritten by an engine without refusal.
module _ (form : Form) (rules : List Rule) (t : List ℕ) (mode default : ℕ) (ranks o : List ℕ) (guarded : Guarded form rules t mode default ranks (length o))
    (count : ℕ) (change : ℤ) (o' : List ℕ) (ok : RewritesBy (size_of form) rules t mode default ranks o (records_out count change) o') (short : Shortens (mode_of mode default)) where
  -- No valid routes that say of each address what the result must are fewer than the records written.
  pub shortest_by : NoFewer (width_in (size_of form)) (mode_of mode default) (routes_in (size_of form) t) count
  unfolding result_of
  shortest_by u serves =
      omega (
        arith,
        by_counted form rules t mode default ranks o guarded (records_out count change) o' ok count change refl,
        result_shortest (lowest ranks) (lowest_chooses ranks) (width_in (size_of form)) short (routes_in (size_of form) t) u serves,
      )

  -- So no accepted table that does has fewer records.
  pub none_shorter_by : NoneShorter (size_of form) mode default t count
  none_shorter_by u replaces =
      omega (
        arith,
        shortest_by (routes_in (size_of form) u)
            (record { valid = (in_lawful (size_of form) (form_size form) replaces.strict replaces.is_set u replaces.bytes replaces.accepted).table.valid; keeps = replaces.keeps }),
        in_length_routes (size_of form) u,
      )

-- ---- A set's table t, rewritten by an engine in mode 1 without refusal: no other set table is as short.
module _ (form : Form) (rules : List Rule) (t : List ℕ) (d : ℕ) (ranks o : List ℕ) (guarded : Guarded form rules t 1 d ranks (length o))
    (count : ℕ) (change : ℤ) (o' : List ℕ) (ok : RewritesBy (size_of form) rules t 1 d ranks o (records_out count change) o') where
  few_enough : (u : List Route) → length u ≤ count → length u ≤ length (result_of (size_of form) t 1 d ranks)
  few_enough u few = omega (arith, by_counted form rules t 1 d ranks o guarded (records_out count change) o' ok count change refl)

  -- Routes of the same addresses, in any order and with any hops, that are as few as the records written have just their prefixes.
  pub only_by : Bytes t → (u : List Route) → Serves (width_in (size_of form)) aggregate_set (routes_in (size_of form) t) u → length u ≤ count
      → (r : Route) → Member r (unhopped u) ↔ Member r (routes_in (size_of form) (take (size_of form * count) o'))
  unfolding result_of
  only_by bytes u serves few r =
      rw (by_reads form rules t 1 d ranks o guarded (records_out count change) o' ok count change refl bytes)
      (set_prefixes (lowest ranks) (width_in (size_of form)) (routes_in (size_of form) t) serves (unfold result_of in few_enough u few) r)

  -- A table of them has these prefixes in the same order.
  only_result : (u : List Route) → Table (width_in (size_of form)) u
      → ((x : ℕ) → x < 2 ^ width_in (size_of form) → held (width_in (size_of form)) u x ≡ held (width_in (size_of form)) (routes_in (size_of form) t) x) → length u ≤ count
      → unhopped u ≡ result_of (size_of form) t 1 d ranks
  unfolding result_of
  only_result u table same few = set_only (lowest ranks) (width_in (size_of form)) (routes_in (size_of form) t) table same (unfold result_of in few_enough u few)

  module _ (strict : Bool) (u : List ℕ) (small : Bytes u) (accepted : AcceptedIn (size_of form) strict true u)
      (same : (x : ℕ) → x < 2 ^ width_in (size_of form) → held (width_in (size_of form)) (routes_in (size_of form) u) x ≡ held (width_in (size_of form)) (routes_in (size_of form) t) x)
      (few : records_in (size_of form) u ≤ count) where
    -- So an accepted set of the same addresses that has no more records is the one written, but for host bits: its routes, put down as records, are the
    -- bytes written,
    pub only_written_by : bytes_in (size_of form) (routes_in (size_of form) u) ≡ take (size_of form * count) o'
    only_written_by =
        let lawful = in_lawful (size_of form) (form_size form) strict true u small accepted in
        ap (bytes_in (size_of form)) (sym (unhopped-bare (set-hops lawful.hops)) ∙ only_result (routes_in (size_of form) u) lawful.table same (omega (arith, in_length_routes (size_of form) u)))
        ∙ sym (by_written form rules t 1 d ranks o guarded (records_out count change) o' ok count change refl)

    -- and these are its own bytes where the strict choice accepts it.
    pub only_bytes_by : strict ≡ true → u ≡ take (size_of form * count) o'
    only_bytes_by e =
        sym
        (in_bytes_routes (size_of form) (form_size form) {A = ℕ} 0 0 true u small
        (in_not_refused (size_of form) (form_size form) true true u 0 (subst (λ (b : Bool). AcceptedIn (size_of form) b true u) e accepted)))
        ∙ only_written_by

-- ---- The engine over nodes: a table t, rewritten under whatever ranks, in whatever output and room.
module _ (form : Form) (t : List ℕ) (bytes : Bytes t) (ranks o : List ℕ) (words : ℕ) (o' w' : List ℕ) where
  -- The change is at most its mode's most, answered or refused.
  pub rewrite_change : (mode default : ℕ) (r : Outcome) → Rewrites form t mode default ranks o words r o' w' → change_of r ≤ℤ most_change (mode_of mode default)
  rewrite_change mode default r ok =
      change_by form (rewrite_rules form t mode default ranks (length o) words) t mode default ranks o (rewrite_guarded form t mode default ranks (length o) words) r o' ok.inner bytes

  -- So mode 4's is never above 0,
  pub drop-change : (d : ℕ) (r : Outcome) → Rewrites form t 4 d ranks o words r o' w' → change_of r ≤ℤ pos 0
  drop-change d = rewrite_change 4 d

  -- and mode 5's never above 1.
  pub fill_change : (d : ℕ) (r : Outcome) → Rewrites form t 5 d ranks o words r o' w' → change_of r ≤ℤ pos 1
  fill_change d = rewrite_change 5 d

  module _ (count : ℕ) (change : ℤ) where
    -- Modes 1, 4 and 5: no valid routes that say of each address what the result must are fewer than the records written.
    pub rewrite_shortest : (mode default : ℕ) → Rewrites form t mode default ranks o words (records_out count change) o' w' → Shortens (mode_of mode default)
        → NoFewer (width_in (size_of form)) (mode_of mode default) (routes_in (size_of form) t) count
    rewrite_shortest mode default ok =
        shortest_by form (rewrite_rules form t mode default ranks (length o) words) t mode default ranks o (rewrite_guarded form t mode default ranks (length o) words) count change o'
        ok.inner

    none_shorter : (mode default : ℕ) → Rewrites form t mode default ranks o words (records_out count change) o' w' → Shortens (mode_of mode default)
        → NoneShorter (size_of form) mode default t count
    none_shorter mode default ok =
        none_shorter_by form (rewrite_rules form t mode default ranks (length o) words) t mode default ranks o (rewrite_guarded form t mode default ranks (length o) words) count change o'
        ok.inner

    -- ---- The same of tables u that are accepted under either choice on host bits, of a set or of a map.
    module _ (strict is_set : Bool) (u : List ℕ) (small : Bytes u) (accepted : AcceptedIn (size_of form) strict is_set u) (d : ℕ) where
      -- Mode 4: none with the same answer at every address, no route included, has fewer records.
      pub drop_shortest : Rewrites form t 4 d ranks o words (records_out count change) o' w'
          → Alike (width_in (size_of form)) (answer (width_in (size_of form)) (routes_in (size_of form) u)) (answer (width_in (size_of form)) (routes_in (size_of form) t))
          → count ≤ records_in (size_of form) u
      drop_shortest ok same = none_shorter 4 d ok of_drop u (record { bytes = small; strict = strict; is_set = is_set; accepted = accepted; keeps = same })

      -- Mode 5: none that itself routes every address as the filled input does has fewer.
      pub fill_shortest : Rewrites form t 5 d ranks o words (records_out count change) o' w'
          → Alike (width_in (size_of form)) (answer (width_in (size_of form)) (routes_in (size_of form) u)) (filled d (answer (width_in (size_of form)) (routes_in (size_of form) t)))
          → count ≤ records_in (size_of form) u
      fill_shortest ok same = none_shorter 5 d ok (of_fill d) u (record { bytes = small; strict = strict; is_set = is_set; accepted = accepted; keeps = same })

      -- Mode 1: none that holds the same addresses has fewer.
      pub set_shortest : Rewrites form t 1 d ranks o words (records_out count change) o' w'
          → ((x : ℕ) → x < 2 ^ width_in (size_of form) → held (width_in (size_of form)) (routes_in (size_of form) u) x ≡ held (width_in (size_of form)) (routes_in (size_of form) t) x)
          → count ≤ records_in (size_of form) u
      set_shortest ok same = none_shorter 1 d ok of_set u (record { bytes = small; strict = strict; is_set = is_set; accepted = accepted; keeps = same })

    -- Mode 1: and a set that has as many is the one written: its records without host bits are the bytes written, byte for byte.
    pub set_alone : (d : ℕ) → Rewrites form t 1 d ranks o words (records_out count change) o' w' → (strict : Bool) (u : List ℕ) → Bytes u
        → AcceptedIn (size_of form) strict true u
        → ((x : ℕ) → x < 2 ^ width_in (size_of form) → held (width_in (size_of form)) (routes_in (size_of form) u) x ≡ held (width_in (size_of form)) (routes_in (size_of form) t) x)
        → records_in (size_of form) u ≤ count → bytes_in (size_of form) (routes_in (size_of form) u) ≡ take (size_of form * count) o'
    set_alone d ok =
        only_written_by form (rewrite_rules form t 1 d ranks (length o) words) t d ranks o (rewrite_guarded form t 1 d ranks (length o) words) count change o' ok.inner
