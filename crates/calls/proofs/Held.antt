-- Addresses held before and after a rewrite: in modes 1 to 4 the answer is the same, and after mode 5, where that result is accepted, it is
-- 4,294,967,296. Records have 8 bytes, as addresses held asks; either choice on host bits. Of any engine, then of the one over nodes. The table's elements
-- are bytes.
use mathlib.Core.Path.{◌≡◌, refl, sym, ap, ◌∙◌}
use mathlib.Core.Bool.{Bool, false}
use mathlib.Core.List.{List}
use Prim.Native.Nat.{ℕ, zero, suc, ◌*◌, ◌≤◌}
use native.Mathlib.Omega.{arith}
use lib.IntN.{ℤ}
use lib.ListN.{length, take}
use Rattle.refusals.specs.declared.Refusal.{Refusal}
use Rattle.std.specs.Prelude.{Result, Ok}
use Rattle.theory.specs.Ranks.{lowest}
use Rattle.theory.specs.Reach.{reach, reach_after}
use Rattle.theory.proofs.Ranks.{lowest_chooses}
use Rattle.theory.proofs.Lengths.{most_of, result-length}
use Rattle.theory.proofs.Reach.{keeps-reach}
use Rattle.refusals.specs.Rules.{Rule}
use Rattle.records.specs.Wire.{routes}
use Rattle.records.specs.Sized.{Bytes}
use Rattle.records.proofs.Reading.{length-routes}
use Rattle.table.specs.Conditions.{Accepted}
use Rattle.table.proofs.AtEight.{accepted-map}
use Rattle.lookup.specs.Calls.{held_says, held_reply}
use Rattle.lookup.proofs.Calls.{held-count-exactly}
use Rattle.calls.specs.Conditions.{Guarded}
use Rattle.calls.specs.Rewriting.{InUse, mode_of, result_of, takes_set, rewrite_rules, RewritesBy, Rewrites, records_out}
use Rattle.calls.proofs.Engines.{by_answerable, by_counted, by_lawful, by_keeps, by_output_accepted}
use Rattle.calls.proofs.Masking.{choosing}
use Rattle.calls.proofs.Refusals.{rewrite_guarded}

-- Modes 1 to 4 add no record and no address.
adds_none : (mode default n : ℕ) → InUse mode → mode ≤ 4 → (most_of (mode_of mode default) n ≡ n) × (reach_after 32 (mode_of mode default) n ≡ n)
adds_none zero default n l m = absurd (omega arith)
adds_none (suc zero) default n l m = (refl, refl)
adds_none (suc (suc zero)) default n l m = absurd (l.2 refl)
adds_none (suc (suc (suc zero))) default n l m = (refl, refl)
adds_none (suc (suc (suc (suc zero)))) default n l m = (refl, refl)
adds_none (suc (suc (suc (suc (suc k))))) default n l m = absurd (omega arith)

-- ---- A table t, rewritten by an engine; a is the answer of addresses held for it, and b for the records written.
module _ (strict : Bool) (rules : List Rule) (t : List ℕ) (mode default : ℕ) (ranks o : List ℕ) (guarded : Guarded (choosing strict false) rules t mode default ranks (length o))
    (count : ℕ) (change : ℤ) (o' : List ℕ) (ok : RewritesBy 8 rules t mode default ranks o (records_out count change) o') (bytes : Bytes t) where
  -- The records written are an accepted map where they are at most 1,024, as they are in modes 1 to 4.
  pub by_map_accepted : count ≤ 1024 → Accepted (choosing strict false) false (take (8 * count) o')
  by_map_accepted few =
      accepted-map (choosing strict false) (takes_set mode) (take (8 * count) o')
      (by_output_accepted (choosing strict false) rules t mode default ranks o guarded (records_out count change) o' ok count change refl bytes few strict)

  pub by_few : mode ≤ 4 → count ≤ 1024
  unfolding result_of
  by_few m =
      let f = by_answerable (choosing strict false) rules t mode default ranks o guarded (records_out count change) o' ok count change refl in
      let table = (by_lawful (choosing strict false) rules t mode default ranks o guarded (records_out count change) o' ok count change refl bytes).table in
      omega (
        arith,
        by_counted (choosing strict false) rules t mode default ranks o guarded (records_out count change) o' ok count change refl,
        result-length (lowest ranks) (lowest_chooses ranks) 32 (mode_of mode default) table,
        (adds_none mode default (length (routes t)) f.known_mode m).0,
        length-routes t,
        f.accepted.few,
      )

  reach-written : reach 32 (routes (take (8 * count) o')) ≡ reach_after 32 (mode_of mode default) (reach 32 (routes t))
  reach-written =
      keeps-reach 32 (mode_of mode default) (routes t) (routes (take (8 * count) o'))
      (by_keeps (choosing strict false) rules t mode default ranks o guarded (records_out count change) o' ok count change refl bytes)

  module _ (a b : Result ℕ Refusal) (before : held_says a ≡ held_reply (choosing strict false) t) (after : held_says b ≡ held_reply (choosing strict false) (take (8 * count) o')) where
    -- Modes 1 to 4: the table is counted, and what is written has the same answer.
    pub held-kept_by : mode ≤ 4 → (a ≡ Ok (reach 32 (routes t))) × (b ≡ a)
    held-kept_by m =
        let f = by_answerable (choosing strict false) rules t mode default ranks o guarded (records_out count change) o' ok count change refl in
        let p : a ≡ Ok (reach 32 (routes t)) = (held-count-exactly (choosing strict false) t a before _).1 (accepted-map (choosing strict false) (takes_set mode) t f.accepted, refl) in
        let same = reach-written ∙ (adds_none mode default (reach 32 (routes t)) f.known_mode m).1 in
        (p, (held-count-exactly (choosing strict false) (take (8 * count) o') b after _).1 (by_map_accepted (by_few m), same) ∙ sym p)

    -- Mode 5: where what is written is accepted, it holds every address.
    pub held_fill_by : mode ≡ 5 → Accepted (choosing strict false) false (take (8 * count) o') → b ≡ Ok 4294967296
    held_fill_by five accepted =
        (held-count-exactly (choosing strict false) (take (8 * count) o') b after _).1
        (accepted, reach-written ∙ ap (λ (m : ℕ). reach_after 32 (mode_of m default) (reach 32 (routes t))) five)

-- ---- The same of the engine over nodes.
module _ (strict : Bool) (t : List ℕ) (bytes : Bytes t) (mode default : ℕ) (ranks o : List ℕ) (words count : ℕ) (change : ℤ) (o' w' : List ℕ)
    (ok : Rewrites (choosing strict false) t mode default ranks o words (records_out count change) o' w')
    (a b : Result ℕ Refusal) (before : held_says a ≡ held_reply (choosing strict false) t) (after : held_says b ≡ held_reply (choosing strict false) (take (8 * count) o')) where
  abbrev rules : List Rule
  rules = rewrite_rules (choosing strict false) t mode default ranks (length o) words

  guarded : Guarded (choosing strict false) rules t mode default ranks (length o)
  guarded = rewrite_guarded (choosing strict false) t mode default ranks (length o) words

  pub held_kept : mode ≤ 4 → (a ≡ Ok (reach 32 (routes t))) × (b ≡ a)
  held_kept = held-kept_by strict rules t mode default ranks o guarded count change o' ok.inner bytes a b before after

  pub held_fill : mode ≡ 5 → Accepted (choosing strict false) false (take (8 * count) o') → b ≡ Ok 4294967296
  held_fill = held_fill_by strict rules t mode default ranks o guarded count change o' ok.inner bytes a b before after
