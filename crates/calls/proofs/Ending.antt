-- Laws for the proof of any engine's rewrite: the rules 1, 2, 15 and 3 to 8 judged one after the other, the mode and the default, what a table that was checked is good
-- for, the most records of a result, and the end of a rewrite. Assumes nothing.
use Prim.Native.Nat.{ℕ, zero, suc, ◌+◌, ◌-◌, ◌*◌, ◌/◌, ◌^◌, ◌≤◌, ◌<◌}
use mathlib.Core.Path.{◌≡◌, refl, sym, ap, subst, ◌∙◌}
use mathlib.Core.Bool.{Bool, true, false, not, cond, ◌||◌}
use mathlib.Core.List.{List, ◌∷◌, ◌++◌}
use mathlib.Core.Logic.{inl, inr}
use native.Mathlib.Nat.{le_trans}
use native.Mathlib.Omega.{arith}
use lib.Dec.{eqb, leb, ltb}
use lib.IntN.{ℤ, pos, negsuc, ◌-ℤ◌}
use lib.ListN.{length, drop}
use lib.Signed.{mag}
use mir.Syntax.{w64}
use mir.Val.{SFits, to_z, of_z}
use mir.ValLaws.{to_z_pos, to_z-of_z}
use borrow.Author.Tests.{eqb-true, eqb-false, leb-true, le-leb, lt-leb, eq-eqb, ne_eqb}
use Rattle.std.specs.Prelude.{Err}
use Rattle.refusals.specs.Numbers.{number_of}
use Rattle.refusals.specs.declared.Cause.TheVariants.{OutputRoom}
use Rattle.refusals.specs.declared.Refusal.{Refusal}
use Rattle.theory.specs.Results.{Mode, aggregate_set, aggregate_consistent_map, aggregate_map_drop, aggregate_map_fill}
use Rattle.theory.specs.Ranks.{lowest, is_ranking}
use Rattle.theory.specs.Routes.{Route, Table}
use Rattle.theory.proofs.Ranks.{lowest_chooses}
use Rattle.theory.proofs.Lengths.{most_of, result-length}
use Rattle.refusals.specs.Rules.{Rule, rule, gives, refuses, judge}
use Rattle.refusals.proofs.Judged.{gives_any, kept_next, broken-here, all_next, some-here}
use Rattle.records.specs.Sized.{IsSize, width_in, records_in, routes_in, bytes_in, Bytes, laid}
use Rattle.records.proofs.SizedReading.{form_size, in_length_routes}
use Rattle.records.proofs.SizedWritten.{in_length_bytes}
use Rattle.records.specs.declared.Form.{Form}
use Rattle.records.specs.Forms.{size_of}
use Rattle.table.specs.Checking.{check_reply_in}
use Rattle.table.specs.SizedConditions.{LawfulIn}
use Rattle.table.specs.TableRules.{form_rules}
use Rattle.table.proofs.SizedTables.{in_accepted_table}
use Rattle.calls.specs.Ending.{last_reply, Finished}
use Rattle.calls.specs.Rewriting.{InUse, mode_of, result_of, takes_set, reply_by, written_of, output_of, RewritesBy, Outcome, records_out}
use Rattle.calls.proofs.Tested.{rules_with}

-- ---- The rules 1, 16, 2, 15 and 3 to 8, where `known` says whether the engine has the mode, or the mode is 2, and `last` are the rules past the table's.
module _ (known : Bool) (form : Form) (t : List ℕ) (mode default : ℕ) (ranks : List ℕ) (last : List Rule) {A : Type 0} (a : A) where
  -- Number 1.
  pub refused_mode : known ≡ false
      → judge (rules_with known form t mode default ranks last) a ≡ refuses 1 0
  refused_mode e = broken-here a 1 0 _ e

  module _ (is : known ≡ true) where
    -- Number 16.
    pub refused_retired : mode ≡ 2 → judge (rules_with known form t mode default ranks last) a ≡ refuses 16 0
    refused_retired e = kept_next a 1 0 _ is ∙ broken-here a 16 0 _ (ap not (eq-eqb mode 2 e))

    module _ (used : mode ≡ 2 → ⊥) where
      -- Past the mode's rules the next decide.
      past_mode : judge (rules_with known form t mode default ranks last) a
          ≡ judge (rule 2 0 (not (eqb mode 5) || leb default 63)
          ∷ rule 15 0 (not (leb 4 mode) || is_ranking 64 ranks)
          ∷ form_rules form (takes_set mode) t
          ++ last) a
      past_mode = kept_next a 1 0 _ is ∙ kept_next a 16 0 _ (ap not (ne_eqb mode 2 used))

      -- Number 2.
      pub refused_default : (not (eqb mode 5) || leb default 63) ≡ false → judge (rules_with known form t mode default ranks last) a ≡ refuses 2 0
      refused_default e = past_mode ∙ broken-here a 2 0 _ e

      module _ (ok : (not (eqb mode 5) || leb default 63) ≡ true) where
        -- Number 15.
        pub refused_ranks : (not (leb 4 mode) || is_ranking 64 ranks) ≡ false → judge (rules_with known form t mode default ranks last) a ≡ refuses 15 0
        refused_ranks e = past_mode ∙ kept_next a 2 0 _ ok ∙ broken-here a 15 0 _ e

        module _ (ranked : (not (leb 4 mode) || is_ranking 64 ranks) ≡ true) where
          -- Numbers 3 to 8.
          pub refused_table : {n i : ℕ} → check_reply_in (size_of form) form.strict (takes_set mode) t ≡ refuses n i
              → judge (rules_with known form t mode default ranks last) a ≡ refuses n i
          refused_table {n} {i} e =
              past_mode ∙ kept_next a 2 0 _ ok ∙ kept_next a 15 0 _ ranked ∙ some-here a (records_in (size_of form) t) n i (form_rules form (takes_set mode) t) last e

          -- Past the table's rules the last decide.
          pub last_decide : {k : ℕ} → check_reply_in (size_of form) form.strict (takes_set mode) t ≡ gives k
              → judge (rules_with known form t mode default ranks last) a ≡ judge last a
          last_decide valid =
              past_mode ∙ kept_next a 2 0 _ ok ∙ kept_next a 15 0 _ ranked ∙ all_next a (records_in (size_of form) t) (form_rules form (takes_set mode) t) last valid

module _ (size : ℕ) (rules : List Rule) (t : List ℕ) (mode default : ℕ) (ranks o : List ℕ) where
  -- A refusal leaves the output.
  pub refused_by : {r : Refusal} → reply_by size rules t mode default ranks ≡ refuses (number_of r.cause) r.index → RewritesBy size rules t mode default ranks o (Err r) o
  refused_by e = record { answer = sym (ap (written_of (records_in size t)) e); output = sym (ap (output_of size o) e) }

  -- What is finished by the last rule is what the whole statement asks.
  pub finished_by : {fill : ℕ} {r : Outcome} {o' : List ℕ} → reply_by size rules t mode default ranks ≡ last_reply size t mode fill ranks (length o)
      → Finished size t mode fill ranks o r o' → RewritesBy size rules t mode default ranks o r o'
  finished_by e f =
      record { answer = f.answer ∙ sym (ap (written_of (records_in size t)) e); output = f.output ∙ sym (ap (output_of size o) e) }

-- What is finished at a size that is the form's is finished at the form's.
pub finished_in : {size n : ℕ} {t : List ℕ} {mode fill : ℕ} {ranks o : List ℕ} {r : Outcome} {o' : List ℕ} → size ≡ n → Finished size t mode fill ranks o r o'
    → Finished n t mode fill ranks o r o'
finished_in {t = t} {mode} {fill} {ranks} {o} {r} {o'} e = subst (λ (k : ℕ). Finished k t mode fill ranks o r o') e

-- ---- The mode and the default.

-- What holds of the mode of each number in use holds of the number's mode.
pub mode_is : (P : Mode → Type 0) (mode default : ℕ) → InUse mode → (mode ≡ 1 → P aggregate_set) → (mode ≡ 3 → P aggregate_consistent_map)
    → (mode ≡ 4 → P aggregate_map_drop) → (mode ≡ 5 → P (aggregate_map_fill default)) → P (mode_of mode default)
mode_is P mode default used one three four five = go (eqb mode 1) refl (eqb mode 3) refl (eqb mode 4) refl
  where
    go : (a : Bool) → eqb mode 1 ≡ a → (c : Bool) → eqb mode 3 ≡ c → (d : Bool) → eqb mode 4 ≡ d
        → P (cond a aggregate_set (cond c aggregate_consistent_map (cond d aggregate_map_drop (aggregate_map_fill default))))
    go true p c r d s = one (eqb-true mode 1 p)
    go false p true r d s = three (eqb-true mode 3 r)
    go false p false r true s = four (eqb-true mode 4 s)
    go false p false r false s =
        let no1 = eqb-false mode 1 p in
        let no2 = used.2 in
        let no3 = eqb-false mode 3 r in
        let no4 = eqb-false mode 4 s in
        five (omega (arith, used.0, used.1))

-- The mode reads the default in mode 5 only.
same_mode : (mode fill default : ℕ) → InUse mode → (mode ≡ 5 → fill ≡ default) → mode_of mode fill ≡ mode_of mode default
same_mode mode fill default used same =
    mode_is (λ m. m ≡ mode_of mode default) mode fill used (λ e. rw e) (λ e. rw e) (λ e. rw e) (λ e. rw (e, same e))

-- So a fill that is the default in mode 5 has the default's result.
pub same_last : (size : ℕ) (t : List ℕ) (mode fill default : ℕ) (ranks : List ℕ) (room : ℕ) → InUse mode → (mode ≡ 5 → fill ≡ default)
    → last_reply size t mode default ranks room ≡ last_reply size t mode fill ranks room
unfolding result_of
same_last size t mode fill default ranks room used same = rw (same_mode mode fill default used same)

-- Rule 2 says that the default of mode 5 is a hop.
pub default_hop : (mode default : ℕ) → (not (eqb mode 5) || leb default 63) ≡ true → mode ≡ 5 → default ≤ 63
default_hop mode default e five = leb-true default 63 (rw (eq-eqb mode 5 five) at e)

-- ---- What a table that keeps the rules is good for.
module _ (form : Form) (s : Bool) (t : List ℕ) (k : ℕ) (valid : check_reply_in (size_of form) form.strict s t ≡ gives k) where
  -- The check counts its records.
  pub checked_count : k ≡ records_in (size_of form) t
  checked_count = let e = gives_any (form_rules form s t) (records_in (size_of form) t) k (records_in (size_of form) t) valid in cc

  -- Its routes are lawful.
  pub checked_lawful : Bytes t → LawfulIn (size_of form) s (routes_in (size_of form) t)
  checked_lawful bytes = (in_accepted_table (size_of form) (form_size form) form.strict s t bytes (records_in (size_of form) t) k valid).0

  -- They are at most 1,024.
  pub checked_few : Bytes t → k ≤ 1024
  checked_few bytes = omega (arith, checked_count, (checked_lawful bytes).few, in_length_routes (size_of form) t)

-- ---- The end of a rewrite.

-- The result has no more records than the table, in mode 5 no more than one more.
pub result-most : (size : ℕ) (t : List ℕ) (mode fill : ℕ) (ranks : List ℕ) {before most : ℕ} → InUse mode → Table (width_in size) (routes_in size t)
    → before ≡ records_in size t
    → (mode ≡ 5 → most ≡ before + 1) × ((mode ≡ 5 → ⊥) → most ≡ before) → length (result_of size t mode fill ranks) ≤ most
unfolding result_of
result-most size t mode fill ranks {most = most} used table count at =
    le_trans (result-length (lowest ranks) (lowest_chooses ranks) (width_in size) (mode_of mode fill) table)
    (mode_is (λ m. most_of m (length (routes_in size t)) ≤ most) mode fill used (λ e. as_many (λ five. omega arith)) (λ e. as_many (λ five. omega arith))
    (λ e. as_many (λ five. omega arith)) (λ e. omega (arith, in_length_routes size t, at.0 e)))
  where
    as_many : (mode ≡ 5 → ⊥) → length (routes_in size t) ≤ most
    as_many other = omega (arith, in_length_routes size t, at.1 other)

-- The difference of two small numbers fits,
change-small : (a b : ℕ) → a < 2 ^ 62 → b < 2 ^ 62 → mag (pos a -ℤ pos b) < 2 ^ 63
change-small a zero h k = omega arith
change-small a (suc b) h k = go (ltb a (suc b))
  where
    go : (l : Bool) → mag (cond l (negsuc (suc b - suc a)) (pos (a - suc b))) < 2 ^ 63
    go true = omega arith
    go false = omega arith

module _ (a b : ℕ) (small : a < 2 ^ 62) (least : b < 2 ^ 62) where
  -- also as the machine reads the two,
  pub change-fits : SFits w64 (to_z w64 a -ℤ to_z w64 b)
  change-fits = rw (to_z_pos w64 a (omega arith), to_z_pos w64 b (omega arith)) (record { sfits = change-small a b small least })

  -- and is what the machine makes of them.
  pub change_is : to_z w64 (of_z w64 (to_z w64 a -ℤ to_z w64 b)) ≡ pos a -ℤ pos b
  change_is = to_z-of_z w64 _ change-fits ∙ rw (to_z_pos w64 a (omega arith), to_z_pos w64 b (omega arith))

-- Records laid at the output's start, and the rest as it was.
pub laid-output : (size : ℕ) → IsSize size → (rs : List Route) (o : List ℕ) → laid 0 (bytes_in size rs) o ≡ output_of size o (gives rs)
unfolding laid
laid-output size is rs o =
    let n = in_length_bytes size is rs in
    let e : 0 + length (bytes_in size rs) ≡ size * length rs = omega arith in
    ap (λ (k : ℕ). bytes_in size rs ++ drop k o) e

-- Too few whole records are too few bytes,
too_short : (size : ℕ) → IsSize size → (room n : ℕ) → room / size < n → room < size * n
too_short size (inl e) room n h = let g : room / 8 < n = rw e at h in rw e (omega arith)
too_short size (inr e) room n h = let g : room / 16 < n = rw e at h in rw e (omega arith)

-- and enough are enough.
pub long_enough : (size : ℕ) → IsSize size → (room n : ℕ) → n ≤ room / size → size * n ≤ room
long_enough size (inl e) room n h = let g : n ≤ room / 8 = rw e at h in rw e (omega arith)
long_enough size (inr e) room n h = let g : n ≤ room / 16 = rw e at h in rw e (omega arith)

module _ (size : ℕ) (is : IsSize size) (t : List ℕ) (mode fill : ℕ) (ranks o : List ℕ) where
  -- Number 11: the output has no room for so many records.
  pub finished_refused : length o / size < length (result_of size t mode fill ranks) → Finished size t mode fill ranks o (Err (record { cause = OutputRoom; index = 0 })) o
  finished_refused h =
      let e : last_reply size t mode fill ranks (length o) ≡ refuses 11 0 =
      broken-here _ 11 0 _
      (lt-leb (size * length (result_of size t mode fill ranks)) (length o) (too_short size is (length o) (length (result_of size t mode fill ranks)) h)) in
      record { answer = sym (ap (written_of (records_in size t)) e); output = sym (ap (output_of size o) e) }

  -- It has, and they are written.
  pub finished_written : {k : ℕ} {change : ℤ} {o' : List ℕ} → k ≡ length (result_of size t mode fill ranks) → k ≤ length o / size
      → change ≡ pos k -ℤ pos (records_in size t)
      → o' ≡ bytes_in size (result_of size t mode fill ranks) ++ drop (size * k) o → Finished size t mode fill ranks o (records_out k change) o'
  unfolding judge
  finished_written {k} {change} {o'} count fits differ records_out =
      let e : last_reply size t mode fill ranks (length o) ≡ gives (result_of size t mode fill ranks) =
      rw (le-leb (size * length (result_of size t mode fill ranks)) (length o) (long_enough size is (length o) (length (result_of size t mode fill ranks)) (omega arith))) in
      record {
        answer = rw (differ, count) (sym (ap (written_of (records_in size t)) e));
        output = records_out ∙ rw count (sym (ap (output_of size o) e));
      }
