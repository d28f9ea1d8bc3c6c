-- The wrong rewrites that document 01 names, each against the statement: refusing everything, one table for all, copying the input, copying the deeper
-- nodes, an invented change; and an invented total of addresses held. Assumes nothing.
use mathlib.Core.Path.{◌≡◌, refl, sym, ap, ap₂, ◌∙◌}
use mathlib.Core.Bool.{Bool, false}
use mathlib.Core.List.{List, [], ◌∷◌, ◌++◌}
use Prim.Native.Nat.{ℕ, ◌*◌, ◌≤◌}
use native.Mathlib.Omega.{arith}
use lib.IntN.{ℤ, pos, negsuc, ◌-ℤ◌}
use lib.ListN.{length, get_or, take, drop}
use lib.Seq.{take_at}
use Rattle.std.specs.Prelude.{Ok}
use Rattle.theory.specs.Routes.{Route, Member, head, nil, cons, answer, Alike}
use Rattle.theory.specs.Results.{smallest, result}
use Rattle.theory.specs.Reach.{reach}
use Rattle.theory.proofs.Lists.{all_member}
use Rattle.theory.proofs.Chosen.{smallest_chooses}
use Rattle.theory.proofs.Preserve.{answers}
use Rattle.theory.proofs.Pass.{count_from}
use Rattle.theory.proofs.Cases.{route, cases, worked}
use Rattle.refusals.specs.Rules.{judge, refuses}
use Rattle.records.specs.Wire.{routes, bytes_of}
use Rattle.records.specs.declared.Form.{Form}
use Rattle.records.specs.Forms.{size_of, strictly}
use Rattle.records.proofs.Octets.{all_bytes}
use Rattle.lookup.specs.Calls.{held_says, held_reply}
use Rattle.records.proofs.Written.{length-bytes}
use Rattle.records.specs.Sized.{records_in, octets_of, record_in, bytes_in, clear, number, raw_in, route_in, routes_from_in, routes_in}
use Rattle.table.specs.SizedRules.{record_rules_in, rules_from_in, table_rules_in}
use Rattle.lookup.proofs.Calls.{held-count-exactly}
use Rattle.lookup.proofs.Pass.{pass_counts}
use Rattle.calls.specs.Rewriting.{count_of, Rewrites, Outcome, records_out, rewritten_says}
use Rattle.calls.proofs.Masking.{choosing}
use Rattle.calls.proofs.Marked.{changes, marked}
use Rattle.calls.proofs.Results.{rewrite_records}
use Rattle.calls.proofs.Demand3.{same_bytes_drop}

-- ---- The tables of cases 2, 5, 10 and 11, as bytes.

-- 10.0.0.0/9 and 10.128.0.0/9, a set: mode 1 makes 10.0.0.0/8 of it.
abbrev halves : List ℕ
halves = 10 ∷ 0 ∷ 0 ∷ 0 ∷ 9 ∷ 0 ∷ 0 ∷ 0 ∷ 10 ∷ 128 ∷ 0 ∷ 0 ∷ 9 ∷ 0 ∷ 0 ∷ 0 ∷ []

-- 0.0.0.0/1 and 128.0.0.0/1, a set: mode 1 makes 0.0.0.0/0 of it.
abbrev everything : List ℕ
everything = 0 ∷ 0 ∷ 0 ∷ 0 ∷ 1 ∷ 0 ∷ 0 ∷ 0 ∷ 128 ∷ 0 ∷ 0 ∷ 0 ∷ 1 ∷ 0 ∷ 0 ∷ 0 ∷ []

-- 10.0.0.0/8 by hop 1, its halves by hop 2: mode 4 makes 10.0.0.0/8 by hop 2 of it.
abbrev shadowed : List ℕ
shadowed = 10 ∷ 0 ∷ 0 ∷ 0 ∷ 8 ∷ 1 ∷ 0 ∷ 0 ∷ 10 ∷ 0 ∷ 0 ∷ 0 ∷ 9 ∷ 2 ∷ 0 ∷ 0 ∷ 10 ∷ 128 ∷ 0 ∷ 0 ∷ 9 ∷ 2 ∷ 0 ∷ 0 ∷ []

-- What is made of it: 10.0.0.0/8 by hop 2.
abbrev plain : List ℕ
plain = 10 ∷ 0 ∷ 0 ∷ 0 ∷ 8 ∷ 2 ∷ 0 ∷ 0 ∷ []

-- 10.0.0.0/9 by hop 1 and 10.128.0.0/9 by hop 2: mode 4 makes 10.0.0.0/8 by hop 1 and the second half of it.
abbrev apart : List ℕ
apart = 10 ∷ 0 ∷ 0 ∷ 0 ∷ 9 ∷ 1 ∷ 0 ∷ 0 ∷ 10 ∷ 128 ∷ 0 ∷ 0 ∷ 9 ∷ 2 ∷ 0 ∷ 0 ∷ []

-- The routes of the deeper nodes, which are those of length 5 and more, stand in the result as they came.
abbrev pub CopiesDeep : List Route → List Route → Type 0
CopiesDeep t s = (r : Route) → Member r t → 5 ≤ r.len → Member r s

-- ---- In any output of at least 8,200 bytes and any room of at least 16,384 words.
module _ (strict : Bool) (o : List ℕ) (words : ℕ) (long : 8200 ≤ length o) (wide : 16384 ≤ words) (r : Outcome) (o' w' : List ℕ) where
  -- What is written, by the answer and the output.
  written : (rs : List Route) (change : ℤ) → (r ≡ records_out (length rs) change) × (o' ≡ bytes_of rs ++ drop (8 * length rs) o) → take (8 * count_of r) o' ≡ bytes_of rs
  written rs change f =
      ap₂ (λ (n : ℕ) (l : List ℕ). take (8 * n) l) (ap count_of f.0) f.1
      ∙ take_at (bytes_of rs) (drop (8 * length rs) o) (8 * length rs) (length-bytes rs)

  case_2 : Rewrites (choosing strict false) halves 1 0 [] o words r o' w' → take (8 * count_of r) o' ≡ 10 ∷ 0 ∷ 0 ∷ 0 ∷ 8 ∷ 0 ∷ 0 ∷ 0 ∷ []
  unfolding cases changes route bytes_in record_in octets_of
  case_2 ok = written (route 10 0 0 0 8 0 ∷ []) (negsuc 0) (marked.1.0 strict o words r o' w' long wide ok)

  case_5 : Rewrites (choosing strict false) everything 1 0 [] o words r o' w' → take (8 * count_of r) o' ≡ 0 ∷ 0 ∷ 0 ∷ 0 ∷ 0 ∷ 0 ∷ 0 ∷ 0 ∷ []
  unfolding cases changes route bytes_in record_in octets_of
  case_5 ok = written (route 0 0 0 0 0 0 ∷ []) (negsuc 0) (marked.1.1.1.0 strict o words r o' w' long wide ok)

  case_11 : Rewrites (choosing strict false) apart 4 0 [] o words r o' w'
      → take (8 * count_of r) o' ≡ 10 ∷ 0 ∷ 0 ∷ 0 ∷ 8 ∷ 1 ∷ 0 ∷ 0 ∷ 10 ∷ 128 ∷ 0 ∷ 0 ∷ 9 ∷ 2 ∷ 0 ∷ 0 ∷ []
  unfolding cases changes route bytes_in record_in octets_of
  case_11 ok =
      written (route 10 0 0 0 8 1 ∷ route 10 128 0 0 9 2 ∷ []) (pos 0) (marked.1.1.1.1.1.1.1.0 strict o words r o' w' long wide ok)

  -- One that refuses everything: the halves are not refused.
  pub refuser_wrong : (number index : ℕ) → rewritten_says r ≡ refuses number index → Rewrites (choosing strict false) halves 1 0 [] o words r o' w' → ⊥
  unfolding cases changes route bytes_in record_in octets_of
  refuser_wrong number index e ok =
      let f = (marked.1.0 strict o words r o' w' long wide ok).0 in
      let z : ◌≡◌ {A = ℕ} 0 1 = cc in
      omega arith

  -- One that copies its input: the halves in mode 1; and in mode 4 a table whose result has as many records.
  pub copier_wrong : Rewrites (choosing strict false) halves 1 0 [] o words r o' w' → take (8 * count_of r) o' ≡ halves → ⊥
  copier_wrong ok e = let z : ◌≡◌ {A = ℕ} 8 9 = ap (λ (l : List ℕ). get_or l 4 0) (sym (case_2 ok) ∙ e) in omega arith

  pub copier_wrong_map : Rewrites (choosing strict false) apart 4 0 [] o words r o' w' → take (8 * count_of r) o' ≡ apart → ⊥
  copier_wrong_map ok e = let z : ◌≡◌ {A = ℕ} 8 9 = ap (λ (l : List ℕ). get_or l 4 0) (sym (case_11 ok) ∙ e) in omega arith

  -- One that rewrites the root's positions and copies the deeper nodes: both halves lie below the root.
  pub deep_copier_wrong : Rewrites (choosing strict false) halves 1 0 [] o words r o' w' → CopiesDeep (routes halves) (routes (take (8 * count_of r) o')) → ⊥
  unfolding routes_in routes_from_in raw_in route_in route number
  deep_copier_wrong ok copies =
      let merged : routes (take (8 * count_of r) o') ≡ route 10 0 0 0 8 0 ∷ [] = ap routes (case_2 ok) in
      let m : Member (route 10 0 0 0 9 0) (route 10 0 0 0 8 0 ∷ []) = rw merged at (copies (route 10 0 0 0 9 0) head (omega arith)) in
      let z : ◌≡◌ {A = ℕ} 9 8 = all_member {P = λ q. q.len ≡ 8} (cons refl nil) m in
      omega arith

-- One that always gives the same table: the same records are wrong for the halves or for everything.
pub constant_wrong : (strict : Bool) (o : List ℕ) (words : ℕ) → 8200 ≤ length o → 16384 ≤ words → (r r₁ : Outcome) (o' w' o₁ w₁ : List ℕ)
    → Rewrites (choosing strict false) halves 1 0 [] o words r o' w' → Rewrites (choosing strict false) everything 1 0 [] o words r₁ o₁ w₁
    → take (8 * count_of r) o' ≡ take (8 * count_of r₁) o₁ → ⊥
constant_wrong strict o words long wide r r₁ o' w' o₁ w₁ a b e =
    let z : ◌≡◌ {A = ℕ} 10 0 =
    ap (λ (l : List ℕ). get_or l 0 0) (sym (case_2 strict o words long wide r o' w' a) ∙ e ∙ case_5 strict o words long wide r₁ o₁ w₁ b) in
    omega arith

-- A copier against demand 3: two tables that answer every address alike have the same bytes written, and these two differ.
alike : Alike 32 (answer 32 (routes shadowed)) (answer 32 (routes plain))
unfolding cases route result routes_in routes_from_in raw_in route_in number
alike x lt =
    sym (answers smallest 32 smallest_chooses (answer 32 (routes shadowed)) x lt)
    ∙ ap (λ (t : List Route). answer 32 t x) worked.1.1.1.1.1.1.0

pub copier_against_alike : (strict : Bool) (o : List ℕ) (words count : ℕ) (change : ℤ) (o' w' p : List ℕ) (space number : ℕ) (other : ℤ) (p' v' : List ℕ)
    → Rewrites (choosing strict false) shadowed 4 0 [] o words (records_out count change) o' w'
    → Rewrites (choosing strict false) plain 4 0 [] p space (records_out number other) p' v'
    → take (8 * count) o' ≡ shadowed → take (8 * number) p' ≡ plain → ⊥
copier_against_alike strict o words count change o' w' p space number other p' v' a b copied copied-too =
    let same =
    (same_bytes_drop (choosing strict false) [] shadowed (all_bytes shadowed refl) o words count change o' w' plain (all_bytes plain refl) p space number other p' v' 0 0 a b).1 alike in
    let z : ◌≡◌ {A = ℕ} 24 8 = ap (λ (l : List ℕ). length l) (sym copied ∙ same ∙ copied-too) in
    omega arith

-- An invented change: any but records out minus records in.
pub change_invented : (form : Form) (t : List ℕ) (mode default : ℕ) (ranks o : List ℕ) (words count : ℕ) (change : ℤ) (o' w' : List ℕ)
    → (change ≡ pos count -ℤ pos (records_in (size_of form) t) → ⊥) → Rewrites form t mode default ranks o words (records_out count change) o' w' → ⊥
change_invented form t mode default ranks o words count change o' w' other ok =
    let f = rewrite_records form t mode default ranks o words (records_out count change) o' w' ok count change refl in
    other (f.2 ∙ ap (λ (n : ℕ). pos n -ℤ pos (records_in (size_of form) t)) (sym f.1))

-- ---- An invented total of addresses held.

-- Any but the number of addresses that the table holds is wrong.
pub total_invented : (form : Form) (t : List ℕ) (n : ℕ) → (reach 32 (routes t) ≡ n → ⊥) → held_says (Ok n) ≡ held_reply form t → ⊥
total_invented form t n other e = other ((held-count-exactly form t (Ok n) e n).0 refl).1

-- So for case 11's table, twice 2 ^ 23; for case 10's, whose halves lie in the first record, 2 ^ 24 too.
pub total_apart : (form : Form) (n : ℕ) → held_says (Ok n) ≡ held_reply form apart → n ≡ 16777216
unfolding judge table_rules_in rules_from_in record_rules_in routes_in routes_from_in raw_in route_in count_from clear number
total_apart form n e = sym ((held-count-exactly form apart (Ok n) e n).0 refl).1 ∙ pass_counts apart (all_bytes apart refl) strictly 2 refl

pub total_shadowed : (form : Form) (n : ℕ) → held_says (Ok n) ≡ held_reply form shadowed → n ≡ 16777216
unfolding judge table_rules_in rules_from_in record_rules_in routes_in routes_from_in raw_in route_in count_from clear number
total_shadowed form n e = sym ((held-count-exactly form shadowed (Ok n) e n).0 refl).1 ∙ pass_counts shadowed (all_bytes shadowed refl) strictly 3 refl
