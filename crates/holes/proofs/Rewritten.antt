-- The list of what a rewrite has written, by any engine whose rules are guarded and by the one over nodes: mode 4's is that of its input, byte for byte, and
-- mode 5's is empty. Assumes of a table that its elements are bytes.
use Prim.Native.Nat.{ℕ, ◌*◌, ◌≤◌}
use mathlib.Core.Path.{◌≡◌, refl, sym, ap, ◌∙◌}
use mathlib.Core.Bool.{true, false}
use mathlib.Core.List.{List, [], ◌∷◌}
use native.Mathlib.Nat.{mul-zero}
use native.Mathlib.Omega.{arith}
use lib.Dec.{leb}
use lib.IntN.{ℤ}
use lib.ListN.{length, take}
use Rattle.theory.specs.Routes.{Route, Answer, none, via, answer, or_default}
use Rattle.theory.specs.Ranks.{lowest}
use Rattle.theory.specs.Shapes.{routed}
use Rattle.theory.proofs.Ranks.{lowest_chooses}
use Rattle.theory.proofs.Lengths.{result-length}
use Rattle.theory.proofs.Routed.{held-answer}
use Rattle.refusals.specs.Rules.{Rule, rule, judge}
use Rattle.std.specs.Prelude.{Result, Ok}
use Rattle.refusals.specs.declared.Refusal.{Refusal}
use Rattle.refusals.proofs.Judged.{all_next}
use Rattle.records.specs.Sized.{width_in, records_in, routes_in, Bytes}
use Rattle.records.specs.declared.Form.{Form}
use Rattle.records.specs.Forms.{size_of}
use Rattle.records.proofs.SizedReading.{form_size}
use Rattle.table.specs.Conditions.{AcceptedBy}
use Rattle.table.specs.TableRules.{form_rules}
use Rattle.table.proofs.SizedAccepted.{in_not_refused}
use Rattle.calls.specs.Conditions.{Guarded}
use Rattle.calls.specs.Rewriting.{records_out, result_of, mode_of, output_of, rewrite_rules, RewritesBy, Rewrites}
use Rattle.calls.proofs.Engines.{by_answerable, by_counted, by_lawful, by_keeps, by_output_accepted}
use Rattle.calls.proofs.Refusals.{rewrite_guarded}
use Rattle.holes.specs.Listing.{holes_of, unrouted_rules, Lists}
use Rattle.holes.proofs.Calls.{unrouted_settled, unrouted-listed, unrouted_rest}
use Rattle.holes.proofs.Walk.{holes-agree, holes_none}

-- ---- Accepted tables with the same holes are listed alike.
module _ (form : Form) where
  -- The size of a record, and the holes of a table.
  abbrev size : ℕ
  size = size_of form

  abbrev list : List ℕ → List Route
  list t = holes_of size t

  -- The rule of the output, where it is to hold the records of some routes.
  abbrev last : List Route → ℕ → List Rule
  last rs room = rule 11 0 (leb (size * length rs) room) ∷ []

  -- Of an accepted table only the output's room is judged.
  accepted-reply : (t : List ℕ) (room : ℕ) {A : Type 0} (a : A) → AcceptedBy form false t → judge (unrouted_rules form t room) a ≡ judge (last (list t) room) a
  unfolding unrouted_rules
  accepted-reply t room a ok =
      all_next a (records_in size t) {c = records_in size t} (form_rules form false t) (last (list t) room)
      (in_not_refused size (form_size form) form.strict false t (records_in size t) ok)

  same_reply : (s t : List ℕ) (room : ℕ) {A : Type 0} (a : A) → AcceptedBy form false s → AcceptedBy form false t → list s ≡ list t
      → judge (unrouted_rules form s room) a ≡ judge (unrouted_rules form t room) a
  same_reply s t room a ok other same =
      accepted-reply s room a ok
      ∙ ap (λ (rs : List Route). judge (last rs room) a) same
      ∙ sym (accepted-reply t room a other)

  lists_alike : (s t : List ℕ) → AcceptedBy form false s → AcceptedBy form false t → list s ≡ list t → {p p' : List ℕ} {r : Result ℕ Refusal} → Lists form s p r p'
      → Lists form t p r p'
  lists_alike s t ok other same {p} l =
      record {
        answer =
            l.answer ∙ ap (λ (rs : List Route). judge (unrouted_rules form s (length p)) (length rs)) same
            ∙ same_reply s t (length p) (length (list t)) ok other same;
        output =
            l.output
            ∙ ap (λ (rs : List Route). output_of size p (judge (unrouted_rules form s (length p)) rs)) same
            ∙ ap (output_of size p) (same_reply s t (length p) (list t) ok other same);
      }

-- ---- A table t, rewritten by an engine without refusal.
module _ (form : Form) (rules : List Rule) (t : List ℕ) (bytes : Bytes t) (d : ℕ) (ranks o : List ℕ) (count : ℕ) (change : ℤ) (o' : List ℕ) where
  -- The bits of an address, and the records written.
  abbrev bits : ℕ
  bits = width_in (size_of form)

  abbrev written : List ℕ
  written = take (size_of form * count) o'

  -- Mode 4.
  module _ (guarded : Guarded form rules t 4 d ranks (length o)) (ok : RewritesBy (size_of form) rules t 4 d ranks o (records_out count change) o') where
    -- The result has the table's holes,
    pub drop-holes : holes_of (size_of form) written ≡ holes_of (size_of form) t
    drop-holes =
        holes-agree bits bits 0 (routes_in (size_of form) written) (routes_in (size_of form) t)
        (λ x i. held-answer bits x (routes_in (size_of form) written)
        ∙ ap routed (by_keeps form rules t 4 d ranks o guarded (records_out count change) o' ok count change refl bytes x (omega arith))
        ∙ sym (held-answer bits x (routes_in (size_of form) t)))

    -- and is accepted.
    drop-few : count ≤ 1024
    unfolding result_of
    drop-few =
        let lawful = by_lawful form rules t 4 d ranks o guarded (records_out count change) o' ok count change refl bytes in
        let size = by_counted form rules t 4 d ranks o guarded (records_out count change) o' ok count change refl in
        omega (arith, lawful.few, result-length (lowest ranks) (lowest_chooses ranks) bits (mode_of 4 d) lawful.table)

    -- So its list, into the same output, is that of its input: the same answer and the same bytes.
    pub drop-listed : (p : List ℕ) (r q : Result ℕ Refusal) (p' q' : List ℕ) → Lists form t p r p' → Lists form written p q q' → (q ≡ r) × (q' ≡ p')
    drop-listed p r q p' q' a b =
        unrouted_settled form t p q r q' p'
        (lists_alike form written t
        (by_output_accepted form rules t 4 d ranks o guarded (records_out count change) o' ok count change refl bytes drop-few form.strict)
        (by_answerable form rules t 4 d ranks o guarded (records_out count change) o' ok count change refl).accepted drop-holes b)
        a

  -- Mode 5.
  module _ (guarded : Guarded form rules t 5 d ranks (length o)) (ok : RewritesBy (size_of form) rules t 5 d ranks o (records_out count change) o') where
    -- The result has no holes.
    pub fill_holes : holes_of (size_of form) written ≡ []
    fill_holes =
        holes_none bits bits 0 (routes_in (size_of form) written)
        (λ x i. held-answer bits x (routes_in (size_of form) written)
        ∙ ap routed (by_keeps form rules t 5 d ranks o guarded (records_out count change) o' ok count change refl bytes x (omega arith))
        ∙ always (answer bits (routes_in (size_of form) t) x))
      where
        always : (v : Answer) → routed (or_default d v) ≡ true
        always none = refl
        always (via h) = refl

    -- So its list, where it is accepted (it may have 1,025 records), is empty, and the output stays as it was.
    pub fill_listed : AcceptedBy form false written → (p : List ℕ) (q : Result ℕ Refusal) (q' : List ℕ) → Lists form written p q q' → (q ≡ Ok 0) × (q' ≡ p)
    fill_listed accepted p q q' l =
        let none : length (holes_of (size_of form) written) ≡ 0 = ap length fill_holes in
        let fits = ap (λ (n : ℕ). size_of form * n) none ∙ mul-zero (size_of form) in
        let e = (unrouted-listed form written p q q' l 0).1 (accepted, omega (arith, fits), none) in
        (e, rw (mul-zero (size_of form)) at (unrouted_rest form written p q q' l 0 e))

-- ---- The same of the engine over nodes.
module _ (form : Form) (t : List ℕ) (bytes : Bytes t) (d : ℕ) (ranks o : List ℕ) (words count : ℕ) (change : ℤ) (o' w' : List ℕ) where
  -- Mode 4: the list of the result, into the same output, is byte for byte that of the input.
  pub list_after_drop : Rewrites form t 4 d ranks o words (records_out count change) o' w' → (p : List ℕ) (r q : Result ℕ Refusal) (p' q' : List ℕ) → Lists form t p r p'
      → Lists form (take (size_of form * count) o') p q q' → (q ≡ r) × (q' ≡ p')
  list_after_drop ok =
      drop-listed form (rewrite_rules form t 4 d ranks (length o) words) t bytes d ranks o count change o' (rewrite_guarded form t 4 d ranks (length o) words)
      ok.inner

  -- Mode 5: the list of the result, where that table is accepted, is empty.
  pub list_after_fill : Rewrites form t 5 d ranks o words (records_out count change) o' w' → AcceptedBy form false (take (size_of form * count) o')
      → (p : List ℕ) (q : Result ℕ Refusal) (q' : List ℕ) → Lists form (take (size_of form * count) o') p q q' → (q ≡ Ok 0) × (q' ≡ p)
  list_after_fill ok =
      fill_listed form (rewrite_rules form t 5 d ranks (length o) words) t bytes d ranks o count change o' (rewrite_guarded form t 5 d ranks (length o) words)
      ok.inner
