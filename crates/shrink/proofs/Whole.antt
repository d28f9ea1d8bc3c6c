-- The bytes that decide the answer decide it as the whole input does, whatever its length. Assumes nothing.
use mathlib.Core.Path.{◌≡◌, refl}
use mathlib.Core.Bool.{Bool, true, false, cond}
use mathlib.Core.List.{List, [], ◌∷◌, ◌++◌}
use Prim.Native.Nat.{ℕ, ◌%◌, ◌≤◌, ◌<◌}
use native.Mathlib.Omega.{arith}
use borrow.Author.Tests.{leb-true, leb-false, eqb-true, eqb-false, le-leb, lt-leb, eq-eqb, ne_eqb}
use lib.Dec.{leb, ltb, eqb}
use lib.ListN.{length, take}
use lib.Seq.{length-take-le, take_all}
use Rattle.theory.specs.Routes.{Route}
use Rattle.refusals.specs.Rules.{Rule, rule, refuses, judge}
use Rattle.records.specs.Wire.{records}
use Rattle.records.specs.Forms.{by_default}
use Rattle.table.specs.SizedRules.{table_rules_in}
use Rattle.calls.specs.Rewriting.{rewrite_rules, reply_by}
use Rattle.text.specs.Answers.{reply_text}
use Rattle.program.specs.Printed.{printed_in}
use Rattle.shrink.specs.Input.{judged}

-- ---- How many bytes they are.

pub judged-short : (size : ℕ) → size ≤ 8200 → judged size ≡ size
unfolding judged
judged-short size short = rw (le-leb size 8200 short)

pub judged-many : (size : ℕ) → 8200 < size → size % 8 ≡ 0 → judged size ≡ 8200
unfolding judged
judged-many size long whole = rw (lt-leb size 8200 long, eq-eqb (size % 8) 0 whole)

pub judged-broken : (size : ℕ) → 8200 < size → (size % 8 ≡ 0 → ⊥) → judged size ≡ 8193
unfolding judged
judged-broken size long broken = rw (lt-leb size 8200 long, ne_eqb (size % 8) 0 broken)

-- ---- What is refused by its length.

-- The same rules in front of one that is not kept refuse alike, whatever follows; and the text does not depend on the number of records.
refused_alike : (hops : Bool) (i j : ℕ) (front : List Rule) (n : ℕ) {x y : Bool} → x ≡ false → y ≡ false → (rs rs₁ : List Rule) (a b : List Route)
    → reply_text 8 false hops i (judge (front ++ (rule n 0 x ∷ rs)) a) ≡ reply_text 8 false hops j (judge (front ++ (rule n 0 y ∷ rs₁)) b)
unfolding judge reply_text
refused_alike hops i j [] n e f rs rs₁ a b = rw (e, f)
refused_alike hops i j (r ∷ front) n {x} {y} e f rs rs₁ a b = go r.kept (refused_alike hops i j front n e f rs rs₁ a b)
  where
    go : (k : Bool) → reply_text 8 false hops i (judge (front ++ (rule n 0 x ∷ rs)) a) ≡ reply_text 8 false hops j (judge (front ++ (rule n 0 y ∷ rs₁)) b)
        → reply_text 8 false hops i (cond k (judge (front ++ (rule n 0 x ∷ rs)) a) (refuses r.number r.index))
        ≡ reply_text 8 false hops j (cond k (judge (front ++ (rule n 0 y ∷ rs₁)) b) (refuses r.number r.index))
    go true more = more
    go false more = refl

module _ (mode default room words : ℕ) where
  -- By number 3.
  broken_alike : (s t : List ℕ) → (length s % 8 ≡ 0 → ⊥) → (length t % 8 ≡ 0 → ⊥) → printed_in by_default mode default room words s ≡ printed_in by_default mode default room words t
  unfolding printed_in reply_by rewrite_rules table_rules_in
  broken_alike s t e f =
      refused_alike (ltb 1 mode) (records s) (records t) (take 4 (rewrite_rules by_default s mode default [] room words)) 3 (ne_eqb (length s % 8) 0 e) (ne_eqb (length t % 8) 0 f) _ _ _ _

  -- By number 4.
  many_alike : (s t : List ℕ) → length s % 8 ≡ 0 → length t % 8 ≡ 0 → 1024 < records s → 1024 < records t
      → printed_in by_default mode default room words s ≡ printed_in by_default mode default room words t
  unfolding printed_in reply_by rewrite_rules table_rules_in
  many_alike s t e f m n =
      rw (eq-eqb (length s % 8) 0 e, eq-eqb (length t % 8) 0 f)
      (refused_alike (ltb 1 mode) (records s) (records t) (take 4 (rewrite_rules by_default s mode default [] room words) ++ (rule 3 0 true ∷ [])) 4 (lt-leb (records s) 1024 m) (lt-leb (records t) 1024 n) _ _ _ _)

  -- What is printed for the deciding bytes is what the whole input asks for.
  pub whole_input : (t : List ℕ) → printed_in by_default mode default room words (take (judged (length t)) t) ≡ printed_in by_default mode default room words t
  whole_input t = go (leb (length t) 8200) refl (eqb (length t % 8) 0) refl
    where
      go : (a : Bool) → leb (length t) 8200 ≡ a → (b : Bool) → eqb (length t % 8) 0 ≡ b
          → printed_in by_default mode default room words (take (judged (length t)) t) ≡ printed_in by_default mode default room words t
      go true e b f = rw (judged-short (length t) (leb-true (length t) 8200 e), take_all (length t) t (omega arith))
      go false e true f =
          let long = leb-false (length t) 8200 e in
          let whole = eqb-true (length t % 8) 0 f in
          let size = length-take-le 8200 t (omega arith) in
          rw (judged-many (length t) long whole) (many_alike (take 8200 t) t (omega arith) whole (omega arith) (omega arith))
      go false e false f =
          let long = leb-false (length t) 8200 e in
          let broken = eqb-false (length t % 8) 0 f in
          let size = length-take-le 8193 t (omega arith) in
          rw (judged-broken (length t) long broken) (broken_alike (take 8193 t) t (λ z. omega arith) broken)
