-- What a call that gives a value or refuses says settles its answer: causes have different numbers. Assumes nothing.
use mathlib.Core.Path.{◌≡◌, refl, sym, ap, ap₂, ◌∙◌}
use mathlib.Core.List.{List}
use Prim.Native.Nat.{ℕ, ◌+◌, ◌≤◌, ◌<◌}
use native.Mathlib.Omega.{arith}
use Rattle.std.specs.Prelude.{Result, Ok, Err, cond, eqb}
use Rattle.refusals.specs.Rules.{Rule, refuses, judge}
use Rattle.refusals.proofs.Judged.{refuses_any}
use Rattle.refusals.specs.Numbers.{number_of, in_new_of, reply_of}
use Rattle.refusals.specs.declared.Cause.{Cause}
use Rattle.refusals.specs.declared.Cause.TheVariants as cause
use Rattle.refusals.specs.declared.Refusal.{Refusal}

-- The cause of a number; of any other number, some cause.
cause_of : ℕ → Cause
cause_of n =
    cond (eqb n 1) cause.Mode (
    cond (eqb n 2) cause.Default (
    cond (eqb n 3) cause.TableLength (
    cond (eqb n 4) cause.RecordCount (
    cond (eqb n 5) cause.PrefixLength (
    cond (eqb n 6) cause.HostBits (
    cond (eqb n 7) cause.Tail (
    cond (eqb n 8) cause.Order (
    cond (eqb n 9) cause.QueryLength (
    cond (eqb n 10) cause.WorkRoom (
    cond (eqb n 11) cause.OutputRoom (
    cond (eqb n 12) cause.ImageLength (
    cond (eqb n 13) cause.Step (
    cond (eqb n 14) cause.Edition (
    cond (eqb n 15) cause.Ranks (
    cond (eqb n 16) cause.RetiredMode (
    cond (eqb n 17) cause.MapFull (
    cond (eqb n 18) cause.NoMap (
    cond (eqb n 23) cause.NewTableLength (
    cond (eqb n 24) cause.NewRecordCount (
    cond (eqb n 25) cause.NewPrefixLength (
    cond (eqb n 26) cause.NewHostBits (
    cond (eqb n 27) cause.NewTail (
    cause.NewOrder)))))))))))))))))))))))

-- A cause is that of its number.
cause_of-number : (c : Cause) → cause_of (number_of c) ≡ c
unfolding cause_of
cause_of-number cause.Mode = refl
cause_of-number cause.Default = refl
cause_of-number cause.TableLength = refl
cause_of-number cause.RecordCount = refl
cause_of-number cause.PrefixLength = refl
cause_of-number cause.HostBits = refl
cause_of-number cause.Tail = refl
cause_of-number cause.Order = refl
cause_of-number cause.QueryLength = refl
cause_of-number cause.WorkRoom = refl
cause_of-number cause.OutputRoom = refl
cause_of-number cause.ImageLength = refl
cause_of-number cause.Step = refl
cause_of-number cause.Edition = refl
cause_of-number cause.Ranks = refl
cause_of-number cause.RetiredMode = refl
cause_of-number cause.MapFull = refl
cause_of-number cause.NoMap = refl
cause_of-number cause.NewTableLength = refl
cause_of-number cause.NewRecordCount = refl
cause_of-number cause.NewPrefixLength = refl
cause_of-number cause.NewHostBits = refl
cause_of-number cause.NewTail = refl
cause_of-number cause.NewOrder = refl

-- Causes of one number are one.
pub number_one : (c d : Cause) → number_of c ≡ number_of d → c ≡ d
number_one c d e = sym (cause_of-number c) ∙ ap cause_of e ∙ cause_of-number d

-- Refusals of one number and index are one.
pub refusal_one : (r s : Refusal) → number_of r.cause ≡ number_of s.cause → r.index ≡ s.index → r ≡ s
refusal_one r s e f = ap₂ made (number_one r.cause s.cause e) f
  where
    made : Cause → ℕ → Refusal
    made c i = record { cause = c; index = i }

-- Answers that say the same are the same, if different values are said to be different.
pub reply_same : {A B : Type 0} (f : A → B) → ((a b : A) → f a ≡ f b → a ≡ b) → (r s : Result A Refusal) → reply_of f r ≡ reply_of f s → r ≡ s
reply_same f one (Ok a) (Ok b) e = let v : f a ≡ f b = cc in ap Ok (one a b v)
reply_same f one (Ok a) (Err s) e = let z : ◌≡◌ {A = ℕ} 0 1 = cc in absurd (omega arith)
reply_same f one (Err r) (Ok b) e = let z : ◌≡◌ {A = ℕ} 0 1 = cc in absurd (omega arith)
reply_same f one (Err r) (Err s) e =
    let n : number_of r.cause ≡ number_of s.cause = cc in
    let i : r.index ≡ s.index = cc in
    ap Err (refusal_one r s n i)

-- The causes of 3 to 8 have numbers by 20 higher in the new table.
pub in_new_number : (c : Cause) → 3 ≤ number_of c → number_of c ≤ 8 → number_of (in_new_of c) ≡ number_of c + 20
in_new_number cause.Mode low high = absurd (omega arith)
in_new_number cause.Default low high = absurd (omega arith)
in_new_number cause.TableLength low high = refl
in_new_number cause.RecordCount low high = refl
in_new_number cause.PrefixLength low high = refl
in_new_number cause.HostBits low high = refl
in_new_number cause.Tail low high = refl
in_new_number cause.Order low high = refl
in_new_number cause.QueryLength low high = absurd (omega arith)
in_new_number cause.WorkRoom low high = absurd (omega arith)
in_new_number cause.OutputRoom low high = absurd (omega arith)
in_new_number cause.ImageLength low high = absurd (omega arith)
in_new_number cause.Step low high = absurd (omega arith)
in_new_number cause.Edition low high = absurd (omega arith)
in_new_number cause.Ranks low high = absurd (omega arith)
in_new_number cause.RetiredMode low high = absurd (omega arith)
in_new_number cause.MapFull low high = absurd (omega arith)
in_new_number cause.NoMap low high = absurd (omega arith)
in_new_number cause.NewTableLength low high = absurd (omega arith)
in_new_number cause.NewRecordCount low high = absurd (omega arith)
in_new_number cause.NewPrefixLength low high = absurd (omega arith)
in_new_number cause.NewHostBits low high = absurd (omega arith)
in_new_number cause.NewTail low high = absurd (omega arith)
in_new_number cause.NewOrder low high = absurd (omega arith)

-- No cause has number 0.
pub number_some : (c : Cause) → 0 < number_of c
number_some cause.Mode = omega arith
number_some cause.Default = omega arith
number_some cause.TableLength = omega arith
number_some cause.RecordCount = omega arith
number_some cause.PrefixLength = omega arith
number_some cause.HostBits = omega arith
number_some cause.Tail = omega arith
number_some cause.Order = omega arith
number_some cause.QueryLength = omega arith
number_some cause.WorkRoom = omega arith
number_some cause.OutputRoom = omega arith
number_some cause.ImageLength = omega arith
number_some cause.Step = omega arith
number_some cause.Edition = omega arith
number_some cause.Ranks = omega arith
number_some cause.RetiredMode = omega arith
number_some cause.MapFull = omega arith
number_some cause.NoMap = omega arith
number_some cause.NewTableLength = omega arith
number_some cause.NewRecordCount = omega arith
number_some cause.NewPrefixLength = omega arith
number_some cause.NewHostBits = omega arith
number_some cause.NewTail = omega arith
number_some cause.NewOrder = omega arith

-- A refusal is passed on: a call that judges by the same rules, and first asks one that refuses, says the same.
pub passed_on : {A B : Type 0} (rs : List Rule) (a : A) (b : B) (r : Refusal) → refuses (number_of r.cause) r.index ≡ judge rs a → refuses (number_of r.cause) r.index ≡ judge rs b
passed_on rs a b r e = sym (refuses_any rs a b (number_of r.cause) r.index (sym e))
