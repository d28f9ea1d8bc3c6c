-- Every accepted table is shrunk: the program's rooms are long enough. Assumes of the table that its elements are bytes.
use mathlib.Core.Path.{◌≡◌, refl, ap, subst}
use mathlib.Core.Bool.{false}
use mathlib.Core.List.{List, []}
use mathlib.Core.Logic.{inl}
use Prim.Native.Nat.{ℕ, ◌≤◌}
use native.Mathlib.Omega.{arith}
use lib.Dec.{ltb}
use lib.ListN.{length, replicate, length-replicate}
use Rattle.refusals.specs.Rules.{gives}
use Rattle.records.specs.Wire.{records}
use Rattle.records.specs.Sized.{Bytes}
use Rattle.records.specs.Forms.{by_default}
use Rattle.table.specs.Conditions.{Accepted}
use Rattle.calls.specs.Rewriting.{InUse, result_of, takes_set, rewrite_reply}
use Rattle.calls.proofs.Enough.{rooms_enough}
use Rattle.calls.proofs.Refusals.{answerable_exactly, reply-gives}
use Rattle.text.specs.Answers.{reply_text}
use Rattle.program.specs.Printed.{printed_in}

-- What is printed for an accepted table, in a mode in use and, in mode 5, with a hop as the default: the result's records and the change.
pub accepted_shrunk : (t : List ℕ) (mode default : ℕ) → Bytes t → InUse mode → (mode ≡ 5 → default ≤ 63) → Accepted by_default (takes_set mode) t
    → printed_in by_default mode default 8200 824480 t ≡ reply_text 8 false (ltb 1 mode) (records t) (gives (result_of 8 t mode default []))
unfolding printed_in
accepted_shrunk t mode default bytes known small accepted =
    let size = length-replicate {A = ℕ} 8200 0 in
    let answerable = rooms_enough by_default t mode default [] (length (replicate {A = ℕ} 8200 0)) 824480 bytes known small (λ h. inl refl) accepted (omega (arith, size)) (omega arith) in
    let reply = (reply-gives by_default t mode default [] (replicate 8200 0) 824480).1 ((answerable_exactly by_default t mode default [] (length (replicate {A = ℕ} 8200 0)) 824480).1 answerable, refl) in
    ap (reply_text 8 false (ltb 1 mode) (records t)) (subst (λ (room : ℕ). rewrite_reply by_default t mode default [] room 824480 ≡ gives (result_of 8 t mode default [])) size reply)
