-- `consistent::entries_of` meets its contract. The loop's invariant: the bits of the positions before b are found. Assumes nothing.
use Prim.Native.Nat.{ℕ, ◌+◌}
use mathlib.Core.Path.{◌≡◌, sym, ◌∙◌}
use mathlib.Core.Bool.{true, and-true}
use native.Mathlib.Omega.{arith}
use lib.Dec.{ltb}
use lib.ListN.{get_or}
use borrow.Author.Tests.{le-ltb}
use Rattle.gather.proofs.MarkedBits.{Marked, passes_up, marked_none, marked-take, marked_skip}
use Rattle.consistent.proofs.MapLaws.{entry_bit, is_entry_lem, same_no_entry, bare_no_entry, marked-past}
use Rattle.consistent.proofs.entries_of.Goals as goal
use Rattle.consistent.proofs.entries_of.Goals.{then-first-b+then-hops-b, else-first-b, else-first-b-via-then-first-b+else-hops-b, else-first-b-via-else-first-b}

pub loop-b-init : goal.loop-b-init
loop-b-init c =
    let a = c.args in
    (c.next_bit-b.ensures.high, marked-past a.first.now a.end.now a.hops.now a.inherited 0 c.requires c.next_bit-b.ensures (marked_none 31 _ (λ i. ltb i 0) (λ i lt. le-ltb i 0 (omega arith))))

pub loop-b-preserved : goal.loop-b-preserved
loop-b-preserved c =
    let l = c.loop-b in
    let a = c.args in
    let m = l.invariant.1 in
    let here : Marked 31 (entry_bit a.first.now a.end.now a.hops.now a.inherited) (λ (i : ℕ). ltb i (l.b + 1)) c.if-first-b.entries = elim c.if-first-b.branch [
      | then-first-b+then-hops-b w ↦
          let differs : get_or a.hops.now l.b 0 ≡ w.over_at.result → ⊥ = w.if-hops-b.true in
          rw w.entries-is
          (marked-take m l.b (λ i. ltb i (l.b + 1)) (passes_up l.b) true w.with_bit-entries.result
          (sym (is_entry_lem _ _ _ _ w.if-first-b.true (λ e. differs (e ∙ sym w.over_at.ensures))))
          (λ i lt. w.with_bit-entries.ensures i (omega arith) ∙ rw and-true))
      | else-first-b w ↦ rw w.entries-is (marked_skip m l.b (λ i. ltb i (l.b + 1)) (passes_up l.b) (λ small. elim w.else-first-b.branch [
        | else-first-b-via-then-first-b+else-hops-b v ↦ same_no_entry _ _ _ _ (v.if-hops-b.false ∙ v.over_at.ensures)
        | else-first-b-via-else-first-b v ↦ bare_no_entry _ _ _ _ v.if-first-b.false
      ]))
    ] in
    (c.next_bit-b-in-loop-b.ensures.high, marked-past a.first.now a.end.now a.hops.now a.inherited c.if-first-b.entries c.requires c.next_bit-b-in-loop-b.ensures here)
