-- How many steps the plan has, and how many prefixes the two tables have together: what the planner answers where no rule is broken. Assumes nothing.
use Prim.Native.Nat.{ℕ, ◌+◌, ◌≤◌, ◌<◌}
use mathlib.Core.Path.{◌≡◌, ap}
use mathlib.Core.Bool.{Bool, false, not, or-true}
use mathlib.Core.List.{List, [], map}
use native.Mathlib.Omega.{arith}
use lib.Dec.{ltb}
use lib.ListN.{length, length-append, length-map}
use borrow.Author.Tests.{lt-ltb, le-ltb}
use Rattle.std.specs.Prelude.{None, Some}
use Rattle.theory.specs.Routes.{Route, Answer, via, Table}
use Rattle.theory.specs.Shapes.{routed}
use Rattle.theory.specs.Results.{part}
use Rattle.theory.proofs.Parts.{length_parts, table-part, part_none}
use Rattle.records.specs.Wire.{records, routes}
use Rattle.records.proofs.Reading.{length-routes}
use Rattle.table.specs.Conditions.{Lawful}
use Rattle.steps.specs.Steps.{putting, entry}
use Rattle.steps.specs.Planned.{changes, gone, together, falling, rising, taking_of, plan}
use Rattle.steps.proofs.Entries.{ascending_distinct, member-entry, true_answer}
use Rattle.steps.proofs.Tables.{as_long}
use Rattle.steps.proofs.Phase.{down, up, ordered_distinct}
use Rattle.steps.proofs.Levels.{falling_ordered, rising_ordered, falling-entry, rising-entry}
use Rattle.planner.specs.Planning.{struct_of, plan_of, chosen}

-- No more are due than there are.
pub few_due : {rs : List Route} (p : Route → Bool) → Lawful false rs → length (part p rs) ≤ 1024
few_due {rs} p ok = omega (arith, length_parts p rs, ok.few)

module _ {w : ℕ} {q : List Route} (table : Table w q) where
  length-falling : length (falling w q) ≡ length q
  length-falling =
      as_long (falling w q) q (ordered_distinct down (falling_ordered table.order w)) (ascending_distinct table.order)
      (λ a l. ap routed (falling-entry table a l))

  length-rising : length (rising w q) ≡ length q
  length-rising =
      as_long (rising w q) q (ordered_distinct up (rising_ordered table.order w)) (ascending_distinct table.order)
      (λ a l. ap routed (rising-entry table a l))

-- Between a table and itself nothing changes, and nothing is gone.
module _ {w : ℕ} {rs : List Route} (table : Table w rs) where
  pub same_changes : changes rs rs ≡ []
  same_changes = part_none _ rs (λ r m. ap not (true_answer (entry rs r.addr r.len) (via r.hop) (member-entry (ascending_distinct table.order) m)))

  pub same_gone : gone rs rs ≡ []
  same_gone = part_none _ rs (λ r m. ap (λ (v : Answer). not (routed v)) (member-entry (ascending_distinct table.order) m))

module _ (t u : List ℕ) (from : Table 32 (routes t)) (to : Table 32 (routes u)) where
  abbrev changed : List Route
  changed = changes (routes t) (routes u)

  abbrev lost : List Route
  lost = gone (routes t) (routes u)

  -- The plan has a step for each change and for each prefix that is gone.
  pub plan-length : length (plan_of t u) ≡ length changed + length lost
  plan-length =
      let puts : Table 32 changed = table-part 32 _ to in
      let takes : Table 32 lost = table-part 32 _ from in
      omega (
        arith,
        length-map (plan 32 (routes t) (routes u)) struct_of,
        length-append (map putting (falling 32 changed)) (map taking_of (rising 32 lost)),
        length-map (falling 32 changed) putting,
        length-map (rising 32 lost) taking_of,
        length-falling puts,
        length-rising takes,
      )

  module _ (n puts takes : ℕ) (p : puts ≡ length changed) (q : takes ≡ length lost) where
    all : records u + takes ≡ together (routes t) (routes u)
    all = omega (arith, length-routes u)

    steps : puts + takes ≡ length (plan_of t u)
    steps = omega (arith, plan-length)

    pub chosen_full : 1024 < records u + takes → None ≡ chosen t u n
    chosen_full lt = rw (lt-ltb 1024 (together (routes t) (routes u)) (omega (arith, all)))

    pub chosen-short : n < puts + takes → None ≡ chosen t u n
    chosen-short lt =
        rw (lt-ltb n (length (plan_of t u)) (omega (arith, steps))) (rw (or-true (ltb 1024 (together (routes t) (routes u)))))

    pub chosen-plan : records u + takes ≤ 1024 → puts + takes ≤ n → Some (puts + takes) ≡ chosen t u n
    chosen-plan le fit =
        rw (le-ltb 1024 (together (routes t) (routes u)) (omega (arith, all)), le-ltb n (length (plan_of t u)) (omega (arith, steps))) (ap Some steps)
