-- The fold of a node (m + 5, a) by the definition's sets: it may be folded once its slots show their sets, and takes exactly the hops that the
-- definition counts.
use Prim.Native.Nat.{ℕ, ◌+◌, ◌-◌, ◌/◌, ◌^◌, ◌≤◌, ◌<◌}
use mathlib.Core.Path.{◌≡◌, sym, ap, ◌∙◌}
use mathlib.Core.List.{List}
use native.Mathlib.Omega.{arith}
use lib.ListN.{length, get_or}
use Rattle.std.specs.declared.option.Option.TheVariants.{None, Some}
use lib.Seq.{slice}
use Rattle.theory.specs.Routes.{Answer, Aligned}
use Rattle.theory.specs.Results.{sets}
use Rattle.positions.specs.Runs.{place_at}
use Rattle.positions.proofs.RunsNode.{size-slot}
use Rattle.weights.specs.Needed.{node_hops, holding}
use Rattle.weights.proofs.Needed.{holding-most}
use Rattle.hopruns.specs.declared.room.Folded.{Folded}
use Rattle.hopruns.specs.Runs.{Run, hops_of}
use Rattle.hopruns.specs.Fold.{run_at, MayFold, DidFold}
use Rattle.hopruns.proofs.NodeSets.{run_at_lem, node-heap, node-hops, node-narrow}

-- Slot c's run stands in the room, above top, and shows the slot's set.
pub record SlotShown (f : ℕ → Answer) (m a : ℕ) (o from to : List ℕ) (top c : ℕ) : Type 0 where
  pub run : Run o (get_or from (31 + c) 0) (get_or to (31 + c) 0)
  pub under : top ≤ get_or from (31 + c) 0
  pub shows : slice (get_or from (31 + c) 0) (get_or to (31 + c) 0) o ≡ hops_of (sets f m (place_at m a 5 c))

module _ (f : ℕ → Answer) (spare m a : ℕ) (alike : (x y : ℕ) → x / 2 ^ spare ≡ y / 2 ^ spare → f x ≡ f y) (lined : Aligned (m + 5) a) where
  pub may_fold : (o from to : List ℕ) (top left : ℕ) → length from ≡ 63 → length to ≡ 63 → ((c : ℕ) → c < 32 → SlotShown f m a o from to top c)
      → left + 63 ≤ top → top ≤ length o → MayFold (run_at f m a) (holding spare (m + 5)) o from to top left
  may_fold o from to top left starts ends slots room within =
      record {
        starts = starts;
        ends = ends;
        heap = node-heap f m a;
        shown = λ k low lt. let e : 31 + (k - 31) ≡ k = omega arith in rw e at (shown (k - 31) (omega arith));
        placed = λ k low lt. let e : 31 + (k - 31) ≡ k = omega arith in rw e at (placed (k - 31) (omega arith));
        counted = holding-most spare (m + 5);
        narrow = λ b past lt. node-narrow f spare m a alike lined b past lt;
        room = omega arith;
        within = within;
      }
    where
      placed : (c : ℕ) → c < 32 → Run o (get_or from (31 + c) 0) (get_or to (31 + c) 0) × (top ≤ get_or from (31 + c) 0)
      placed c lt = ((slots c lt).run, (slots c lt).under)

      shown : (c : ℕ) → c < 32 → slice (get_or from (31 + c) 0) (get_or to (31 + c) 0) o ≡ run_at f m a (31 + c)
      shown c lt =
          (slots c lt).shows ∙ ap (λ (n : ℕ). hops_of (sets f n (place_at m a 5 c))) (sym (size-slot m)) ∙ sym (run_at_lem f m a 5 c (omega arith) lt)

module _ (f : ℕ → Answer) (spare m a : ℕ) where
  -- The words that are left are those without the definition's hops, or these are more than there were.
  pub folds_fit : (top left : ℕ) (r : Folded) (o o' : List ℕ) → DidFold (run_at f m a) (holding spare (m + 5)) top left (Some r) o o'
      → r.left + node_hops f spare (m + 5) a ≡ left
  folds_fit top left r o o' did = omega (arith, did.spent, node-hops f m a spare)

  pub folds_short : (top left : ℕ) (o o' : List ℕ) → DidFold (run_at f m a) (holding spare (m + 5)) top left None o o'
      → left < node_hops f spare (m + 5) a
  folds_short top left o o' did = omega (arith, did, node-hops f m a spare)
