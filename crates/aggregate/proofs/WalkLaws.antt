-- What the walks of the four modes make of a whole table: at wide addresses each is the mode's result, and narrowed it is the result itself.
-- Assumes nothing.
use Prim.Native.Nat.{ℕ, ◌+◌, ◌*◌, ◌/◌, ◌≤◌, ◌<◌}
use mathlib.Core.Path.{◌≡◌, refl, sym, ap, ◌∙◌}
use mathlib.Core.Bool.{Bool, true, false}
use mathlib.Core.List.{List, ◌++◌}
use mathlib.Core.Logic.{◌⊎◌, inl, inr}
use native.Mathlib.Nat.{eq-or-lt_of_le, mul_comm}
use native.Mathlib.Omega.{arith}
use lib.Dec.{eqb}
use lib.ListN.{length, drop}
use borrow.Author.Tests.{lt-ltb, eqb-true, eqb-false}
use Rattle.theory.specs.Results.{ortc, result}
use Rattle.theory.specs.Ranks.{lowest}
use Rattle.theory.specs.Routes.{Route, held, Answer, none, via, answer, or_default, filled, Valid, All, Table}
use Rattle.theory.proofs.Agree.{ortc-agree}
use Rattle.theory.proofs.Ranks.{lowest_chooses}
use Rattle.theory.proofs.Lengths.{most_of_lem, result-length}
use Rattle.records.specs.Sized.{IsSize, width_in, records_in, routes_in, bytes_in}
use Rattle.records.proofs.SizedReading.{in_length_routes}
use Rattle.positions.specs.Runs.{no_hop, hop_of, or_else}
use Rattle.positions.specs.Walk.{walk}
use Rattle.positions.specs.Walks.{maximal_out, maximal_next, consistent_map_out, consistent_map_next}
use Rattle.positions.specs.Wide.{widened, narrowed}
use Rattle.positions.proofs.Modes.{set_walk, consistent_map_walk}
use Rattle.positions.proofs.Wide.{result-narrow, length-narrow}
use Rattle.nodes.specs.Node.{wide, spare}
use Rattle.nodes.specs.Output.{wire_of, Wrote}
use Rattle.nodes.specs.Room.{LaidBy, StoredBy}
use Rattle.gather.proofs.GatherLaws.{root-run}
use Rattle.nodes.proofs.OutputLaws.{width_spare, wrote_whole, wrote_count}
use Rattle.nodes.proofs.RoomLaws.{pushed-begins}
use Rattle.assign.specs.Answers.{answer_in}
use Rattle.calls.specs.Rewriting.{mode_of, result_of}
use Rattle.calls.specs.Ending.{Fills}
use Rattle.aggregate.specs.Walks.{whole, wide_result}

-- ---- From wide addresses to those of the wire.

module _ (size : ℕ) (is : IsSize size) (t : List ℕ) (mode fill : ℕ) (ranks : List ℕ) (valid : All (Valid (width_in size)) (routes_in size t)) where
  -- What the mode makes of the table at wide addresses is, narrowed, its result.
  pub wide_is : narrowed (spare size) (wide_result (lowest ranks) size t mode fill) ≡ result_of size t mode fill ranks
  unfolding wide_result result_of
  wide_is =
      ap (λ (u : List Route). narrowed (spare size) (result (lowest ranks) wide (mode_of mode fill) u)) (root-run size t)
      ∙ ap (λ (w : ℕ). narrowed (spare size) (result (lowest ranks) w (mode_of mode fill) (widened (spare size) (routes_in size t)))) (sym (width_spare size is))
      ∙ result-narrow (lowest ranks) (lowest_chooses ranks) (width_in size) (spare size) (mode_of mode fill) valid

  -- So it has as many routes,
  pub wide-length : length (wide_result (lowest ranks) size t mode fill) ≡ length (result_of size t mode fill ranks)
  wide-length = sym (length-narrow (spare size) (wide_result (lowest ranks) size t mode fill)) ∙ ap length wide_is

  -- and the same bytes on the wire.
  pub wide-bytes : wire_of size (wide_result (lowest ranks) size t mode fill) ≡ bytes_in size (result_of size t mode fill ranks)
  wide-bytes = ap (bytes_in size) wide_is

  module _ {k : ℕ} {o o' : List ℕ} (wrote : Wrote size (wide_result (lowest ranks) size t mode fill) 0 k o o') where
    -- A walk counts the records of the result, whatever room there is,
    pub written_count : k ≡ length (result_of size t mode fill ranks)
    written_count = wrote_count wrote ∙ wide-length

    -- and writes them to the start of the output, where they fit.
    pub written-bytes : size * k ≤ length o → o' ≡ bytes_in size (result_of size t mode fill ranks) ++ drop (size * k) o
    written-bytes fits =
        let e : k * size ≡ size * k = mul_comm k size in
        (wrote_whole wrote (omega arith)).0 ∙ rw (wide-bytes, e)

-- It counts at most one record more than the table has.
pub written-most : (size : ℕ) → IsSize size → (t : List ℕ) (mode fill : ℕ) (ranks : List ℕ) → Table (width_in size) (routes_in size t) → {k : ℕ} {o o' : List ℕ}
    → Wrote size (wide_result (lowest ranks) size t mode fill) 0 k o o' → k ≤ records_in size t + 1
unfolding result_of
written-most size is t mode fill ranks table wrote =
    omega (
      arith,
      written_count size is t mode fill ranks table.valid wrote,
      result-length (lowest ranks) (lowest_chooses ranks) (width_in size) (mode_of mode fill) table,
      most_of_lem (mode_of mode fill) (length (routes_in size t)),
      in_length_routes size t,
    )

-- So many records fit where no more are asked for than the room has.
pub records-fit : (size : ℕ) → IsSize size → (room n : ℕ) → n ≤ room / size → size * n ≤ room
records-fit size (inl e) room n h = let g : n ≤ room / 8 = rw e at h in rw e (omega arith)
records-fit size (inr e) room n h = let g : n ≤ room / 16 = rw e at h in rw e (omega arith)

-- ---- The walks from the root.

-- An answer or else none is the answer, and an answer or else a hop is the answer with that default.
else_none : (a : Answer) → or_else a none ≡ a
else_none none = refl
else_none (via h) = refl

else_via : (d : ℕ) (a : Answer) → or_else a (via d) ≡ or_default d a
else_via d none = refl
else_via d (via h) = refl

-- The filling hop is a hop or none.
pub fill_le : {mode fill : ℕ} → Fills mode fill → fill ≤ no_hop
fill_le {mode} {fill} fills = go (eqb mode 5) refl
  where
    go : (b : Bool) → eqb mode 5 ≡ b → fill ≤ no_hop
    go true e = omega (arith, fills.hop (eqb-true mode 5 e))
    go false e = omega (arith, fills.none (eqb-false mode 5 e))

module _ (choose : List ℕ → ℕ) (size : ℕ) (t : List ℕ) {mode : ℕ} (fill : ℕ) where
  -- Mode 1.
  pub set_is : mode ≡ 1 → wide_result choose size t mode fill ≡ walk (maximal_out wide (held wide (whole size t))) (maximal_next (held wide (whole size t))) wide 0 false
  unfolding wide_result
  set_is e = rw e (set_walk choose wide (whole size t))

  -- Mode 3.
  pub consistent_map_is : mode ≡ 3 → Table wide (whole size t)
      → wide_result choose size t mode fill ≡ walk (consistent_map_out wide (whole size t)) (consistent_map_next wide (whole size t)) wide 0 none
  unfolding wide_result
  consistent_map_is e table = rw e (consistent_map_walk choose wide (whole size t) table)

  -- Modes 4 and 5: the rewrite of the answers, filled where the mode fills.
  pub ortc_is : 4 ≤ mode → mode ≤ 5 → Fills mode fill
      → wide_result choose size t mode fill ≡ ortc choose wide (answer_in (whole size t) none (hop_of fill)) wide 0 none
  unfolding wide_result result
  ortc_is low high fills = go (eq-or-lt_of_le high)
    where
      go : (mode ≡ 5) ⊎ (mode < 5) → wide_result choose size t mode fill ≡ ortc choose wide (answer_in (whole size t) none (hop_of fill)) wide 0 none
      go (inl e) =
          rw (e, lt-ltb fill no_hop (fills.hop e))
          (ortc-agree (filled fill (answer wide (whole size t))) (answer_in (whole size t) none (via fill)) choose wide wide 0 none
          (λ x i. sym (else_via fill (answer wide (whole size t) x))))
      go (inr lt) =
          let four : mode ≡ 4 = omega arith in
          rw (four, fills.none (λ five. omega arith))
          (ortc-agree (answer wide (whole size t)) (answer_in (whole size t) none none) choose wide wide 0 none
          (λ x i. sym (else_none (answer wide (whole size t) x))))

-- ---- The room.

-- A block that was laid is stored.
pub laid-stored : {deeper : ℕ → ℕ → List Route → List Route} {own : ℕ → ℕ → List Route → List ℕ → Type 0} {k a : ℕ} {t : List Route} {top r : ℕ}
    {o o' : List ℕ} → LaidBy deeper own k a t top r o o' → top ≤ length o → StoredBy deeper own k a t r o'
laid-stored laid within = record { words = laid.words; block = laid.block; begins = pushed-begins laid.pushed within }
