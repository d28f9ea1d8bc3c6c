-- Rooms that are always long enough: 1,025 records of output, and a work room for the most nodes that 1,024 records have: 8,200 bytes and 824,480 words
-- with records of 8 bytes, 16,400 bytes and 1,807,520 words with records of 16. Assumes of the table that its elements are bytes.
use mathlib.Core.Path.{◌≡◌}
use mathlib.Core.List.{List}
use mathlib.Core.Logic.{inl, inr}
use Prim.Native.Nat.{ℕ, ◌+◌, ◌-◌, ◌*◌, ◌/◌, ◌≤◌}
use native.Mathlib.Nat.{le_trans}
use native.Mathlib.Omega.{arith}
use lib.ListN.{length}
use Rattle.theory.specs.Ranks.{lowest, Ranking}
use Rattle.theory.proofs.Ranks.{lowest_chooses}
use Rattle.theory.proofs.Lengths.{most_of_lem, result-length}
use Rattle.records.specs.Sized.{IsSize, width_in, routes_in, Bytes}
use Rattle.records.specs.declared.Form.{Form}
use Rattle.records.specs.Forms.{size_of}
use Rattle.records.proofs.SizedReading.{form_size}
use Rattle.table.specs.Conditions.{AcceptedBy}
use Rattle.table.proofs.SizedTables.{in_lawful}
use Rattle.nodecount.specs.Nodes.{nodes}
use Rattle.nodecount.proofs.NodeCount.{nodes-most}
use Rattle.calls.specs.Conditions.{Answerable}
use Rattle.calls.specs.Rewriting.{InUse, mode_of, result_of, takes_set}

-- The most nodes of a table of 1,024 records of this size: the root, 32 nodes at depth 5, and one node for each record at each deeper depth.
abbrev pub most_nodes : ℕ → ℕ
most_nodes size = 33 + (width_in size / 5 - 1) * 1024

fits : (size : ℕ) → IsSize size → (n : ℕ) → n ≤ 1025 → size * n ≤ size * 1025
fits size (inl e) n le = rw e (omega arith)
fits size (inr e) n le = rw e (omega arith)

-- With such rooms an accepted table is answered in every mode, mode 5 given a hop and modes 4 and 5 lawful ranks: none is refused for room.
pub rooms_enough : (form : Form) (t : List ℕ) (mode default : ℕ) (ranks : List ℕ) (room words : ℕ) → Bytes t → InUse mode → (mode ≡ 5 → default ≤ 63)
    → (4 ≤ mode → Ranking 64 ranks) → AcceptedBy form (takes_set mode) t
    → size_of form * 1025 ≤ room → 160 * most_nodes (size_of form) ≤ words
    → Answerable form t mode default ranks room × (160 * nodes (width_in (size_of form)) (routes_in (size_of form) t) ≤ words)
unfolding result_of
rooms_enough form t mode default ranks room words bytes known small ranked accepted output work =
    let lawful = in_lawful (size_of form) (form_size form) form.strict (takes_set mode) t bytes accepted in (
      record {
        known_mode = known;
        small_default = small;
        lawful_ranks = ranked;
        accepted = accepted;
        enough_output =
            le_trans
            (fits (size_of form) (form_size form) (length (result_of (size_of form) t mode default ranks))
            (omega (
              arith,
              lawful.few,
              most_of_lem (mode_of mode default) (length (routes_in (size_of form) t)),
              result-length (lowest ranks) (lowest_chooses ranks) (width_in (size_of form)) (mode_of mode default) lawful.table,
            )))
            output;
      },
      omega (arith, nodes-most (width_in (size_of form)) lawful.table lawful.few),
    )
