-- The candidates and the entries of a position by how it is taken apart: where it has one answer, and from those of its halves. Over the size of a record.
-- Assumes nothing.
use Prim.Native.Nat.{ℕ, suc, ◌+◌, ◌-◌, ◌^◌, ◌≤◌}
use mathlib.Core.Path.{◌≡◌, refl, sym, ap, ap₂, ◌∙◌}
use mathlib.Core.Bool.{true, false}
use mathlib.Core.List.{List, [], ◌∷◌, ◌++◌, append_assoc}
use native.Mathlib.Omega.{arith}
use lib.ListN.{length, length-append}
use Rattle.theory.specs.Results.{Cand, hole, of, leaf, combine, allowed, sets, assigned, here, ortc}
use Rattle.theory.specs.Ranks.{lowest}
use Rattle.theory.specs.Routes.{Route, Answer}
use Rattle.theory.proofs.Agree.{sets-agree, ortc-agree}
use Rattle.theory.proofs.Least.{least}
use Rattle.theory.proofs.Count.{missing_most}
use Rattle.theory.proofs.Ranks.{lowest_chooses}
use Rattle.theory.proofs.Quick.{ortc_uniform}
use Rattle.theory.proofs.Uniform.{sets_uniform}
use Rattle.records.specs.Sized.{width_in, route}
use Rattle.records.proofs.SizedReading.{in_length_from}
use Rattle.positions.specs.Runs.{hop_of}
use Rattle.runs.specs.Runs.{run, RunAt}
use Rattle.hops.specs.Sets.{ShowsHops, ShowsSet}
use Rattle.hops.proofs.SetLaws.{zero-shows-hole}
use Rattle.plain.specs.Positions.{answer_at, set_at, entry_at, entries_at, OneAnswer, Halved}

-- ---- One answer throughout.
module _ {size : ℕ} {t : List ℕ} {lo hi cover n a hop : ℕ} (one : OneAnswer size t lo hi cover n a hop) where
  pub set_uniform : set_at size t lo hi cover n a ≡ leaf (hop_of hop)
  unfolding set_at
  set_uniform = sets_uniform (answer_at size t lo hi cover) (hop_of hop) n a one.answers

  -- It has at most its own entry.
  pub entries_uniform : (ranks : List ℕ) (above : ℕ) → entries_at ranks size t lo hi cover n a above ≡ entry_at ranks size (set_at size t lo hi cover n a) n a above
  unfolding entries_at
  entries_uniform ranks above =
      ortc_uniform (lowest ranks) (width_in size) (lowest_chooses ranks) (answer_at size t lo hi cover) (hop_of hop) n a (hop_of above) one.answers
      ∙ ap (λ (S : Cand). entry_at ranks size S n a above) (sym set_uniform)

-- ---- Two halves, of a position of N bits.
module _ {size : ℕ} {t : List ℕ} {lo hi cover n a hop first mid right : ℕ} (halves : Halved size t lo hi cover n a hop first mid right) {N : ℕ} (e : N ≡ suc n) where
  pub set_halves : set_at size t lo hi cover N a ≡ combine (set_at size t first mid hop n a) (set_at size t mid hi hop n right)
  unfolding set_at sets
  set_halves =
      ap (λ (m : ℕ). sets (answer_at size t lo hi cover) m a) e
      ∙ ap₂ combine (sets-agree (answer_at size t lo hi cover) (answer_at size t first mid hop) n a halves.left_answers)
      (ap (λ (b : ℕ). sets (answer_at size t lo hi cover) n b) (sym halves.begins)
      ∙ sets-agree (answer_at size t lo hi cover) (answer_at size t mid hi hop) n right halves.right_answers)

  -- Its own entry, then theirs, under the hop that it is assigned.
  pub entries_halves : (ranks : List ℕ) (above given : ℕ) → hop_of given ≡ assigned (lowest ranks) (set_at size t lo hi cover N a) (hop_of above)
      → entries_at ranks size t lo hi cover N a above
      ≡ (entry_at ranks size (set_at size t lo hi cover N a) N a above ++ entries_at ranks size t first mid hop n a given) ++ entries_at ranks size t mid hi hop n right given
  unfolding entries_at set_at ortc
  entries_halves ranks above given assigns =
      let own : List Route = entry_at ranks size (set_at size t lo hi cover N a) N a above in
      let g : Answer = assigned (lowest ranks) (set_at size t lo hi cover N a) (hop_of above) in
      let left : ortc (lowest ranks) (width_in size) (answer_at size t lo hi cover) n a g ≡ entries_at ranks size t first mid hop n a given =
      ap (ortc (lowest ranks) (width_in size) (answer_at size t lo hi cover) n a) (sym assigns)
      ∙ ortc-agree (answer_at size t lo hi cover) (answer_at size t first mid hop) (lowest ranks) (width_in size) n a (hop_of given) halves.left_answers in
      let other : ortc (lowest ranks) (width_in size) (answer_at size t lo hi cover) n (a + 2 ^ n) g ≡ entries_at ranks size t mid hi hop n right given =
      ap₂ (λ (b : ℕ) (v : Answer). ortc (lowest ranks) (width_in size) (answer_at size t lo hi cover) n b v) (sym halves.begins) (sym assigns)
      ∙ ortc-agree (answer_at size t lo hi cover) (answer_at size t mid hi hop) (lowest ranks) (width_in size) n right (hop_of given) halves.right_answers in
      parted ∙ ap (λ (rs : List Route). own ++ rs) (ap₂ ◌++◌ left other)
      ∙ sym (append_assoc own (entries_at ranks size t first mid hop n a given) (entries_at ranks size t mid hi hop n right given))
    where
      parted : ortc (lowest ranks) (width_in size) (answer_at size t lo hi cover) N a (hop_of above)
          ≡ here (lowest ranks) (width_in size) (sets (answer_at size t lo hi cover) N a) N a (hop_of above)
          ++ (ortc (lowest ranks) (width_in size) (answer_at size t lo hi cover) n a (assigned (lowest ranks) (sets (answer_at size t lo hi cover) N a) (hop_of above))
          ++ ortc (lowest ranks) (width_in size) (answer_at size t lo hi cover) n (a + 2 ^ n) (assigned (lowest ranks) (sets (answer_at size t lo hi cover) N a) (hop_of above)))
      parted = rw e

  -- So many they are.
  pub entries_count : (ranks : List ℕ) (above given : ℕ) → hop_of given ≡ assigned (lowest ranks) (set_at size t lo hi cover N a) (hop_of above)
      → length (entries_at ranks size t lo hi cover N a above)
      ≡ length (entry_at ranks size (set_at size t lo hi cover N a) N a above) + length (entries_at ranks size t first mid hop n a given) + length (entries_at ranks size t mid hi hop n right given)
  entries_count ranks above given assigns =
      let own : List Route = entry_at ranks size (set_at size t lo hi cover N a) N a above in
      let left : List Route = entries_at ranks size t first mid hop n a given in
      let other : List Route = entries_at ranks size t mid hi hop n right given in
      ap length (entries_halves ranks above given assigns) ∙ omega (arith, length-append (own ++ left) other, length-append own left)

-- ---- The own entry, by the word x that shows the candidates, where the hop `above` is assigned above.
module _ (ranks : List ℕ) (size n a above : ℕ) where
  -- A hole has none,
  pub entry-hole : (x : ℕ) (S : Cand) → ShowsSet x S → x ≡ 0 → entry_at ranks size S n a above ≡ []
  entry-hole x S p e = ap (λ (R : Cand). entry_at ranks size R n a above) (zero-shows-hole x S p e)

  -- nor has a set with that hop;
  pub entry-taken : (x : ℕ) (S : Cand) → ShowsSet x S → (x ≡ 0 → ⊥) → ((s : List ℕ) → ShowsHops x s → true ≡ allowed (hop_of above) s)
      → entry_at ranks size S n a above ≡ []
  entry-taken x hole p other e = absurd (other p)
  entry-taken x (of s) p other e = rw (← e s p.0)

  -- any other set has one with its hop of lowest rank.
  pub entry-chosen : (x : ℕ) (S : Cand) (h : ℕ) → ShowsSet x S → (x ≡ 0 → ⊥) → ((s : List ℕ) → ShowsHops x s → false ≡ allowed (hop_of above) s)
      → ((s : List ℕ) → ShowsHops x s → h ≡ lowest ranks s) → entry_at ranks size S n a above ≡ route a (width_in size - n) h ∷ []
  entry-chosen x hole h p other e least = absurd (other p)
  entry-chosen x (of s) h p other e least = rw (← e s p.0, least s p.0)

-- ---- How many entries there are: at most one more than the records of the run.
pub entries_few : (ranks : List ℕ) {size : ℕ} {t : List ℕ} {lo hi n a : ℕ} (cover above : ℕ) → RunAt size (width_in size) t lo hi n a
    → length (entries_at ranks size t lo hi cover n a above) ≤ hi - lo + 1
unfolding entries_at
entries_few ranks {size} {t} {lo} {hi} {n} {a} cover above at =
    omega (
      arith,
      least (lowest ranks) (lowest_chooses ranks) (width_in size) (answer_at size t lo hi cover) n a (hop_of cover) (hop_of above) (run size t lo hi) at.lies.fits
          at.lies.aligned at.lies.within (λ x i. refl),
      missing_most (hop_of above) (sets (answer_at size t lo hi cover) n a),
      in_length_from size t lo (hi - lo),
    )
