-- The ranks of a rewrite, of any engine whose rules are guarded: in modes 4 and 5 the hop of each record that is written has the lowest rank of the candidates
-- of its prefix; how many records are written does not depend on the ranks; none lent is the smallest hop, as ranks equal to hop numbers; and modes 1 and 3
-- do not read them. Assumes of a table, where it says so, that its elements are bytes.
use mathlib.Core.Path.{◌≡◌, refl, sym, ◌∙◌}
use mathlib.Core.List.{List, []}
use mathlib.Core.Logic.{inr}
use Prim.Native.Nat.{ℕ, ◌*◌, ◌≤◌, ◌<◌}
use native.Mathlib.Omega.{arith}
use lib.IntN.{ℤ}
use lib.ListN.{length, get_or, take}
use borrow.Author.Tests.{lt-leb}
use Rattle.theory.specs.Ranks.{lowest, RankedFirst, EachOnce}
use Rattle.theory.specs.Results.{result, smallest}
use Rattle.theory.specs.Routes.{All, answer, filled}
use Rattle.theory.proofs.Ranks.{lowest_chooses, numbered_unranked, result_same, unranked_result, drop-first, fill_first, result_count, ranking_tested}
use Rattle.refusals.specs.Rules.{Rule}
use Rattle.records.specs.Sized.{width_in, routes_in, Bytes}
use Rattle.records.specs.declared.Form.{Form}
use Rattle.records.specs.Forms.{size_of}
use Rattle.calls.specs.Conditions.{Guarded}
use Rattle.calls.specs.Rewriting.{InUse, mode_of, result_of, rewrite_rules, reply_by, rewrite_reply, RewritesBy, records_out}
use Rattle.calls.proofs.Ending.{mode_is}
use Rattle.calls.proofs.Engines.{by_counted, by_reads}

-- ---- What the ranks decide of a result.
module _ (size : ℕ) (t : List ℕ) (mode default : ℕ) where
  -- Its hops, not how many routes it has.
  pub ranks_count : (ranks other : List ℕ) → length (result_of size t mode default ranks) ≡ length (result_of size t mode default other)
  unfolding result_of
  ranks_count ranks other =
      result_count (width_in size) (lowest ranks) (lowest other) (lowest_chooses ranks) (lowest_chooses other) (mode_of mode default) (routes_in size t)

  -- Without ranks it is the result with the smallest hop, the crate's;
  pub unranked : result_of size t mode default [] ≡ result smallest (width_in size) (mode_of mode default) (routes_in size t)
  unfolding result_of
  unranked = unranked_result (width_in size) (mode_of mode default) (routes_in size t)

  -- and so it is with ranks that are the hop numbers.
  pub numbered : (ranks : List ℕ) → ((h : ℕ) → h < length ranks → get_or ranks h 0 ≡ h) → result_of size t mode default ranks ≡ result_of size t mode default []
  unfolding result_of
  numbered ranks own = result_same (lowest ranks) (lowest []) (λ s sorted. numbered_unranked ranks own s) (width_in size) (mode_of mode default) (routes_in size t)

  -- Modes 1 and 3 do not read them.
  pub unread : (ranks other : List ℕ) → InUse mode → mode ≤ 3 → result_of size t mode default ranks ≡ result_of size t mode default other
  unfolding result_of result
  unread ranks other used low =
      mode_is (λ m. result (lowest ranks) (width_in size) m (routes_in size t) ≡ result (lowest other) (width_in size) m (routes_in size t)) mode default used (λ e. refl) (λ e. refl)
      (λ e. absurd (omega arith)) (λ e. absurd (omega arith))

-- ---- The call replies alike.
module _ (form : Form) (t : List ℕ) (mode default : ℕ) where
  -- With ranks that are the hop numbers, and without ranks,
  pub numbered_reply : (ranks : List ℕ) (room words : ℕ) → length ranks ≡ 64 → ((h : ℕ) → h < 64 → get_or ranks h 0 ≡ h)
      → rewrite_reply form t mode default ranks room words ≡ rewrite_reply form t mode default [] room words
  unfolding reply_by rewrite_rules
  numbered_reply ranks room words long own =
      rw ((ranking_tested 64 ranks).1 (inr each), numbered (size_of form) t mode default ranks (λ h lt. own h (omega arith)))
    where
      each : EachOnce 64 ranks
      each =
          record {
            count = long;
            low = λ h lt. omega (arith, own h lt);
            once = λ h k p q same. sym (own h p) ∙ same ∙ own k q;
            each = λ r lt. (r, lt, own r lt);
          }

  -- and in modes 1 and 3 with any.
  pub unread_reply : (ranks other : List ℕ) (room words : ℕ) → InUse mode → mode ≤ 3
      → rewrite_reply form t mode default ranks room words ≡ rewrite_reply form t mode default other room words
  unfolding reply_by rewrite_rules
  unread_reply ranks other room words used low = rw (lt-leb 4 mode (omega arith), unread (size_of form) t mode default ranks other used low)

-- ---- A table t, rewritten by an engine without refusal.
module _ (form : Form) (rules : List Rule) (t : List ℕ) (bytes : Bytes t) (ranks o : List ℕ) (count : ℕ) (change : ℤ) (o' : List ℕ) where
  -- The hop of each record that is written is one of the candidates of its prefix, and none of them has a lower rank: in mode 4 where the table answers,
  pub drop_by_first : (d : ℕ) → Guarded form rules t 4 d ranks (length o) → RewritesBy (size_of form) rules t 4 d ranks o (records_out count change) o'
      → All (RankedFirst ranks (width_in (size_of form)) (answer (width_in (size_of form)) (routes_in (size_of form) t))) (routes_in (size_of form) (take (size_of form * count) o'))
  drop_by_first d guarded ok =
      rw (by_reads form rules t 4 d ranks o guarded (records_out count change) o' ok count change refl bytes) (drop-first ranks (width_in (size_of form)) (routes_in (size_of form) t))

  -- in mode 5 where it answers or else the default does.
  pub fill_by_first : (d : ℕ) → Guarded form rules t 5 d ranks (length o) → RewritesBy (size_of form) rules t 5 d ranks o (records_out count change) o'
      → All (RankedFirst ranks (width_in (size_of form)) (filled d (answer (width_in (size_of form)) (routes_in (size_of form) t)))) (routes_in (size_of form) (take (size_of form * count) o'))
  fill_by_first d guarded ok =
      rw (by_reads form rules t 5 d ranks o guarded (records_out count change) o' ok count change refl bytes) (fill_first ranks (width_in (size_of form)) d (routes_in (size_of form) t))

-- ---- The same table, rewritten in one mode under two lists of ranks, by one engine or by two, without refusal: as many records.
pub by_count : (form : Form) (rules more : List Rule) (t : List ℕ) (mode default : ℕ) (ranks other o p : List ℕ)
    → Guarded form rules t mode default ranks (length o) → Guarded form more t mode default other (length p)
    → (count number : ℕ) (change differs : ℤ) (o' p' : List ℕ)
    → RewritesBy (size_of form) rules t mode default ranks o (records_out count change) o'
    → RewritesBy (size_of form) more t mode default other p (records_out number differs) p' → count ≡ number
by_count form rules more t mode default ranks other o p guarded guards count number change differs o' p' ok also =
    by_counted form rules t mode default ranks o guarded (records_out count change) o' ok count change refl
    ∙ ranks_count (size_of form) t mode default ranks other
    ∙ sym (by_counted form more t mode default other p guards (records_out number differs) p' also number differs refl)
