-- The two engines agree: from their statements alone, for every table, mode, default, ranks, output and work room. Assumes nothing.
use Prim.Native.Nat.{ℕ, zero, suc, ◌*◌}
use mathlib.Core.Path.{◌≡◌, refl, sym, ap, ◌∙◌}
use mathlib.Core.Bool.{Bool, true, false, not, ◌||◌, ◌&&◌}
use mathlib.Core.List.{List, [], ◌∷◌, ◌++◌}
use mathlib.Core.Logic.{◌⊎◌, inl, inr}
use native.Mathlib.Omega.{arith}
use lib.Dec.{eqb, leb}
use lib.ListN.{length}
use borrow.Author.Tests.{ne_eqb, le-leb, lt-leb}
use Rattle.theory.specs.Ranks.{is_ranking}
use Rattle.theory.specs.Routes.{Route}
use Rattle.refusals.specs.Rules.{Rule, rule, Reply, refuses, judge}
use Rattle.records.specs.Sized.{width_in, records_in, routes_in}
use Rattle.records.specs.declared.Form.{Form}
use Rattle.records.specs.Forms.{size_of}
use Rattle.table.specs.TableRules.{form_rules}
use Rattle.nodecount.specs.Nodes.{nodes}
use Rattle.calls.specs.Ending.{last_reply, Finished}
use Rattle.calls.specs.Rewriting.{result_of, takes_set, rewrite_rules, reply_by, rewrite_reply, written_of, output_of, RewritesBy, Rewrites, Outcome, rewritten_says}
use Rattle.calls.proofs.Settled.{rewritten_same}
use Rattle.plain.specs.Rewriting.{is_known, plain_rules}
use Rattle.plain.proofs.Calls.{plain_never_ten}

-- ---- A rule more in a list.

-- It changes nothing, or it is the one that refuses, and without it the rules behind it decide.
one_more : (rs : List Rule) (r : Rule) (qs : List Rule) {A : Type 0} (a : A)
    → (judge (rs ++ (r ∷ qs)) a ≡ judge (rs ++ qs) a)
    ⊎ ((judge (rs ++ (r ∷ qs)) a ≡ refuses r.number r.index) × (judge (rs ++ qs) a ≡ judge qs a))
unfolding judge
one_more [] r qs a = go r.kept refl
  where
    go : (b : Bool) → r.kept ≡ b
        → (judge (r ∷ qs) a ≡ judge qs a) ⊎ ((judge (r ∷ qs) a ≡ refuses r.number r.index) × (judge qs a ≡ judge qs a))
    go true e = inl (rw e)
    go false e = inr (rw e, refl)
one_more (s ∷ rs) r qs a = go s.kept refl (one_more rs r qs a)
  where
    go : (b : Bool) → s.kept ≡ b
        → (judge (rs ++ (r ∷ qs)) a ≡ judge (rs ++ qs) a)
        ⊎ ((judge (rs ++ (r ∷ qs)) a ≡ refuses r.number r.index) × (judge (rs ++ qs) a ≡ judge qs a))
        → (judge ((s ∷ rs) ++ (r ∷ qs)) a ≡ judge ((s ∷ rs) ++ qs) a)
        ⊎ ((judge ((s ∷ rs) ++ (r ∷ qs)) a ≡ refuses r.number r.index) × (judge ((s ∷ rs) ++ qs) a ≡ judge qs a))
    go true e (inl h) = inl (rw e h)
    go true e (inr h) = inr (rw e h.0, rw e h.1)
    go false e h = inl (rw e)

-- ---- The modes that both know.
same_modes : (mode : ℕ) → (mode ≡ 3 → ⊥) → (leb 1 mode && leb mode 5) ≡ is_known mode
same_modes zero three = refl
same_modes (suc zero) three = refl
same_modes (suc (suc zero)) three = refl
same_modes (suc (suc (suc zero))) three = absurd (three refl)
same_modes (suc (suc (suc (suc zero)))) three = refl
same_modes (suc (suc (suc (suc (suc zero))))) three = refl
same_modes (suc (suc (suc (suc (suc (suc n)))))) three =
    let m : ℕ = suc (suc (suc (suc (suc (suc n))))) in
    rw (
      le-leb 1 m (omega arith),
      lt-leb m 5 (omega arith),
      ne_eqb m 1 (λ e. omega arith),
      ne_eqb m 2 (λ e. omega arith),
      ne_eqb m 4 (λ e. omega arith),
      ne_eqb m 5 (λ e. omega arith),
    )

-- ---- A table t in a mode that is not 3, rewritten by each engine: by the first with a room of so many words, to r and o'; by the second to q and p'.
module _ (form : Form) (t : List ℕ) (mode default : ℕ) (ranks o : List ℕ) (words : ℕ) (r : Outcome) (o' w' : List ℕ) (first : Rewrites form t mode default ranks o words r o' w')
    (q : Outcome) (p' : List ℕ) (second : RewritesBy (size_of form) (plain_rules form t mode default ranks (length o)) t mode default ranks o q p')
    (three : mode ≡ 3 → ⊥) where
  abbrev reply : Reply (List Route)
  reply = rewrite_reply form t mode default ranks (length o) words

  abbrev plain : Reply (List Route)
  plain = reply_by (size_of form) (plain_rules form t mode default ranks (length o)) t mode default ranks

  replies : (reply ≡ plain) ⊎ ((reply ≡ refuses 10 0) × (plain ≡ last_reply (size_of form) t mode default ranks (length o)))
  unfolding reply_by rewrite_rules plain_rules
  replies =
      rw (sym (same_modes mode three))
      (one_more
      (rule 1 0 (leb 1 mode && leb mode 5)
      ∷ rule 16 0 (not (eqb mode 2))
      ∷ rule 2 0 (not (eqb mode 5) || leb default 63)
      ∷ rule 15 0 (not (leb 4 mode) || is_ranking 64 ranks)
      ∷ form_rules form (takes_set mode) t)
      (rule 10 0 (leb (160 * nodes (width_in (size_of form)) (routes_in (size_of form) t)) words))
      (rule 11 0 (leb (size_of form * length (result_of (size_of form) t mode default ranks)) (length o)) ∷ [])
      (result_of (size_of form) t mode default ranks))

  -- They give the same answer and the same output; or the first refuses by number 10, and the second ends as the output's room decides: with the result, or
  -- with number 11 where that does not fit.
  pub engines_compared : ((q ≡ r) × (p' ≡ o')) ⊎ ((rewritten_says r ≡ refuses 10 0) × Finished (size_of form) t mode default ranks o q p')
  engines_compared = go replies
    where
      go : (reply ≡ plain) ⊎ ((reply ≡ refuses 10 0) × (plain ≡ last_reply (size_of form) t mode default ranks (length o)))
          → ((q ≡ r) × (p' ≡ o')) ⊎ ((rewritten_says r ≡ refuses 10 0) × Finished (size_of form) t mode default ranks o q p')
      go (inl e) =
          inl (
            rewritten_same q r (second.answer ∙ ap (written_of (records_in (size_of form) t)) (sym e) ∙ sym first.inner.answer),
            second.output ∙ ap (output_of (size_of form) o) (sym e) ∙ sym first.inner.output,
          )
      go (inr e) =
          inr (
            first.inner.answer ∙ ap (written_of (records_in (size_of form) t)) e.0,
            record {
              answer = second.answer ∙ ap (written_of (records_in (size_of form) t)) e.1;
              output = second.output ∙ ap (output_of (size_of form) o) e.1;
            },
          )

  -- So wherever the first does not refuse by number 10 both give the same answer and the same output.
  pub engines_agree : ((index : ℕ) → rewritten_says r ≡ refuses 10 index → ⊥) → (q ≡ r) × (p' ≡ o')
  engines_agree other = go engines_compared
    where
      go : ((q ≡ r) × (p' ≡ o')) ⊎ ((rewritten_says r ≡ refuses 10 0) × Finished (size_of form) t mode default ranks o q p') → (q ≡ r) × (p' ≡ o')
      go (inl same) = same
      go (inr (ten, more)) = absurd (other 0 ten)

  -- And wherever it does the second ends as the output's room decides.
  pub engines_past_ten : (index : ℕ) → rewritten_says r ≡ refuses 10 index → Finished (size_of form) t mode default ranks o q p'
  engines_past_ten index ten = go engines_compared
    where
      go : ((q ≡ r) × (p' ≡ o')) ⊎ ((rewritten_says r ≡ refuses 10 0) × Finished (size_of form) t mode default ranks o q p') → Finished (size_of form) t mode default ranks o q p'
      go (inl same) = absurd (plain_never_ten form t mode default ranks o q p' second index (ap rewritten_says same.0 ∙ ten))
      go (inr (e, more)) = more
