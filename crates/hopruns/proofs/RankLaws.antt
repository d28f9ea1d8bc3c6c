-- The test of ranks: what holds while it goes through them, and what it says then.
use Prim.Native.Nat.{ℕ, zero, suc, ◌≤◌, ◌<◌}
use mathlib.Core.Path.{◌≡◌, refl, sym, ap, ◌∙◌}
use mathlib.Core.Bool.{Bool, true, false, true≢false, and-false}
use mathlib.Core.List.{List, [], ◌∷◌}
use native.Mathlib.Omega.{arith}
use lib.Dec.{ltb}
use lib.ListN.{length, get_or, drop, replicate, get_or-replicate, length-replicate}
use lib.Seq.{drop-cons, drop-length}
use borrow.Author.Tests.{eq-eqb, ne_eqb, le-ltb}
use Rattle.theory.specs.Results.{has}
use Rattle.theory.specs.Ranks.{differing, is_ranking}
use Rattle.theory.proofs.Ranks.{first_differs}
use Rattle.hopruns.specs.Runs.{no_hop}

-- Of n ranks it is whether they differ, of others whether there is none.
pub tests_differing : (n : ℕ) (ranks : List ℕ) (b : Bool) → length ranks ≡ n → differing n ranks ≡ b → b ≡ is_ranking n ranks
tests_differing n [] b long e = sym e
tests_differing n (r ∷ rs) b long e = rw (ne_eqb (length (r ∷ rs)) 0 (λ z. omega arith), eq-eqb (length (r ∷ rs)) n long) (sym e)

-- The ranks from i on differ, and those numbers are marked that are among them.
pub record Seen (n : ℕ) (ranks : List ℕ) (i : ℕ) (seen : List Bool) : Type 0 where
  pub size : length seen ≡ no_hop
  pub differ : differing n (drop i ranks) ≡ true
  pub marks : (h : ℕ) → h < no_hop → get_or seen h false ≡ has h (drop i ranks)

pub seen_none : (n : ℕ) (ranks : List ℕ) (i : ℕ) → length ranks ≡ i → Seen n ranks i (replicate no_hop false)
seen_none n ranks i e =
    let z : drop i ranks ≡ [] = ap (λ (k : ℕ). drop k ranks) (sym e) ∙ drop-length ranks in
    record { size = length-replicate no_hop false; differ = rw z; marks = λ h lt. rw z (get_or-replicate no_hop h false false lt) }

-- A list fails the test where what follows some place does.
failed : (n : ℕ) (ranks : List ℕ) (i : ℕ) → differing n (drop i ranks) ≡ false → differing n ranks ≡ false
failed n ranks i e = go (differing n ranks) refl
  where
    passed : (rs : List ℕ) (i : ℕ) → differing n rs ≡ true → differing n (drop i rs) ≡ true
    passed rs zero t = t
    passed [] (suc i) t = refl
    passed (r ∷ rs) (suc i) t = passed rs i (first_differs n r rs t).2

    go : (b : Bool) → differing n ranks ≡ b → differing n ranks ≡ false
    go true t = absurd (true≢false (sym (passed ranks i t) ∙ e))
    go false t = t

module _ {n : ℕ} {ranks : List ℕ} {i j : ℕ} {seen : List Bool} (p : Seen n ranks j seen) (few : n ≤ no_hop) (next : j ≡ suc i) (inside : i < length ranks) where
  from : drop i ranks ≡ get_or ranks i 0 ∷ drop j ranks
  from = rw next (drop-cons ranks i 0 inside)

  -- One that is not below, or is marked, fails the test, and with it the whole list does.
  pub seen-high : n ≤ get_or ranks i 0 → differing n ranks ≡ false
  seen-high high = failed n ranks i (rw (from, le-ltb (get_or ranks i 0) n high))

  pub seen_twice : get_or ranks i 0 < n → get_or seen (get_or ranks i 0) false ≡ true → differing n ranks ≡ false
  seen_twice low old =
      let r = get_or ranks i 0 in
      failed n ranks i (rw (from, sym (p.marks r (omega arith)) ∙ old, and-false (ltb r n)))
