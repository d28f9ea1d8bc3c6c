-- Laws of text that is laid into a buffer piece by piece. Assumes nothing.
use mathlib.Core.Path.{◌≡◌, refl, sym, ap, ap₂, subst, ◌∙◌}
use mathlib.Core.List.{List, [], ◌∷◌, ◌++◌}
use Prim.Native.Nat.{ℕ, ◌+◌, ◌-◌, ◌≤◌, ◌<◌}
use native.Mathlib.Numerals.{add-one}
use native.Mathlib.Omega.{arith}
use lib.ListN.{length, take, drop, set, length-append}
use borrow.Rule.Slice.PartMut.{put_mid, Post-is}
use lib.Seq.{set_split}
use Rattle.records.specs.Sized.{laid}
use Rattle.records.proofs.Laid.{laid_none, laid_then, length-laid}
use Rattle.text.specs.Text.{Put}

-- No text.
pub put_none : (at : ℕ) (o : List ℕ) → at ≤ length o → Put [] at at o o
put_none at o fits = record { ends = omega arith; fits = fits; lays = sym (laid_none at o) }

-- The same text, otherwise written.
pub put_as : {ws vs : List ℕ} {at r : ℕ} {o o' : List ℕ} → ws ≡ vs → Put ws at r o o' → Put vs at r o o'
put_as {at = at} {r = r} {o = o} {o' = o'} e p = subst (λ (ws : List ℕ). Put ws at r o o') e p

-- One byte that is stored.
pub put_one : (o : List ℕ) (at b : ℕ) → at < length o → Put (b ∷ []) at (at + 1) o (set o at b)
unfolding laid
put_one o at b fits =
    record {
      ends = omega arith;
      fits = omega arith;
      lays = set_split o at b fits ∙ ap (λ (k : ℕ). take at o ++ (b ∷ drop k o)) (sym (add-one at));
    }

-- Bytes that are copied.
pub put_copied : (bs cs o : List ℕ) (at : ℕ) → cs ≡ bs → at + length bs ≤ length o → Put bs at (at + length bs) o (put_mid at (at + length bs - at) o cs)
unfolding laid
put_copied bs cs o at same fits =
    record { ends = refl; fits = fits; lays = rw (same, Post-is at (at + length bs) o (omega arith)) }

module _ {ws : List ℕ} {at r : ℕ} {o o' : List ℕ} (p : Put ws at r o o') where
  -- The buffer keeps its length.
  pub put-length : length o' ≡ length o
  put-length = let e = p.ends in let f = p.fits in ap length p.lays ∙ length-laid at ws o (omega arith)

  -- A text behind a text is the two joined.
  pub put_then : {vs : List ℕ} {s : ℕ} {o'' : List ℕ} → Put vs r s o' o'' → Put (ws ++ vs) at s o o''
  put_then {vs} q =
      let n = length-append ws vs in
      let same = put-length in
      let e = p.ends in
      let f = q.ends in
      let g = q.fits in
      record {
        ends = omega arith;
        fits = omega arith;
        lays = q.lays ∙ ap₂ (λ (k : ℕ) (l : List ℕ). laid k vs l) p.ends p.lays ∙ laid_then at ws vs o (omega arith);
      }
