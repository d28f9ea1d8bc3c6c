use Rattle.std.proofs.Common.{◌≡◌, ℕ, ◌+◌, ◌-◌, ◌≤◌, List, ◌++◌, rules, arith, length, take, drop, slice_range, sym, ap, ◌∙◌, subst, le_refl, drop_at, length-take-le}
use Rattle.std.proofs.lemmas.Slice.{take-put_mid_below}
use Rattle.std.specs.Io.KnownBytes.{Consumes}
use Rattle.std.proofs.KnownBytes.{Consumes-trans, Consumes-kept}
use Rattle.std.proofs.lemmas.Result.{err_from_is_err_and}
use borrow.Rule.Slice.PartMut.{put_mid, post_of}
use lib.Seq.{take-add, take-append-le}
use Rattle.streams.proofs.read_full.Goals as goal

-- what stands before a place and what stands from it up to another is what stands before the other
take_split : (a n : ℕ) (old new : List ℕ) → take a new ≡ take a old → take a old ++ slice_range new a (a + n) ≡ take (a + n) new
take_split a n old new front =
    let same : (a + n) - a ≡ n = omega arith in
    ap (λ l. l ++ slice_range new a (a + n)) (sym front) ∙ ap (λ m. take a new ++ take m (drop a new)) same ∙ sym (take-add a n new)

slice_range-put_mid : (a k n : ℕ) (xs ys : List ℕ) → a ≤ length xs → n ≤ length ys → slice_range (put_mid a k xs ys) a (a + n) ≡ take n ys
slice_range-put_mid a k n xs ys within fits =
    let same : (a + n) - a ≡ n = omega arith in
    let after = post_of a k xs in
    ap (take ((a + n) - a)) (drop_at (take a xs) (ys ++ after) a (length-take-le a xs within)) ∙ ap (λ m. take m (ys ++ after)) same ∙ take-append-le n ys after fits

-- what the read gave is put behind what the earlier ones gave
pub loop-done-preserved : goal.loop-done-preserved
loop-done-preserved g c =
    let from = c.loop-done.done in
    let room = length c.loop-done.buf - from in
    let within = c.loop-done.invariant.1 in
    let part = slice_range-put_mid from room c.in_ok-n.n c.loop-done.buf c.read.new.buf within c.in_ok-n.ensures.bound.0 in
    let joined = take_split from c.in_ok-n.n c.loop-done.buf (put_mid from room c.loop-done.buf c.read.new.buf) (take-put_mid_below _ _ _ _ _ (le_refl _) within) in
    (search rules, search rules, subst (Consumes _ _) (ap (λ l. take from c.loop-done.buf ++ l) (sym part) ∙ joined) (Consumes-trans _ _ _ _ _ c.loop-done.invariant.2 c.in_ok-n.ensures.bytes.0))

-- the read that failed lost nothing, and wrote behind what the earlier ones gave
pub returns-in_err-n-clause-lost : goal.returns-in_err-n-clause-lost
returns-in_err-n-clause-lost g c =
    let from = c.loop-done.done in
    let front = take-put_mid_below _ _ _ _ _ (le_refl from) c.loop-done.invariant.1 in
    let p = err_from_is_err_and c.from_residual.result c.from_residual.ensures.1 in
    rw p.1 (from, subst (Consumes _ _) (sym front) (Consumes-kept _ _ _ _ c.loop-done.invariant.2 c.in_err-n.ensures.bytes))
