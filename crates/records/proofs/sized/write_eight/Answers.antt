-- `records::sized::write_eight` lays eight bytes, one after another. Assumes nothing.
use Rattle.std.proofs.Common.{arith, ◌≡◌, ◌∙◌, sym, ap, ℕ, suc, ◌+◌, ◌<◌, List, [], ◌∷◌, ◌++◌, length, take, drop, get_or, slice_index_or, slice_set, append_assoc, length-append, length-take}
use mathlib.Core.Path.{ap₂}
use Rattle.std.proofs.lemmas.List.{set_at, take_all}
use Rattle.std.proofs.Math.Seq.{drop-cons, take-suc}
use Rattle.records.specs.Sized.{laid}
use Rattle.records.proofs.sized.write_eight.Goals as goal

-- With j bytes laid from place k on, the next one goes to place k + j.
one_more : (o bytes : List ℕ) (k j : ℕ) → j < length bytes → k + j < length o
    → slice_set (take k o ++ (take j bytes ++ drop (k + j) o)) (k + j) (slice_index_or bytes j 0) ≡ take k o ++ (take (j + 1) bytes ++ drop (k + (j + 1)) o)
one_more o bytes k j in_bytes in_o =
    let front = take k o ++ take j bytes in
    let b = slice_index_or bytes j 0 in
    let y = get_or o (k + j) 0 in
    let rest = drop (suc (k + j)) o in
    let long : length front ≡ k + j = simp (length-append, length-take) (omega arith) in
    let next : suc j ≡ j + 1 = omega arith in
    let past : suc (k + j) ≡ k + (j + 1) = omega arith in
    ap (λ (r : List ℕ). slice_set (take k o ++ (take j bytes ++ r)) (k + j) b) (drop-cons o (k + j) 0 in_o)
    ∙ ap (λ (r : List ℕ). slice_set r (k + j) b) (sym (append_assoc (take k o) (take j bytes) (y ∷ rest)))
    ∙ set_at front y rest b (k + j) long
    ∙ append_assoc (take k o) (take j bytes) (b ∷ rest)
    ∙ ap (λ (r : List ℕ). take k o ++ r) (sym (append_assoc (take j bytes) (b ∷ []) rest))
    ∙ ap (λ (r : List ℕ). take k o ++ (r ++ rest)) (sym (take-suc bytes j 0 in_bytes))
    ∙ ap₂ (λ (m n : ℕ). take k o ++ (take m bytes ++ drop n o)) next past

pub loop-j-preserved : goal.loop-j-preserved
loop-j-preserved c = rw c.loop-j.invariant (one_more c.args.out.now c.args.bytes c.args.k c.loop-j.j (omega arith) (omega arith))

pub returns : goal.returns
unfolding laid
returns c =
    let o = c.args.out.now in
    let e : c.loop-j.j ≡ length c.args.bytes = omega arith in
    c.loop-j.invariant ∙ rw e (ap (λ (r : List ℕ). take c.args.k o ++ (r ++ drop (c.args.k + length c.args.bytes) o)) (take_all (length c.args.bytes) c.args.bytes (omega arith)))
