-- `matching::tried_at` is theory's `tried` at record i: the record matches where the first bits of the two, as many as its length, agree.
-- Assumes nothing.
use mathlib.Core.Path.{◌≡◌, sym, ap, ◌∙◌}
use mathlib.Core.Bool.{Bool, ◌&&◌}
use Prim.Native.Nat.{ℕ}
use native.Mathlib.Nat.{le_refl}
use borrow.Author.Tests.{le-leb}
use Rattle.theory.specs.Routes.{matches}
use Rattle.words.specs.Keys.{key_of}
use Rattle.records.specs.Sized.{width_in, route_in}
use Rattle.records.proofs.SizedReading.{width_most}
use Rattle.lookup.proofs.matching.tried_at.Goals as goal

pub returns-then-key_contains : goal.returns-then-key_contains
returns-then-key_contains c x e =
    let matched : (x : ℕ) → c.args.key ≡ key_of (width_in c.args.size) x → c.key_contains.result ≡ matches (width_in c.args.size) (route_in c.args.size c.args.table.now c.args.i) x = λ x e. let w = width_in c.args.size in let r = route_in c.args.size c.args.table.now c.args.i in rw c.length_at-length.ensures at (c.key_contains.ensures w r.addr x (width_most c.args.size c.requires.0) c.key_at.ensures e) ∙ ap (λ (b : Bool). b && matches w r x) (le-leb r.len r.len (le_refl r.len)) in
    simp (
      c.hop_of.ensures,
      c.length_at-length.ensures,
      sym (matched x e) ∙ c.if-key_contains.true,
    )

pub returns-else-key_contains : goal.returns-else-key_contains
returns-else-key_contains c x e =
    let matched : (x : ℕ) → c.args.key ≡ key_of (width_in c.args.size) x → c.key_contains.result ≡ matches (width_in c.args.size) (route_in c.args.size c.args.table.now c.args.i) x = λ x e. let w = width_in c.args.size in let r = route_in c.args.size c.args.table.now c.args.i in rw c.length_at-length.ensures at (c.key_contains.ensures w r.addr x (width_most c.args.size c.requires.0) c.key_at.ensures e) ∙ ap (λ (b : Bool). b && matches w r x) (le-leb r.len r.len (le_refl r.len)) in
    simp (sym (matched x e) ∙ c.if-key_contains.false)
