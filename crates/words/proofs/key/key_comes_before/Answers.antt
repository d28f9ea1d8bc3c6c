-- `words::key::key_comes_before` compares the keys, then the lengths. Assumes nothing.
use mathlib.Core.Path.{◌≡◌, refl, ap₂, ◌∙◌}
use mathlib.Core.Bool.{Bool, true, false, cond, ◌||◌, ◌&&◌}
use Prim.Native.Nat.{ℕ}
use lib.Dec.{eqb, ltb}
use Rattle.std.specs.Prelude.{Some}
use Rattle.std.specs.declared.cmp.Ordering.TheVariants.{Less, Equal, Greater}
use Rattle.std.specs.Ordering.{is_lt, is_some_and, partial_ordering_then}
use Rattle.words.specs.Keys.{key_of}
use Rattle.words.proofs.KeyLaws.{key_before}
use Rattle.words.proofs.key.key_comes_before.Goals as goal

-- What the order of pairs answers, by the tests of their parts.
pairs : (p q r s : Bool) → is_some_and is_lt (partial_ordering_then (Some (cond p Less (cond q Equal Greater))) (Some (cond r Less (cond s Equal Greater)))) ≡ (p || (q && r))
pairs true q r s = refl
pairs false true true s = refl
pairs false true false true = refl
pairs false true false false = refl
pairs false false r s = refl

-- What is said of the keys is said of the addresses.
said : (a b l m w x y : ℕ) → a ≡ key_of w x → b ≡ key_of w y → (ltb a b || (eqb a b && ltb l m)) ≡ (ltb x y || (eqb x y && ltb l m))
said a b l m w x y e f = ap₂ (λ (p q : ℕ). ltb p q || (eqb p q && ltb l m)) e f ∙ key_before w x y l m

pub returns : goal.returns
returns c w x y e f =
    let a = c.args in
    c.lt.ensures ∙ pairs (ltb a.a a.b) (eqb a.a a.b) (ltb a.l a.m) (eqb a.l a.m) ∙ said a.a a.b a.l a.m w x y e f
