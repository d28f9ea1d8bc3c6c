-- What is read is settled: no second answer, and no other bytes or numbers, meet the contract of `read_table`. Assumes nothing.
use mathlib.Core.Path.{◌≡◌, sym, ◌∙◌}
use mathlib.Core.Bool.{Bool}
use mathlib.Core.List.{List}
use Prim.Native.Nat.{ℕ}
use Rattle.tabletext.specs.Reading.{Read, Reads}

pub read_settled : (hops : Bool) (text out lines : List ℕ) {r s : Read} {o p k l : List ℕ}
    → Reads hops text r out lines o k → Reads hops text s out lines p l → (r ≡ s) × (o ≡ p) × (k ≡ l)
read_settled hops text out lines a b = (a.answers ∙ sym b.answers, a.records ∙ sym b.records, a.numbers ∙ sym b.numbers)
