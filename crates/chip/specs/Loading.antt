-- The statement of the call: for every table and image, what it answers and what stands in the image then.
use Rattle.std.specs.Prelude.{ℕ, ◌≡◌, false, List, [], ◌∷◌, ◌++◌, eqb, length, Result}
use Rattle.theory.specs.Routes.{Route}
use Rattle.refusals.specs.declared.Refusal.{Refusal}
use Rattle.refusals.specs.Numbers.{reply_of}
use Rattle.refusals.specs.Rules.{Rule, rule, Reply, gives, refuses, judge}
use Rattle.records.specs.Wire.{records, routes}
use Rattle.records.specs.declared.Form.{Form}
use Rattle.table.specs.TableRules.{table_rules}
use Rattle.theory.specs.Falling.{falling}
use Rattle.chip.specs.Images.{image_of}

-- The rules 3 to 8 for a table read by the form, then 12 for an image of so many bytes.
unfoldable pub load_rules : Form → List ℕ → ℕ → List Rule
load_rules form t size = table_rules form false t ++ (rule 12 0 (eqb size 8192) ∷ [])

-- The routes of a map's table in the order of their slots.
unfoldable pub load_order : List ℕ → List Route
load_order t = falling 32 (routes t)

-- An answer gives the number of slots used, or a refusal.
abbrev pub loaded_says : Result ℕ Refusal → Reply ℕ
loaded_says = reply_of (λ used. used)

-- What stands in an image m after a reply: the image of these routes, or what stood there.
abbrev pub image_after : List ℕ → Reply (List Route) → List ℕ
image_after m (gives rs) = image_of rs
image_after m (refuses number index) = m

-- The statement: the table t, its form and the image m were lent, r was answered, and the image is m' then. Where no rule is broken all of it is written, a slot is used
-- for each record, and their number is given; after a refusal it is as it was.
pub record Loads (form : Form) (t m : List ℕ) (r : Result ℕ Refusal) (m' : List ℕ) : Type 0 where
  pub answer : loaded_says r ≡ judge (load_rules form t (length m)) (records t)
  pub image : m' ≡ image_after m (judge (load_rules form t (length m)) (load_order t))
