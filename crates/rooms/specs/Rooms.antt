-- What is asked of the rooms after a call.
use Rattle.std.specs.Prelude.{ℕ, Bool, List, eqb}
use Rattle.std.specs.List.{list_all}

-- Is every element v?
abbrev pub all_are : ℕ → List ℕ → Bool
all_are v l = list_all (λ x. eqb x v) l
