-- How a call refuses: it goes down a list of rules in the documents' order, and the first that is not kept names the refusal.
use Rattle.std.specs.Prelude.{ℕ, Bool, cond, List, [], ◌∷◌}

-- A rule: is it kept, and if it is not, which number is given, with which record's index (0 where no record is meant).
pub record Rule : Type 0 where
  pub kept : Bool
  pub number : ℕ
  pub index : ℕ

-- A rule in the order in which the documents write it.
abbrev pub rule : ℕ → ℕ → Bool → Rule
rule n i b = record { kept = b; number = n; index = i }

-- What a call says: a value, or a refusal with its number and index.
pub data Reply (A : Type 0) : Type 0 where
  gives : A → Reply A
  refuses : ℕ → ℕ → Reply A

-- The reply of a call that gives a value unless a rule is broken: the first one refuses.
unfoldable pub judge : {A : Type 0} → List Rule → A → Reply A
judge [] a = gives a
judge (r ∷ rs) a = cond r.kept (judge rs a) (refuses r.number r.index)

-- The number of the first rule that is not kept; 0 where all are.
unfoldable pub broken : List Rule → ℕ
broken [] = 0
broken (r ∷ rs) = cond r.kept (broken rs) r.number
