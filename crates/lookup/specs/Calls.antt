-- Lookup and addresses held: what each case of an answer says in document 01's terms, and which reply is right.
use Rattle.std.specs.Prelude.{ℕ, ◌%◌, ◌^◌, false, List, Option, None, Some, Result}
use Rattle.theory.specs.Routes.{Match, miss, hit, lookup}
use Rattle.theory.specs.Reach.{reach}
use Rattle.lookup.specs.declared.answers.Match.{Match as Found}
use Rattle.refusals.specs.Rules.{Reply, judge}
use Rattle.refusals.specs.Numbers.{reply_of}
use Rattle.refusals.specs.declared.Refusal.{Refusal}
use Rattle.records.specs.Sized.{width_in, routes_in}
use Rattle.records.specs.Wire.{routes}
use Rattle.records.specs.declared.Form.{Form}
use Rattle.records.specs.Forms.{size_of}
use Rattle.table.specs.TableRules.{table_rules, form_rules}

-- ---- Lookup.

-- The match that was found, or none.
abbrev pub match_of : Option Found → Match
match_of None = miss
match_of (Some found) = hit found.length found.hop

-- It gives the longest match as length and hop, or that there is none, or a refusal.
abbrev pub lookup_says : Result (Option Found) Refusal → Reply Match
lookup_says = reply_of match_of

-- The longest match in a table of records of this size: the address is its lower bits, as many as the records' addresses have.
abbrev pub match_in : ℕ → List ℕ → ℕ → Match
match_in size t x = lookup (width_in size) (routes_in size t) (x % 2 ^ width_in size)

-- The right reply for a map's table, read by the form, and an address.
abbrev pub lookup_reply : Form → List ℕ → ℕ → Reply Match
lookup_reply form t x = judge (form_rules form false t) (match_in (size_of form) t x)

-- ---- Addresses held.

-- It gives the number of the addresses held, or a refusal.
abbrev pub held_says : Result ℕ Refusal → Reply ℕ
held_says = reply_of (λ n. n)

-- The right reply for a map's table of records of 8 bytes, by the form's choice on host bits.
abbrev pub held_reply : Form → List ℕ → Reply ℕ
held_reply form t = judge (table_rules form false t) (reach 32 (routes t))
