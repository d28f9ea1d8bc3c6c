-- The image and the call `lookup`: in whatever way that is called on the table, the chip answers as it does. Assumes nothing.
use Prim.Native.Nat.{ℕ, ◌%◌, ◌^◌}
use mathlib.Core.Path.{◌≡◌, sym, ap, ◌∙◌}
use mathlib.Core.Bool.{false}
use mathlib.Core.List.{List}
use Rattle.refusals.specs.declared.Refusal.{Refusal}
use Rattle.std.specs.Prelude.{Result, Ok, Option}
use Rattle.theory.specs.Routes.{lookup}
use Rattle.refusals.specs.Rules.{gives}
use Rattle.records.specs.Wire.{routes}
use Rattle.records.specs.Sized.{Bytes}
use Rattle.records.specs.declared.Form.{Form}
use Rattle.table.proofs.AtEight.{not_refused}
use Rattle.lookup.specs.Calls.{lookup_says, lookup_reply}
use Rattle.lookup.specs.declared.answers.Match.{Match}
use Rattle.chip.specs.Chip.{first_match}
use Rattle.chip.specs.Images.{slots_of}
use Rattle.chip.specs.Loading.{Loads}
use Rattle.chip.proofs.Calls.{load_given, load_first_match}

-- What lookup says of an address in the table's records of 8 bytes, a route or that there is none, is what the first slot that matches says.
pub load_as_lookup : (form : Form) (t m : List ℕ) (r : Result ℕ Refusal) (m' : List ℕ) → Loads form t m r m' → (used : ℕ) → r ≡ Ok used → Bytes t
    → (x : ℕ) (a : Result (Option Match) Refusal) → lookup_says a ≡ lookup_reply (record { strict = form.strict; long = false }) t x
    → lookup_says a ≡ gives (first_match 32 (slots_of m') (x % 2 ^ 32))
load_as_lookup form t m r m' ok used answered bytes x a said =
    said
    ∙ not_refused form false t (lookup 32 (routes t) (x % 2 ^ 32)) ((load_given form t m r m' ok used).0 answered).0
    ∙ ap gives (sym (load_first_match form t m r m' ok used answered bytes (x % 2 ^ 32)))
