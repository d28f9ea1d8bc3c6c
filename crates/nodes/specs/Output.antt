-- What is written of a node: records laid one after another at the start of the output, where they fit.
use Rattle.std.specs.Prelude.{ℕ, zero, suc, ◌+◌, ◌-◌, ◌*◌, ◌/◌, ◌%◌, ◌^◌, ◌≤◌, ◌<◌, ◌≡◌, true, cond, List, [], ◌∷◌, ◌++◌, eqb, length, get_or, take, drop}
use Rattle.theory.specs.Routes.{Route}
use Rattle.records.specs.Sized.{bytes_in, route}
use Rattle.words.specs.Bits.{bit}
use Rattle.words.specs.Positions.{position}
use Rattle.positions.specs.Runs.{place_at}
use Rattle.positions.specs.Wide.{narrowed}
use Rattle.nodes.specs.Node.{spare, slot_size}

-- The bytes of wide routes on the wire, at records of this size.
abbrev pub wire_of : ℕ → List Route → List ℕ
wire_of size rs = bytes_in size (narrowed (spare size) rs)

-- o' is o with the routes laid after its first `done` records, if they fit, and k records stand there then.
pub record Wrote (size : ℕ) (rs : List Route) (done k : ℕ) (o o' : List ℕ) : Type 0 where
  pub counted : k ≡ done + length rs
  pub laid : k * size ≤ length o → o' ≡ take (done * size) o ++ (wire_of size rs ++ drop (k * size) o)

-- The entry of position j of level l, where the bits say which positions have one, and the list their hops.
abbrev pub entry_at : ℕ → List ℕ → ℕ → ℕ → ℕ → ℕ → List Route
entry_at entries hops depth key l j =
    cond (bit entries (position l j))
    (route (place_at (slot_size depth) key l j) (depth + l) (get_or hops (position l j) 0) ∷ [])
    []

-- The entry of the position of level l that begins at slot c, which stands at addr, if one does and has an entry.
abbrev pub slot_head : ℕ → List ℕ → ℕ → ℕ → ℕ → ℕ → List Route
slot_head entries hops depth addr c l =
    cond (eqb (c % 2 ^ (5 - l)) 0)
    (cond (bit entries (position l (c / 2 ^ (5 - l))))
    (route addr (depth + l) (get_or hops (position l (c / 2 ^ (5 - l))) 0) ∷ [])
    [])
    []

-- The entries of the positions of the first levels that begin there, by rising length.
unfoldable pub slot_heads : ℕ → List ℕ → ℕ → ℕ → ℕ → ℕ → List Route
slot_heads entries hops depth addr c zero = []
slot_heads entries hops depth addr c (suc l) = slot_heads entries hops depth addr c l ++ slot_head entries hops depth addr c l

-- The bits of a word mark the slots at which a position with an entry begins: every one of them, perhaps others.
abbrev pub HeadSlots : ℕ → ℕ → Type 0
HeadSlots entries marked =
    (c l : ℕ) → c < 32 → l < 5 → c % 2 ^ (5 - l) ≡ 0 → bit entries (position l (c / 2 ^ (5 - l))) ≡ true → bit marked c ≡ true
