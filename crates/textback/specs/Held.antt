-- Routes that the lines of a map, or of a set, can hold; and the numbers of lines, one after another.
use Rattle.std.specs.Prelude.{ℕ, zero, suc, ◌+◌, ◌≤◌, ◌<◌, Bool, cond, List, [], ◌∷◌}
use Rattle.theory.specs.Routes.{Route}

-- An address of 32 bits, a length up to 32, and a hop up to 63, in a set 0.
pub record Held (hops : Bool) (r : Route) : Type 0 where
  pub addr : r.addr < 4294967296
  pub len : r.len ≤ 32
  pub hop : r.hop ≤ cond hops 63 0

-- n numbers from k on.
unfoldable pub upward : ℕ → ℕ → List ℕ
upward k zero = []
upward k (suc n) = k ∷ upward (k + 1) n
