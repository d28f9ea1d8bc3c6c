-- What is written where there is room: records at the start of the output, which are counted in any case.
use Rattle.std.specs.Prelude.{ℕ, ◌*◌, ◌≤◌, ◌≡◌, List, length}
use Rattle.theory.specs.Routes.{Route}
use Rattle.records.specs.Sized.{bytes_in, laid}

-- The k routes rs were put as records of this size at the start of the output o, if they fit, and it is o' then.
pub record Put (size : ℕ) (rs : List Route) (k : ℕ) (o o' : List ℕ) : Type 0 where
  pub counted : k ≡ length rs
  pub written : size * k ≤ length o → o' ≡ laid 0 (bytes_in size rs) o
