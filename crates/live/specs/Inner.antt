-- What the inner functions say.
use Rattle.std.specs.Prelude.{ℕ, ◌≡◌, Bool, true, List}
use Rattle.theory.specs.Routes.{Route}
use Rattle.refusals.specs.Rules.{judge}
use Rattle.steps.specs.Steps.{present, put, without}
use Rattle.liveroom.specs.Rooms.{stored, shown, fit}
use Rattle.live.specs.Tables.{room_rules}
use Rattle.live.specs.Calls.{Done, done_says, left_by}

-- A put, and a take, past the other rules.
pub record PutsKept (room : List ℕ) (r : Route) (answer : Done) (after : List ℕ) : Type 0 where
  pub reply : done_says answer ≡ judge (room_rules (fit room) (put r (shown room))) true
  pub left : after ≡ left_by (done_says answer) (put r (shown room)) room

pub record TakesKept (room : List ℕ) (a l : ℕ) (answer : Bool) (after : List ℕ) : Type 0 where
  pub reply : answer ≡ present (shown room) a l
  pub left : after ≡ stored (without a l (shown room)) room
