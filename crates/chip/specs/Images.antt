-- The slot image: 1,024 slots of 8 bytes, each used one a record; and how it is read, as slots and as a table.
use Rattle.std.specs.Prelude.{ℕ, ◌-◌, ◌*◌, cond, List, [], ◌∷◌, ◌++◌, length, replicate}
use Rattle.theory.specs.Results.{part}
use Rattle.theory.specs.Routes.{Route}
use Rattle.records.specs.Wire.{routes, bytes_of}
use Rattle.table.specs.SizedRules.{before}
use Rattle.chip.specs.Chip.{is_used}

-- ---- From routes to an image.

-- The image whose first slots are these routes' records, and whose others are unused: eight bytes of 255 each.
unfoldable pub image_of : List Route → List ℕ
image_of rs = bytes_of rs ++ replicate (8 * (1024 - length rs)) 255

-- ---- From an image to routes.

-- The slots of an image, each read as a record.
abbrev pub slots_of : List ℕ → List Route
slots_of m = routes m

-- A route put among routes in table order: before the first that it stands before.
abbrev pub put : Route → List Route → List Route
put r [] = r ∷ []
put r (s ∷ t) = cond (before r s) (r ∷ s ∷ t) (s ∷ put r t)

-- Routes in table order.
abbrev pub arranged : List Route → List Route
arranged [] = []
arranged (r ∷ rs) = put r (arranged rs)

-- The table that an image holds: the routes of its used slots, in table order.
unfoldable pub table_of : List ℕ → List Route
table_of m = arranged (part (is_used 32) (slots_of m))
