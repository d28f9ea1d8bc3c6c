-- Worked images. Assumes nothing.
use mathlib.Core.Path.{◌≡◌, refl, ap, ◌∙◌}
use mathlib.Core.Bool.{true}
use mathlib.Core.List.{List, [], ◌∷◌}
use Prim.Native.Nat.{ℕ}
use native.Mathlib.Omega.{arith}
use Rattle.theory.specs.Falling.{falling}
use Rattle.theory.specs.Routes.{Route, matches, miss, nil}
use Rattle.theory.proofs.Lists.{all_map}
use Rattle.records.specs.Wire.{routes}
use Rattle.records.specs.Sized.{route, number, raw_in, route_in, routes_from_in, routes_in}
use Rattle.chip.specs.Chip.{first_match}
use Rattle.chip.specs.Images.{image_of, slots_of, arranged}
use Rattle.chip.specs.Loading.{load_order}
use Rattle.chip.proofs.FirstMatch.{first_unused}
use Rattle.chip.proofs.Images.{unused_long, image-slots}

-- 10.0.0.0/8>1, 10.1.2.3/16>2 with its tail, 10.2.0.0/16>3 and 192.0.2.0/24>4, as bytes.
abbrev nested : List ℕ
nested =
    10 ∷ 0 ∷ 0 ∷ 0 ∷ 8 ∷ 1 ∷ 0 ∷ 0
    ∷ 10 ∷ 1 ∷ 2 ∷ 3 ∷ 16 ∷ 2 ∷ 0 ∷ 0
    ∷ 10 ∷ 2 ∷ 0 ∷ 0 ∷ 16 ∷ 3 ∷ 0 ∷ 0
    ∷ 192 ∷ 0 ∷ 2 ∷ 0 ∷ 24 ∷ 4 ∷ 0 ∷ 0
    ∷ []

-- Its slots: the /24, the two /16s without host bits by rising address, the /8.
pub nested_slots : load_order nested ≡ route 3221225984 24 4 ∷ route 167837696 16 2 ∷ route 167903232 16 3 ∷ route 167772160 8 1 ∷ []
unfolding load_order falling routes_in routes_from_in route_in raw_in number
nested_slots = refl

-- Put into table order they are the table's routes.
pub nested_back : arranged (load_order nested) ≡ routes nested
unfolding load_order falling routes_in routes_from_in route_in raw_in number
nested_back = refl

-- As a record an unused slot would match 255.255.255.255,
pub unused_would_match : matches 32 (route 4294967295 255 255) 4294967295 ≡ true
unused_would_match = refl

-- but the image of an empty table answers nothing there.
pub empty-answers-nothing : first_match 32 (slots_of (image_of [])) 4294967295 ≡ miss
empty-answers-nothing =
    ap (λ (u : List Route). first_match 32 u 4294967295) (image-slots [] nil (omega arith))
    ∙ first_unused 32 4294967295 [] (all_map (λ r e. omega arith) (unused_long 0))
