-- The special-use ranges of each edition, in table order, as the documents list them.
use Rattle.std.specs.Prelude.{ℕ, ◌≡◌, Bool, cond, ◌||◌, List, [], ◌∷◌, ◌⊎◌, eqb}
use Rattle.theory.specs.Routes.{Route}
use Rattle.records.specs.Wire.{join}
use Rattle.records.specs.Sized.{route}

-- The range of an address, by its octets, and a length.
abbrev pub range : ℕ → ℕ → ℕ → ℕ → ℕ → Route
range a b c d len = route (join a b c d) len 0

-- RFC 5735, section 4.
unfoldable pub rfc5735 : List Route
rfc5735 =
    range 0 0 0 0 8
    ∷ range 10 0 0 0 8
    ∷ range 127 0 0 0 8
    ∷ range 169 254 0 0 16
    ∷ range 172 16 0 0 12
    ∷ range 192 0 0 0 24
    ∷ range 192 0 2 0 24
    ∷ range 192 88 99 0 24
    ∷ range 192 168 0 0 16
    ∷ range 198 18 0 0 15
    ∷ range 198 51 100 0 24
    ∷ range 203 0 113 0 24
    ∷ range 224 0 0 0 4
    ∷ range 240 0 0 0 4
    ∷ range 255 255 255 255 32
    ∷ []

-- RFC 6890, section 2.2.2.
unfoldable pub rfc6890 : List Route
rfc6890 =
    range 0 0 0 0 8
    ∷ range 10 0 0 0 8
    ∷ range 100 64 0 0 10
    ∷ range 127 0 0 0 8
    ∷ range 169 254 0 0 16
    ∷ range 172 16 0 0 12
    ∷ range 192 0 0 0 24
    ∷ range 192 0 0 0 29
    ∷ range 192 0 2 0 24
    ∷ range 192 88 99 0 24
    ∷ range 192 168 0 0 16
    ∷ range 198 18 0 0 15
    ∷ range 198 51 100 0 24
    ∷ range 203 0 113 0 24
    ∷ range 240 0 0 0 4
    ∷ range 255 255 255 255 32
    ∷ []

-- An edition is named by its RFC's number: as a fact, and as a test.
abbrev pub Edition : ℕ → Type 0
Edition number = (number ≡ 5735) ⊎ (number ≡ 6890)

abbrev pub is_edition : ℕ → Bool
is_edition number = eqb number 5735 || eqb number 6890

-- The ranges of an edition; none of any other number.
abbrev pub ranges_of : ℕ → List Route
ranges_of edition = cond (eqb edition 5735) rfc5735 (cond (eqb edition 6890) rfc6890 [])
