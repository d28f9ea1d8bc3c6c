-- Lines that end in a number.
use Rattle.std.specs.Prelude.{ℕ, List, [], ◌∷◌, ◌++◌}
use Rattle.text.specs.Text.{decimal}

-- A line's words and a number, with the line feed.
unfoldable pub counted_line : List ℕ → ℕ → List ℕ
counted_line words n = words ++ (decimal n ++ (10 ∷ []))
