-- The lines that tell what a live map answers, in ASCII: each ends in a line feed.
use Rattle.std.specs.Prelude.{ℕ, Bool, true, false, List, [], ◌∷◌}
use Rattle.theory.specs.Routes.{Match, miss, hit}
use Rattle.refusals.specs.Rules.{Reply, gives, refuses}
use Rattle.text.specs.Text.{found_line, refused_line}

-- Of a call that may change the map: `done`, `absent` or the refusal.
unfoldable pub kept_line : Reply Bool → List ℕ
kept_line (gives true) = 100 ∷ 111 ∷ 110 ∷ 101 ∷ 10 ∷ []
kept_line (gives false) = 97 ∷ 98 ∷ 115 ∷ 101 ∷ 110 ∷ 116 ∷ 10 ∷ []
kept_line (refuses number index) = refused_line number index

-- Of a lookup: the match, `no route` or the refusal.
unfoldable pub look_line : Reply Match → List ℕ
look_line (gives (hit len hop)) = found_line hop len
look_line (gives miss) = 110 ∷ 111 ∷ 32 ∷ 114 ∷ 111 ∷ 117 ∷ 116 ∷ 101 ∷ 10 ∷ []
look_line (refuses number index) = refused_line number index

-- Of a flipped bit: `flipped`.
abbrev pub flipped_line : List ℕ
flipped_line = 102 ∷ 108 ∷ 105 ∷ 112 ∷ 112 ∷ 101 ∷ 100 ∷ 10 ∷ []

-- Of any other command: `no such command`.
abbrev pub unknown_line : List ℕ
unknown_line = 110 ∷ 111 ∷ 32 ∷ 115 ∷ 117 ∷ 99 ∷ 104 ∷ 32 ∷ 99 ∷ 111 ∷ 109 ∷ 109 ∷ 97 ∷ 110 ∷ 100 ∷ 10 ∷ []
