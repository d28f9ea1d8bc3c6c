-- What replay keeps for a case with call 10, the live map: the lines of its commands.
use Rattle.std.specs.Prelude.{ℕ, ◌/◌, List, length, replicate}
use Rattle.live_cases.specs.Commands.{lines_of}

-- Of commands, 8 bytes each, on a room of so many words that holds no live map: every word is 2,779,096,485.
unfoldable pub live_answer : List ℕ → ℕ → List ℕ
live_answer commands words = lines_of commands (length commands / 8) (replicate words 2779096485)
