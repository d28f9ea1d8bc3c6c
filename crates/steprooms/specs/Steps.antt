-- Steps as bytes, 8 each: the address, first octet first, the length, the hop, a byte that is 0 for a take and anything else for a put, and one that is not read.
use Rattle.std.specs.Prelude.{ℕ, zero, suc, List, [], ◌∷◌}
use Rattle.records.specs.Wire.{byte_at, raw_at, records}
use Rattle.plans.specs.declared.answers.Step.{Step}

-- Step i of the bytes.
unfoldable pub step_from : List ℕ → ℕ → Step
step_from bs i =
    record { addr = (raw_at bs i).addr; len = byte_at bs i 4; hop = byte_at bs i 5; put = byte_at bs i 6; unread = byte_at bs i 7 }

-- The k steps from step i on.
unfoldable pub steps_from : List ℕ → ℕ → ℕ → List Step
steps_from bs i zero = []
steps_from bs i (suc k) = step_from bs i ∷ steps_from bs (suc i) k

-- The steps of the bytes: one for every 8.
unfoldable pub steps_of : List ℕ → List Step
steps_of bs = steps_from bs 0 (records bs)
