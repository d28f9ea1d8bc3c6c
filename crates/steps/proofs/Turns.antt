-- Steps by their number: the table after one more, and what is said of each step in its turn.
use Prim.Native.Nat.{ℕ, zero, suc, ◌≤◌, ◌<◌}
use mathlib.Core.Path.{◌≡◌, refl}
use mathlib.Core.Bool.{true}
use mathlib.Core.List.{List, [], ◌∷◌}
use native.Mathlib.Decide.{dec_lt}
use native.Mathlib.Omega.{arith}
use lib.ListN.{length, get_or}
use Rattle.theory.specs.Routes.{Route, Table}
use Rattle.steps.specs.Steps.{Step, taking, can, apply, after, Possible, Sound, Sounds}
use Rattle.steps.proofs.Tables.{table_step}

-- Step k of a list; past its end, some step.
abbrev pub nth : List Step → ℕ → Step
nth ss k = get_or ss k (taking 0 0)

-- One step more is done with step k.
pub after_step : (k : ℕ) (ss : List Step) (t : List Route) → k < length ss → after (suc k) ss t ≡ apply (nth ss k) (after k ss t)
after_step k [] t lt = absurd (omega arith)
after_step zero (s ∷ ss) t lt = refl
after_step (suc k) (s ∷ ss) t lt = after_step k ss (apply s t) (omega arith)

-- Past the last step nothing changes.
pub after_all : (k : ℕ) (ss : List Step) (t : List Route) → length ss ≤ k → after k ss t ≡ after (length ss) ss t
after_all zero [] t le = refl
after_all (suc k) [] t le = refl
after_all zero (s ∷ ss) t le = absurd (omega arith)
after_all (suc k) (s ∷ ss) t le = after_all k ss (apply s t) (omega arith)

-- What holds up to the last step holds of any number of steps.
pub after_every : (P : List Route → Type 0) (ss : List Step) (t : List Route) → ((k : ℕ) → k ≤ length ss → P (after k ss t)) → (k : ℕ) → P (after k ss t)
after_every P ss t f k = go (dec_lt (length ss) k)
  where
    go : Dec (length ss < k) → P (after k ss t)
    go (yes lt) = rw (after_all k ss t (omega arith)) (f (length ss) (omega arith))
    go (no ge) = f k (omega arith)

pub possible_from : (ss : List Step) (t : List Route) → ((j : ℕ) → j < length ss → can (nth ss j) (after j ss t) ≡ true) → Possible ss t
possible_from [] t f = tt
possible_from (s ∷ ss) t f = (f zero (omega arith), possible_from ss (apply s t) (λ j lt. f (suc j) (omega arith)))

pub possible_at : (ss : List Step) (t : List Route) → Possible ss t → (j : ℕ) → j < length ss → can (nth ss j) (after j ss t) ≡ true
possible_at [] t z j lt = absurd (omega arith)
possible_at (s ∷ ss) t z zero lt = z.0
possible_at (s ∷ ss) t z (suc j) lt = possible_at ss (apply s t) z.1 j (omega arith)

pub sound_at : (w : ℕ) (ss : List Step) → Sounds w ss → (j : ℕ) → j < length ss → Sound w (nth ss j)
sound_at w [] z j lt = absurd (omega arith)
sound_at w (s ∷ ss) z zero lt = z.0
sound_at w (s ∷ ss) z (suc j) lt = sound_at w ss z.1 j (omega arith)

pub sounds_from : (w : ℕ) (ss : List Step) → ((j : ℕ) → j < length ss → Sound w (nth ss j)) → Sounds w ss
sounds_from w [] f = tt
sounds_from w (s ∷ ss) f = (f zero (omega arith), sounds_from w ss (λ j lt. f (suc j) (omega arith)))

-- Sound steps keep a table.
pub table-after : {w : ℕ} (k : ℕ) (ss : List Step) {t : List Route} → Sounds w ss → Table w t → Table w (after k ss t)
table-after zero ss sound table = table
table-after (suc k) [] sound table = table
table-after (suc k) (s ∷ ss) sound table = table-after k ss sound.1 (table_step s sound.0 table)
