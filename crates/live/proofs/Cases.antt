-- Worked sequences of calls on a room in which an empty map was made, as one table with a single theorem over it.
use Prim.{tt, Unit}
use Prim.Native.Nat.{ℕ, ◌+◌, ◌*◌}
use mathlib.Core.Path.{◌≡◌, refl, ap, ◌∙◌}
use mathlib.Core.Bool.{true, false}
use mathlib.Core.List.{List, [], ◌∷◌}
use native.Mathlib.Omega.{arith}
use Rattle.theory.specs.Routes.{miss, hit}
use Rattle.std.specs.Prelude.{Ok}
use Rattle.refusals.specs.Rules.{gives, refuses, judge}
use Rattle.records.specs.Forms.{by_default, strictly}
use Rattle.nodecount.specs.Nodes.{fresh, brought, nodes}
use Rattle.liveroom.specs.Rooms.{fit, Words}
use Rattle.live.specs.Calls.{Makes}
use Rattle.live.specs.Sequences.{Call, puts, takes, looks, Said, changed, found, table_answers, Runs}
use Rattle.live.proofs.Demands.{Addressed, sequence}

-- Calls in a room of so many nodes, and what is said to them.
pub record Sequence : Type 0 where
  pub most : ℕ
  pub calls : List Call
  pub answers : List Said

-- The address of four octets.
abbrev pub at : ℕ → ℕ → ℕ → ℕ → ℕ
at a b c d = ((a * 256 + b) * 256 + c) * 256 + d

-- An emptied node serves again at once: 128.0.0.0/5 takes the second of two nodes, so that 0.0.0.0/5 is refused, until the first is taken.
abbrev pub emptied : Sequence
emptied =
    record {
      most = 2;
      calls =
          puts by_default (at 128 0 0 0) 5 2
          ∷ puts by_default (at 0 0 0 0) 5 3
          ∷ puts by_default (at 0 0 0 0) 4 1
          ∷ takes by_default (at 128 0 0 0) 5
          ∷ puts by_default (at 0 0 0 0) 5 3
          ∷ looks (at 0 0 0 7)
          ∷ looks (at 8 0 0 0)
          ∷ looks (at 128 0 0 0)
          ∷ [];
      answers =
          changed (gives true)
          ∷ changed (refuses 10 0)
          ∷ changed (gives true)
          ∷ changed (gives true)
          ∷ changed (gives true)
          ∷ found (gives (hit 5 3))
          ∷ found (gives (hit 4 1))
          ∷ found (gives miss)
          ∷ [];
    }

-- A present prefix gets the new hop, whatever host bits it is put with; it is taken once, and then it is absent.
abbrev pub replaced : Sequence
replaced =
    record {
      most = 2;
      calls =
          puts by_default (at 10 0 0 0) 8 1
          ∷ puts by_default (at 10 1 2 3) 8 2
          ∷ looks (at 10 9 9 9)
          ∷ takes by_default (at 10 4 5 6) 8
          ∷ looks (at 10 9 9 9)
          ∷ takes by_default (at 10 0 0 0) 8
          ∷ [];
      answers =
          changed (gives true)
          ∷ changed (gives true)
          ∷ found (gives (hit 8 2))
          ∷ changed (gives true)
          ∷ found (gives miss)
          ∷ changed (gives false)
          ∷ [];
    }

-- In one node: 5 before 7, 6 under the strict choice alone and before 7, 7 before 10.
abbrev pub refused : Sequence
refused =
    record {
      most = 1;
      calls =
          puts by_default (at 10 0 0 1) 33 64
          ∷ puts strictly (at 10 0 0 1) 8 64
          ∷ puts by_default (at 10 0 0 1) 8 64
          ∷ puts by_default (at 10 0 0 1) 8 63
          ∷ puts strictly (at 16 0 0 0) 4 63
          ∷ takes strictly (at 16 0 0 1) 4
          ∷ takes by_default (at 16 0 0 1) 33
          ∷ looks (at 31 255 255 255)
          ∷ [];
      answers =
          changed (refuses 5 0)
          ∷ changed (refuses 6 0)
          ∷ changed (refuses 7 0)
          ∷ changed (refuses 10 0)
          ∷ changed (gives true)
          ∷ changed (refuses 6 0)
          ∷ changed (refuses 5 0)
          ∷ found (gives (hit 4 63))
          ∷ [];
    }

-- A new record shares nodes with the one behind it, too: in seven nodes both fit.
abbrev pub neighbours : Sequence
neighbours =
    record {
      most = 7;
      calls =
          puts by_default (at 10 0 0 3) 32 1
          ∷ puts by_default (at 10 0 0 2) 32 2
          ∷ puts by_default (at 10 0 0 0) 24 3
          ∷ looks (at 10 0 0 2)
          ∷ looks (at 10 0 0 1)
          ∷ [];
      answers =
          changed (gives true)
          ∷ changed (gives true)
          ∷ changed (gives true)
          ∷ found (gives (hit 32 2))
          ∷ found (gives (hit 24 3))
          ∷ [];
    }

abbrev pub sequences : List Sequence
sequences = emptied ∷ replaced ∷ refused ∷ neighbours ∷ []

-- In any room of so many nodes these answers are given.
abbrev pub Answered : Sequence → Type 0
Answered s =
    (room after : List ℕ) (ss : List Said) → Words room → fit room ≡ s.most → Makes room (Ok tt) after → Runs after s.calls ss → ss ≡ s.answers

abbrev pub AllAnswered : List Sequence → Type 0
AllAnswered [] = Unit {0}
AllAnswered (s ∷ ss) = Answered s × AllAnswered ss

-- What a simple table says is what any such room says.
by_table : (s : Sequence) → Addressed s.calls → table_answers s.most [] s.calls ≡ s.answers → Answered s
by_table s a e room after ss w f m r = sequence w a m r ∙ ap (λ (n : ℕ). table_answers n [] s.calls) f ∙ e

-- All of them.
pub worked : AllAnswered sequences
unfolding table_answers judge nodes brought fresh
worked = (
  by_table emptied (omega arith, (omega arith, (omega arith, (omega arith, tt)))) refl,
  (
    by_table replaced (omega arith, (omega arith, tt)) refl,
    (
      by_table refused (omega arith, (omega arith, (omega arith, (omega arith, (omega arith, tt))))) refl,
      (by_table neighbours (omega arith, (omega arith, (omega arith, tt))) refl, tt),
    ),
  ),
)
