-- What a step leaves, keeps and counts, and a class as the steps are followed.
use Rattle.std.specs.Prelude.{ℕ, suc, ◌+◌, ◌-◌, Bool, true, false, cond, not, ◌&&◌, List, eqb, leb, ltb, get_or}
use Rattle.words.specs.Prefix.{host_clear}
use Rattle.positions.specs.Runs.{no_hop}
use Rattle.rungs.specs.Rungs.{top_from}
use Rattle.checking.specs.declared.marks.Marks.{Marks}
use Rattle.checking.specs.declared.Class.{Class}
use Rattle.checking.specs.Marks.{fine_of, marked_of, marks_upto}

-- Does a step with this byte put?
abbrev pub puts : ℕ → Bool
puts b = not (eqb b 0)

-- What a step leaves at its prefix.
abbrev pub left_of : Bool → ℕ → ℕ
left_of put hop = cond put hop no_hop

-- Does a step keep the rule of number 13: a length up to 32, no host bits under the strict choice, a put's hop up to 63?
abbrev pub host_kept_of : Bool → ℕ → ℕ → Bool
host_kept_of strict addr len = cond strict (host_clear 32 addr len) true

abbrev pub hop_kept_of : Bool → ℕ → Bool
hop_kept_of put hop = cond put (leb hop 63) true

abbrev pub step_kept : Bool → Bool → ℕ → ℕ → ℕ → Bool
step_kept strict put addr len hop = leb len 32 && (host_kept_of strict addr len && hop_kept_of put hop)

-- The routes after a step, of so many before it, whose prefix is present or not. Above 1,024 where the step cannot be done.
abbrev pub counted_of : Bool → Bool → ℕ → ℕ
counted_of true there n = cond there n (n + 1)
counted_of false there n = cond there (n - 1) 1025

-- The hop at the greatest length up to len that has one; no_hop where none has.
abbrev pub best_in : List ℕ → ℕ → ℕ
best_in hops len = get_or hops (top_from hops len) 0

-- The class of a prefix of this length before any step, by the hops of the installed and of the new table's prefixes that hold all of it.
abbrev pub class_before : List ℕ → List ℕ → ℕ → Class
class_before old goal len =
    record {
      own = get_or old len 0;
      good = true;
      fine = fine_of (best_in old len) (best_in goal len);
      marks = marks_upto (best_in old len) (best_in goal len) old (suc len);
    }

-- The class of a prefix of length `of` after a step whose prefix holds all of it: it leaves `now` there, and these are the marks then.
abbrev pub answered_by : Class → ℕ → ℕ → ℕ → Marks → Class
answered_by c of len now m =
    record { own = cond (eqb len of) now c.own; good = cond (ltb m.fair m.foul) false c.good; fine = c.fine; marks = m }

abbrev pub answered_of : Class → ℕ → Bool → ℕ → ℕ → Class
answered_of c of put len hop = answered_by c of len (left_of put hop) (marked_of c.fine c.marks len (left_of put hop))
