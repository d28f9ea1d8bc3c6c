-- A list laid word by word from a place of the room on.
use Prim.Native.Nat.{ℕ, zero, suc, ◌+◌, ◌-◌, ◌≤◌, ◌<◌}
use mathlib.Core.Path.{◌≡◌, refl, sym, ap, ◌∙◌}
use mathlib.Core.List.{List, [], ◌∷◌, ◌++◌, append_assoc, append-nil}
use native.Mathlib.Nat.{add-zero}
use native.Mathlib.Omega.{arith}
use lib.ListN.{length, get_or, set, take, drop, length-append, length-drop, take-append-drop}
use lib.Seq.{set_split, take-nil, take_at, drop_at, get_or-drop, drop-drop, length-take-le}
use Rattle.nodes.specs.Room.{Pushed}

-- A slice is the words from its start, so many.
pub drop-take : (i e : ℕ) (l : List ℕ) → drop i (take e l) ≡ take (e - i) (drop i l)
drop-take zero e l = let z : e - 0 ≡ e = omega arith in rw z
drop-take (suc i) zero l = let z : 0 - suc i ≡ 0 = omega arith in rw z
drop-take (suc i) (suc e) [] = sym (take-nil (suc e - suc i))
drop-take (suc i) (suc e) (x ∷ l) = let z : suc e - suc i ≡ e - i = omega arith in rw z (drop-take i e l)

-- Of the list, what is done stands in the room from `at` up to n, and the rest is still to come.
pub record Laying (whole : List ℕ) (at n : ℕ) (rest o o' : List ℕ) : Type 0 where
  pub done : List ℕ
  pub parts : whole ≡ done ++ rest
  pub size : n ≡ at + length done
  pub room : at + length whole ≤ length o
  pub laid : o' ≡ take at o ++ (done ++ drop n o)

pub laying_start : (whole o : List ℕ) (at : ℕ) → at + length whole ≤ length o → Laying whole at at whole o o
laying_start whole o at h = record { done = []; parts = refl; size = sym (add-zero at); room = h; laid = sym (take-append-drop at o) }

module _ {whole rest o o' : List ℕ} {at n : ℕ} (l : Laying whole at n rest o o') where
  -- n stands so far from the end.
  pub laying_left : n + length rest ≡ at + length whole
  laying_left = omega (arith, ap length l.parts, length-append l.done rest, l.size)

  head-length : length (take at o ++ l.done) ≡ n
  head-length = let le : at ≤ length o = omega (arith, l.room) in
      omega (arith, length-append (take at o) l.done, length-take-le at o le, l.size)

  regrouped : o' ≡ (take at o ++ l.done) ++ drop n o
  regrouped = l.laid ∙ sym (append_assoc (take at o) l.done (drop n o))

  pub laying_length : length o' ≡ length o
  laying_length =
      let le : n ≤ length o = omega (arith, laying_left, l.room) in
      omega (arith, ap length regrouped, length-append (take at o ++ l.done) (drop n o), head-length, length-drop n o)

  -- What stands from n on is as it was.
  pub laying_beyond : drop n o' ≡ drop n o
  laying_beyond = ap (drop n) regrouped ∙ drop_at (take at o ++ l.done) (drop n o) n head-length

  pub laying_drop : (i : ℕ) → n ≤ i → drop i o' ≡ drop i o
  laying_drop i le =
      let z : n + (i - n) ≡ i = omega arith in
      ap (λ (k : ℕ). drop k o') (sym z) ∙ sym (drop-drop (i - n) n o') ∙ ap (drop (i - n)) laying_beyond ∙ drop-drop (i - n) n o ∙ ap (λ (k : ℕ). drop k o) z

  pub laying_get_d : (i : ℕ) → n ≤ i → get_or o' i 0 ≡ get_or o i 0
  laying_get_d i le =
      let z : i + 0 ≡ i = omega arith in
      ap (λ (k : ℕ). get_or o' k 0) (sym z) ∙ sym (get_or-drop i o' 0 0) ∙ ap (λ (u : List ℕ). get_or u 0 0) (laying_drop i le) ∙ get_or-drop i o 0 0 ∙ ap (λ (k : ℕ). get_or o k 0) z

  head-take : take n o' ≡ take at o ++ l.done
  head-take = ap (take n) regrouped ∙ take_at (take at o ++ l.done) (drop n o) n head-length

-- Words more.
pub laying_more : {whole o o' : List ℕ} {at n : ℕ} (ws rest o'' : List ℕ) → Laying whole at n (ws ++ rest) o o'
    → o'' ≡ take n o' ++ (ws ++ drop (n + length ws) o') → Laying whole at (n + length ws) rest o o''
laying_more {whole} {o} {o'} {at} {n} ws rest o'' l e =
    record {
      done = l.done ++ ws;
      parts = l.parts ∙ sym (append_assoc l.done ws rest);
      size = omega (arith, l.size, length-append l.done ws);
      room = l.room;
      laid =
          e
          ∙ ap (λ (u : List ℕ). u ++ (ws ++ drop (n + length ws) o')) (head-take l)
          ∙ ap (λ (u : List ℕ). (take at o ++ l.done) ++ (ws ++ u)) (laying_drop l (n + length ws) (omega arith))
          ∙ append_assoc (take at o) l.done (ws ++ drop (n + length ws) o)
          ∙ ap (λ (u : List ℕ). take at o ++ u) (sym (append_assoc l.done ws (drop (n + length ws) o)));
    }

-- A word that is stored at n, and one that is not.
pub word_put : (work : List ℕ) (n x : ℕ) → n < length work → set work n x ≡ take n work ++ (x ∷ [] ++ drop (n + 1) work)
word_put work n x lt = let one : n + 1 ≡ suc n = omega arith in rw one (set_split work n x lt)

pub word_kept : (work : List ℕ) (n : ℕ) → work ≡ take n work ++ drop (n + 0) work
word_kept work n = let none : n + 0 ≡ n = omega arith in rw none (sym (take-append-drop n work))

-- Nothing is left.
pub laying_end : {whole o o' : List ℕ} {at n : ℕ} → Laying whole at n [] o o' → Pushed whole (at + length whole) at o o'
laying_end {whole} {o} {o'} {at} {n} l =
    let same : whole ≡ l.done = l.parts ∙ append-nil l.done in
    let z : n ≡ at + length whole = omega (arith, laying_left l) in
    record { ends = refl; laid = l.laid ∙ ap (λ (u : List ℕ). take at o ++ (u ++ drop n o)) (sym same) ∙ ap (λ (k : ℕ). take at o ++ (whole ++ drop k o)) z }

-- The same by another name.
pub pushed_as : {ws o o' : List ℕ} {top r : ℕ} (ws' : List ℕ) (top' : ℕ) → ws ≡ ws' → top ≡ top' → Pushed ws top r o o' → Pushed ws' top' r o o'
pushed_as ws' top' e z p = rw (← e, ← z) p
