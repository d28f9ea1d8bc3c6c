-- A position taken apart by what `past_own`, `own_or`, `right_half` and `split` say of its run: it has one answer where no record lies past its own, and
-- else halves. Assumes nothing.
use Prim.Native.Nat.{ℕ, zero, suc, ◌+◌, ◌-◌, ◌^◌, ◌≤◌, ◌<◌}
use mathlib.Core.Path.{◌≡◌, refl, sym, ap, ap₂, subst, ◌∙◌}
use mathlib.Core.List.{List}
use mathlib.Core.Logic.{◌⊎◌, inl, inr, ⊎_elim}
use native.Mathlib.Nat.{eq-or-lt_of_le, le_refl}
use native.Mathlib.Decide.{dec_lt}
use native.Mathlib.Omega.{arith}
use borrow.Author.Tests.{lt-ltb}
use Rattle.theory.specs.Results.{In}
use Rattle.theory.specs.Routes.{Route, Answer, lookup, under, Ascending}
use Rattle.theory.proofs.Blocks.{in_halves}
use Rattle.theory.proofs.Preserve.{back}
use Rattle.positions.specs.Runs.{no_hop, hop_of, or_else, own, inside}
use Rattle.positions.proofs.Runs.{Half, one_answer, half_answer}
use Rattle.words.specs.Keys.{key_of}
use Rattle.words.proofs.KeyLaws.{key_fits}
use Rattle.records.specs.Sized.{width_in, route_in}
use Rattle.records.proofs.SizedLaid.{key_addr}
use Rattle.records.proofs.SizedReading.{width_most}
use Rattle.runs.specs.Runs.{run, RunAt, PastOwn, SplitAt}
use Rattle.runs.proofs.Halves.{record_within, past-low, past-high, past-longer, own-hop, own_none, left_is, right_is, left_run, right_run}
use Rattle.runs.proofs.Records.{run_none, run_suffix}
use Rattle.plain.specs.Positions.{Hopped, address_in, Position, answer_at, OneAnswer, Halved}

-- The hop of the position's own record, or else `cover`.
abbrev pub OwnOr : ℕ → List ℕ → ℕ → ℕ → ℕ → ℕ → Type 0
OwnOr size t lo first cover hop = (lo < first → hop ≡ (route_in size t lo).hop) × (first ≤ lo → hop ≡ cover)

-- ---- By addresses.
module _ {size : ℕ} {t : List ℕ} {lo hi : ℕ} (hopped : Hopped size t) {first cover hop : ℕ} (given : OwnOr size t lo first cover hop) where
  -- It says what a position's own route says, or else what covers it.
  own-answer : {n a : ℕ} → RunAt size (width_in size) t lo hi n a → PastOwn size t lo hi (width_in size - n) first
      → hop_of hop ≡ or_else (own (width_in size) n a (run size t lo hi)) (hop_of cover)
  own-answer {n} {a} at past = go (dec_lt lo first)
    where
      go : Dec (lo < first) → hop_of hop ≡ or_else (own (width_in size) n a (run size t lo hi)) (hop_of cover)
      go (yes h) =
          let small : (route_in size t lo).hop < no_hop = hopped lo (omega (arith, past-high at past, at.high)) in
          rw (own-hop at past h, given.0 h, lt-ltb (route_in size t lo).hop no_hop small)
      go (no h) =
          let same : first ≡ lo = omega (arith, past-low at past) in
          rw (own_none at past same, given.1 (omega arith))

  -- A split of the records past its own has its halves.
  pub halved : {n a mid : ℕ} → RunAt size (width_in size) t lo hi (suc n) a → PastOwn size t lo hi (width_in size - suc n) first
      → SplitAt size t first hi (a + 2 ^ n) mid
      → Halved size t lo hi cover n a hop first mid (a + 2 ^ n)
  halved {n} {a} {mid} at past split =
      record {
        begins = refl;
        left_run = left_run at past split;
        right_run = right_run at past split;
        left_answers = λ x i. half a x (inl refl) i (left_is at past split);
        right_answers = λ x i. half (a + 2 ^ n) x (inr refl) i (right_is at past split);
      }
    where
      half : (b x : ℕ) → Half n a b → In n b x → {part : List Route} → part ≡ inside (width_in size) n b (run size t lo hi)
          → answer_at size t lo hi cover x ≡ under (hop_of hop) (lookup (width_in size) part x)
      half b x h i e =
          half_answer at.lies (hop_of cover) b x h i
          ∙ ap₂ (λ (v : Answer) (u : List Route). under v (lookup (width_in size) u x)) (sym (own-answer at past)) (sym e)

  -- With no record past its own every address is answered by the one hop.
  pub uniform : {n a : ℕ} → RunAt size (width_in size) t lo hi n a → PastOwn size t lo hi (width_in size - n) first → first ≡ hi → OneAnswer size t lo hi cover n a hop
  uniform {n = zero} {a} at past e =
      record {
        answers = λ x i.
            let q : x ≡ a = omega arith in
            ap (answer_at size t lo hi cover) q ∙ one_answer at.lies (hop_of cover) ∙ sym (own-answer at past);
      }
  uniform {n = suc n} {a} at past e = record { answers = λ x i. ⊎_elim (left x) (right x) (in_halves n a x i) }
    where
      split : SplitAt size t first hi (a + 2 ^ n) hi
      split =
          record {
            low = omega arith;
            high = le_refl hi;
            below = λ k l h. absurd (omega arith);
            above = λ k l h. absurd (omega arith);
          }

      halves : Halved size t lo hi cover n a hop first hi (a + 2 ^ n)
      halves = halved at past split

      left : (x : ℕ) → In n a x → answer_at size t lo hi cover x ≡ hop_of hop
      left x l = halves.left_answers x l ∙ ap (λ (u : List Route). under (hop_of hop) (lookup (width_in size) u x)) (run_none size t first hi (omega arith))

      right : (x : ℕ) → In n (a + 2 ^ n) x → answer_at size t lo hi cover x ≡ hop_of hop
      right x r = halves.right_answers x r ∙ ap (λ (u : List Route). under (hop_of hop) (lookup (width_in size) u x)) (run_none size t hi hi (le_refl hi))

-- ---- By keys and lengths.
module _ {size : ℕ} {t : List ℕ} {lo hi len key : ℕ} (at : Position size t lo hi len key) {first : ℕ} (past : PastOwn size t lo hi len first) where
  as_length : PastOwn size t lo hi (width_in size - (width_in size - len)) first
  as_length = subst (λ (l : ℕ). PastOwn size t lo hi l first) (sym (back (width_in size) len at.short)) past

  first-low : lo ≤ first
  first-low = past-low at.is_run as_length

  pub first-high : first ≤ hi
  first-high = past-high at.is_run as_length

  pub first_ascending : Ascending (run size t first hi)
  first_ascending = run_suffix size t lo first hi first-low first-high at.is_run.lies.table.order

  -- With a record past its own a position is no single address.
  pub has_halves : (first ≡ hi → ⊥) → len < width_in size
  has_halves other =
      let lt : first < hi = further (eq-or-lt_of_le first-high) in
      omega (arith, at.short, past-longer at.is_run as_length first (le_refl first) lt, (record_within at.is_run first first-low lt).short)
    where
      further : (first ≡ hi) ⊎ (first < hi) → first < hi
      further (inl e) = absurd (other e)
      further (inr h) = h

  module _ (hopped : Hopped size t) {cover hop : ℕ} (given : OwnOr size t lo first cover hop) where
    pub one_answered : first ≡ hi → OneAnswer size t lo hi cover (width_in size - len) (address_in size key) hop
    one_answered e = uniform hopped given at.is_run as_length e

    pub in_halved : {right mid : ℕ} → (first ≡ hi → ⊥) → right ≡ key_of (width_in size) (address_in size key + 2 ^ (width_in size - 1 - len))
        → ((b : ℕ) → right ≡ key_of (width_in size) b → SplitAt size t first hi b mid)
        → (len < width_in size) × (right ≡ key_of (width_in size) (address_in size right))
        × Halved size t lo hi cover (width_in size - (len + 1)) (address_in size key) hop first mid (address_in size right)
    in_halved {right} {mid} other begins split =
        let lt = has_halves other in
        let address : address_in size right ≡ address_in size key + 2 ^ (width_in size - 1 - len) = ap (address_in size) begins ∙ key_addr (width_in size) _ in (
          lt,
          begins ∙ ap (key_of (width_in size)) (sym address),
          go (width_in size - (len + 1)) address (omega arith) (omega arith) (omega arith),
        )
      where
        go : (m : ℕ) → address_in size right ≡ address_in size key + 2 ^ (width_in size - 1 - len) → width_in size - len ≡ suc m → width_in size - 1 - len ≡ m
            → width_in size - suc m ≡ len → Halved size t lo hi cover m (address_in size key) hop first mid (address_in size right)
        go m address whole half own-length =
            let right_is : address_in size right ≡ address_in size key + 2 ^ m = address ∙ ap (λ (k : ℕ). address_in size key + 2 ^ k) half in
            let run_at_lem : RunAt size (width_in size) t lo hi (suc m) (address_in size key) =
            subst (λ (n : ℕ). RunAt size (width_in size) t lo hi n (address_in size key)) whole at.is_run in
            let own : PastOwn size t lo hi (width_in size - suc m) first = subst (λ (l : ℕ). PastOwn size t lo hi l first) (sym own-length) past in
            let parts : SplitAt size t first hi (address_in size key + 2 ^ m) mid =
            split (address_in size key + 2 ^ m) (begins ∙ ap (λ (k : ℕ). key_of (width_in size) (address_in size key + 2 ^ k)) half) in
            rw right_is (halved hopped given run_at_lem own parts)

-- The position's end has a key or is past all of them.
pub end_fits : {size : ℕ} {t : List ℕ} {lo hi len key : ℕ} → Position size t lo hi len key → key + 2 ^ (64 - len) ≤ 2 ^ 64
end_fits {size} {t} {lo} {hi} {len} {key} at =
    subst (λ (k : ℕ). k + 2 ^ (64 - len) ≤ 2 ^ 64) (sym at.exact)
    (key_fits (width_in size) len (address_in size key) (width_most size at.is_size) at.short at.is_run.small)

-- Its halves are positions.
module _ {size : ℕ} {t : List ℕ} {lo hi cover hop first mid len key : ℕ} (right : ℕ) (at : Position size t lo hi len key) (lt : len < width_in size)
    (halves : Halved size t lo hi cover (width_in size - (len + 1)) (address_in size key) hop first mid (address_in size right)) where
  pub left-position : Position size t first mid (len + 1) key
  left-position = record { is_size = at.is_size; short = omega arith; exact = at.exact; is_run = halves.left_run }

  pub right-position : right ≡ key_of (width_in size) (address_in size right) → Position size t mid hi (len + 1) right
  right-position exact = record { is_size = at.is_size; short = omega arith; exact = exact; is_run = halves.right_run }
