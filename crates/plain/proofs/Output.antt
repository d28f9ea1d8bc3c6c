-- What is put at the start of an output: nothing, one record, and some routes and then others on the part behind them. Assumes nothing.
use Prim.Native.Nat.{ℕ, ◌+◌, ◌-◌, ◌*◌, ◌≤◌}
use mathlib.Core.Path.{◌≡◌, refl, sym, ap, ◌∙◌}
use mathlib.Core.List.{List, [], ◌∷◌, ◌++◌, append-nil}
use native.Mathlib.Nat.{mul-add, mul_comm, mul-one}
use native.Mathlib.Omega.{arith}
use lib.ListN.{length, take, drop, length-append, length-take, length-drop}
use Rattle.theory.specs.Routes.{Route}
use Rattle.records.specs.Sized.{IsSize, record_in, bytes_in, laid}
use Rattle.records.proofs.Laid.{laid_none}
use Rattle.records.proofs.SizedLaid.{in_length_records, in_records_lent}
use Rattle.plain.specs.Output.{Put}

-- Nothing.
pub put_none : {size : ℕ} {rs : List Route} (o : List ℕ) → rs ≡ [] → Put size rs 0 o o
unfolding bytes_in
put_none o e = rw e (record { counted = refl; written = λ fits. sym (laid_none 0 o) })

-- One record.
pub put_one : {size : ℕ} {rs : List Route} (r : Route) (o o' : List ℕ) → rs ≡ r ∷ [] → (size ≤ length o → o' ≡ laid 0 (record_in size r) o) → Put size rs 1 o o'
unfolding bytes_in
put_one {size} r o o' e f =
    rw e
    (record {
      counted = refl;
      written = λ fits. f (omega (arith, mul-one size)) ∙ ap (λ (l : List ℕ). laid 0 l o) (sym (append-nil (record_in size r)));
    })

-- Some routes, and then others on the part of the output from `at` on, as a call is lent it.
pub put_then : {size : ℕ} → IsSize size → {ts rs qs : List Route} {k m at : ℕ} {o p ys : List ℕ} → ts ≡ rs ++ qs → Put size rs k o p
    → (k * size ≤ length p → at ≡ k * size) → Put size qs m (take (length p - at) (drop at p)) ys
    → Put size ts (k + m) o (take at p ++ (ys ++ drop (length p - at) (drop at p)))
put_then {size} is {ts} {rs} {qs} {k} {m} {at} {o} {p} {ys} both first here second =
    let one : size * k ≡ size * length rs = ap (λ (n : ℕ). size * n) first.counted in
    let two : size * m ≡ size * length qs = ap (λ (n : ℕ). size * n) second.counted in
    let turned : k * size ≡ size * k = mul_comm k size in
    rw both (record {
      counted = omega (arith, first.counted, second.counted, length-append rs qs);
      written = λ fits.
          let spread = mul-add size k m in
          let apart = mul-add size (length rs) (length qs) in
          let before : p ≡ laid 0 (bytes_in size rs) o = first.written (omega arith) in
          let same : length p ≡ length o = ap length before ∙ in_length_records size is rs o (omega arith) in
          let start : at ≡ size * length rs = omega (arith, here (omega arith)) in
          let room : length (take (length p - at) (drop at p)) ≡ length p - at = simp (length-take, length-drop) (omega arith) in
          rw (second.written (omega arith), start, before) (in_records_lent size is rs qs o (omega arith));
    })
