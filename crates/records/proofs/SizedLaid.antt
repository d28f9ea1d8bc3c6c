-- Laws of laying records over a list, over their size: records that are written one after another are the bytes of their routes. Assumes nothing.
use mathlib.Core.Path.{◌≡◌, refl, sym, ap, ◌∙◌}
use mathlib.Core.List.{List, [], ◌∷◌, ◌++◌, append-nil, append_assoc}
use Prim.Native.Nat.{ℕ, ◌+◌, ◌-◌, ◌*◌, ◌/◌, ◌^◌, ◌≤◌}
use native.Mathlib.Nat.{mul-add}
use native.Mathlib.Omega.{arith}
use lib.ListN.{length, take, drop}
use lib.Pow.{shl-shr}
use Rattle.theory.specs.Routes.{Route}
use Rattle.words.specs.Keys.{key_of}
use Rattle.records.specs.Sized.{IsSize, record_in, bytes_in, laid}
use Rattle.records.proofs.Laid.{length-laid, laid_then, laid_lent}
use Rattle.records.proofs.SizedWritten.{length_record, in_length_bytes}

-- An address is what is left of its key.
pub key_addr : (w a : ℕ) → key_of w a / 2 ^ (64 - w) ≡ a
key_addr w a = shl-shr a (64 - w)

-- The records of two lists of routes, one after the other.
pub in_bytes_append : (size : ℕ) (rs qs : List Route) → bytes_in size (rs ++ qs) ≡ bytes_in size rs ++ bytes_in size qs
unfolding bytes_in
in_bytes_append size [] qs = refl
in_bytes_append size (r ∷ rs) qs =
    ap (λ (l : List ℕ). record_in size r ++ l) (in_bytes_append size rs qs) ∙ sym (append_assoc (record_in size r) (bytes_in size rs) (bytes_in size qs))

module _ (size : ℕ) (is : IsSize size) where
  -- A record written behind the records of routes.
  pub in_laid_record : (at : ℕ) (rs : List Route) (r : Route) (o : List ℕ) → size * (at + length rs) + size ≤ length o
      → laid (size * (at + length rs)) (record_in size r) (laid (size * at) (bytes_in size rs) o) ≡ laid (size * at) (bytes_in size (rs ++ (r ∷ []))) o
  unfolding bytes_in
  in_laid_record at rs r o fits =
      let n = in_length_bytes size is rs in
      let m = length_record size is r in
      let spread = mul-add size at (length rs) in
      let e : size * (at + length rs) ≡ size * at + length (bytes_in size rs) = omega arith in
      let one : bytes_in size (r ∷ []) ≡ record_in size r = append-nil (record_in size r) in
      ap (λ (k : ℕ). laid k (record_in size r) (laid (size * at) (bytes_in size rs) o)) e
      ∙ laid_then (size * at) (bytes_in size rs) (record_in size r) o (omega arith)
      ∙ ap (λ (l : List ℕ). laid (size * at) l o) (sym (in_bytes_append size rs (r ∷ []) ∙ ap (λ (l : List ℕ). bytes_in size rs ++ l) one))

  -- Records that fit leave the length.
  pub in_length_records : (rs : List Route) (o : List ℕ) → size * length rs ≤ length o → length (laid 0 (bytes_in size rs) o) ≡ length o
  in_length_records rs o fits = let n = in_length_bytes size is rs in length-laid 0 (bytes_in size rs) o (omega arith)

  -- The records of some routes, and then those of others on the part behind them, as a call is lent it.
  pub in_records_lent : (rs qs : List Route) (o : List ℕ) → size * (length rs + length qs) ≤ length o
      → let p = laid 0 (bytes_in size rs) o in
      let k = size * length rs in
      take k p ++ (laid 0 (bytes_in size qs) (take (length p - k) (drop k p)) ++ drop (length p - k) (drop k p)) ≡ laid 0 (bytes_in size (rs ++ qs)) o
  in_records_lent rs qs o fits =
      let m = in_length_bytes size is rs in
      let n = in_length_bytes size is qs in
      let spread = mul-add size (length rs) (length qs) in
      let same = in_length_records rs o (omega arith) in
      let at : size * length rs + 0 ≡ 0 + length (bytes_in size rs) = omega arith in
      laid_lent (size * length rs) 0 (bytes_in size qs) (laid 0 (bytes_in size rs) o) (omega arith)
      ∙ ap (λ (k : ℕ). laid k (bytes_in size qs) (laid 0 (bytes_in size rs) o)) at
      ∙ laid_then 0 (bytes_in size rs) (bytes_in size qs) o (omega arith)
      ∙ ap (λ (l : List ℕ). laid 0 l o) (sym (in_bytes_append size rs qs))
