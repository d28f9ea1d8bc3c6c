-- `special_use` replies by the list of its edition, and refuses any other number. Assumes nothing.
use mathlib.Core.Path.{◌≡◌, sym, ◌∙◌}
use native.Mathlib.Omega.{arith}
use mathlib.Core.Logic.{inl, inr, ⊎_elim}
use Rattle.records.specs.Wire.{bytes_of}
use Rattle.special.specs.Editions.{ranges_of}
use Rattle.special.proofs.Listed.{list_ranges, reply-listed, reply_unknown}
use Rattle.special.proofs.special_use.Goals as goal

pub special_in-requires : goal.special_in-requires
special_in-requires c =
    let listed : c.rfc_5735.result ≡ bytes_of (ranges_of c.args.edition) = rw c.in-5735.is c.rfc_5735.ensures in
    list_ranges _ (inl c.in-5735.is) _ listed

pub returns-in-5735 : goal.returns-in-5735
returns-in-5735 c =
    let listed : c.rfc_5735.result ≡ bytes_of (ranges_of c.args.edition) = rw c.in-5735.is c.rfc_5735.ensures in
    c.special_in.ensures ∙ reply-listed _ (inl c.in-5735.is) _ listed _ _

pub special_in-requires-in-6890 : goal.special_in-requires-in-6890
special_in-requires-in-6890 c =
    let listed : c.rfc_6890.result ≡ bytes_of (ranges_of c.args.edition) = rw c.in-6890.is c.rfc_6890.ensures in
    list_ranges _ (inr c.in-6890.is) _ listed

pub returns-in-6890 : goal.returns-in-6890
returns-in-6890 c =
    let listed : c.rfc_6890.result ≡ bytes_of (ranges_of c.args.edition) = rw c.in-6890.is c.rfc_6890.ensures in
    c.special_in-in-6890.ensures ∙ reply-listed _ (inr c.in-6890.is) _ listed _ _

pub returns-in_default : goal.returns-in_default
returns-in_default c = rw c.at.ensures (sym (reply_unknown _ _ _ (⊎_elim (λ e. omega arith) (λ e. omega arith))))
