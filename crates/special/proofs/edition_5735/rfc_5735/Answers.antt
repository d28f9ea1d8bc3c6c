-- `edition_5735::rfc_5735` is the records of the document's ranges, by computation. Assumes nothing.
use mathlib.Core.Path.{refl}
use Rattle.records.specs.Sized.{octets_of, record_in, bytes_in}
use Rattle.special.specs.Editions.{rfc5735}
use Rattle.special.proofs.edition_5735.rfc_5735.Goals as goal

pub returns : goal.returns
unfolding bytes_in record_in octets_of rfc5735
returns c = refl
