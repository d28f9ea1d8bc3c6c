-- `edition_6890::rfc_6890` is the records of the document's ranges, by computation. Assumes nothing.
use mathlib.Core.Path.{refl}
use Rattle.records.specs.Sized.{octets_of, record_in, bytes_in}
use Rattle.special.specs.Editions.{rfc6890}
use Rattle.special.proofs.edition_6890.rfc_6890.Goals as goal

pub returns : goal.returns
unfolding bytes_in record_in octets_of rfc6890
returns c = refl
