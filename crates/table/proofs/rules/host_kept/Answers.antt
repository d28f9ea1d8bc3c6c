-- `rules::host_kept` asks for host bits under the strict choice alone. Assumes nothing.
use mathlib.Core.Path.{ap, ◌∙◌}
use Rattle.words.specs.Prefix.{host_clear}
use Rattle.records.specs.Sized.{width_in, raw_in}
use Rattle.records.proofs.SizedReading.{width_most, in_len}
use Rattle.table.proofs.rules.host_kept.Goals as goal

pub returns-then-strict : goal.returns-then-strict
returns-then-strict c =
    let a = c.args in
    let p = c.requires in
    let r = raw_in a.size a.table.now a.i in
    rw c.if-strict.true
    (c.key_host_bits_clear.ensures (width_in a.size) r.addr (width_most a.size p.0) c.raw_key_at.ensures
    ∙ ap (host_clear (width_in a.size) r.addr) (c.length_at.ensures ∙ in_len a.size a.table.now a.i))
