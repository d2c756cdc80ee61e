use Rattle.std.proofs.Common.{ap, not}
use Rattle.std.proofs.lemmas.Bool.{not-true}
use Rattle.bridge_config.specs.Arrays.{array_items}
use Rattle.bridge_config.specs.Document as doc
use Rattle.bridge_config.proofs.Taken.{before, begun, holds, made_if, taken, tested, view_told}
use Rattle.bridge_config.proofs.section_arrays.read_arrays.Goals as goal

pub returns-clause-reads : goal.returns-clause-reads
unfolding doc.read_arrays
returns-clause-reads c =
    let read = begun _ _ c.begin-first.ensures c.has_only.ensures.known in
    let read = taken _ c.take_section_items-changes.ensures.takes read in
    let read = taken _ c.take_section_items-ports.ensures.takes read in
    let read = tested _ _ c.expect.ensures (ap not c.is_empty.ensures.empty) read in
    let read = taken _ c.take_section_items-vlans.ensures.takes read in
    let read = taken _ c.take_section_items-statics.ensures.takes read in
    let read = taken _ c.take_section_items-streams.ensures.takes read in
    let read = taken _ c.take_section_items-gates.ensures.takes read in
    let read = taken _ c.take_section_items-meters.ensures.takes read in
    view_told array_items c.finish.ensures (taken _ c.take_section_items-filters.ensures.takes read)

pub returns-clause-few : goal.returns-clause-few
returns-clause-few c = made_if _ c.finish.ensures (λ none.
    let last = before c.take_section_items-gates.ensures.takes (before c.take_section_items-meters.ensures.takes (before c.take_section_items-filters.ensures.takes none)) in
    let still = before c.take_section_items-vlans.ensures.takes (before c.take_section_items-statics.ensures.takes (before c.take_section_items-streams.ensures.takes last)) in
    record {
      some_port = c.is_empty.ensures.some (not-true c.is_empty.result (holds c.expect.ensures still));
      tables = c.take_section_items-ports.ensures.tables;
      ports = c.take_section_items-ports.ensures.few;
      vlans = c.take_section_items-vlans.ensures.few;
      statics = c.take_section_items-statics.ensures.few;
      streams = c.take_section_items-streams.ensures.few;
      gates = c.take_section_items-gates.ensures.few;
      meters = c.take_section_items-meters.ensures.few;
      filters = c.take_section_items-filters.ensures.few;
    })
