use Rattle.std.proofs.Common.{arith}
use Rattle.bridge_config.specs.Sections as sections
use Rattle.bridge_config.proofs.Taken.{before, begun, fits_if, in_range, known_in_range, made, made_if, taken, told}
use Rattle.bridge_config.proofs.streams.read_stream_by_lookup.Goals as goal

pub returns-clause-reads : goal.returns-clause-reads
unfolding sections.read_stream_by_lookup
returns-clause-reads g c =
    let read = begun _ _ c.begin-first.ensures c.has_stream_keys.ensures in
    let read = taken _ c.read_required-handle.ensures.takes read in
    let read = taken _ c.read_required-port.ensures.takes read in
    let read = taken _ c.read_required-kind.ensures.takes read in
    let read = taken _ c.read_required-address.ensures.takes read in
    let read = taken _ c.read_required-vid.ensures.takes read in
    told c.finish.ensures (taken _ c.read_required-tag.ensures.takes read)

pub returns-clause-port : goal.returns-clause-port
returns-clause-port g c = made_if _ c.finish.ensures (λ none.
    let last = before c.read_required-vid.ensures.takes (before c.read_required-tag.ensures.takes none) in
    let still = before c.read_required-kind.ensures.takes (before c.read_required-address.ensures.takes last) in
    let (above, below, there) = fits_if _ c.read_required-port.ensures.takes c.read_required-port.ensures.fits still in
    there)

pub returns-clause-port_from : goal.returns-clause-port_from
returns-clause-port_from g c = made _ c.finish.ensures (known_in_range _ _ _ c.read_required-port.ensures.takes c.read_required-port.ensures.fits (omega arith) (omega arith)).0

pub returns-clause-port_to : goal.returns-clause-port_to
returns-clause-port_to g c = made _ c.finish.ensures (known_in_range _ _ _ c.read_required-port.ensures.takes c.read_required-port.ensures.fits (omega arith) (omega arith)).1

pub returns-clause-vid_from : goal.returns-clause-vid_from
returns-clause-vid_from g c = made _ c.finish.ensures (in_range _ _ c.read_required-vid.ensures.takes c.read_required-vid.ensures.fits (omega arith) (omega arith)).0

pub returns-clause-vid_to : goal.returns-clause-vid_to
returns-clause-vid_to g c = made _ c.finish.ensures (in_range _ _ c.read_required-vid.ensures.takes c.read_required-vid.ensures.fits (omega arith) (omega arith)).1
