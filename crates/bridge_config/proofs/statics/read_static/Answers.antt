use Rattle.std.proofs.Common.{ap, not, rules}
use Rattle.bridge_config.specs.Sections as sections
use Rattle.bridge_config.proofs.Taken.{before, before_test, begun, fits_if, made_if, own, taken, tested, told}
use Rattle.bridge_config.proofs.statics.read_static.Goals as goal

pub returns-clause-reads : goal.returns-clause-reads
unfolding sections.read_static
returns-clause-reads c =
    let read = begun _ _ c.begin-first.ensures c.has_static_keys.ensures in
    let read = taken _ c.read_required-vid.ensures.takes read in
    let read = taken _ c.read_required-address.ensures.takes read in
    let read = taken _ c.read_required-ports.ensures.takes read in
    let read = tested _ _ c.expect.ensures (ap not c.has_static.ensures) read in
    told c.finish.ensures (rw c.from_bits.ensures read)

pub returns-clause-own : goal.returns-clause-own
returns-clause-own c = own _ c.expect.ensures c.has_static.ensures c.finish.ensures

pub returns-clause-entry : goal.returns-clause-entry
returns-clause-entry c = made_if _ c.finish.ensures (λ none.
    let last = before_test c.expect.ensures none in
    let still = before c.read_required-address.ensures.takes (before c.read_required-ports.ensures.takes last) in
    let (above, below, there) = fits_if _ c.read_required-vid.ensures.takes c.read_required-vid.ensures.fits still in
    record { vlan = there; address = search rules; ports = rw c.from_bits.ensures (fits_if _ c.read_required-ports.ensures.takes c.read_required-ports.ensures.fits last) })
