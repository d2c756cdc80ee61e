use Rattle.std.proofs.Common.{ap, arith, not}
use Rattle.bridge_config.specs.Sections as sections
use Rattle.bridge_config.proofs.Taken.{before_test, begun, fits_if, in_range, made_if, own, taken, tested, told}
use Rattle.bridge_config.proofs.vlans.read_vlan.Goals as goal

pub returns-clause-reads : goal.returns-clause-reads
unfolding sections.read_vlan
returns-clause-reads c =
    let read = begun _ _ c.begin-first.ensures c.has_vlan_keys.ensures in
    let read = taken _ c.read_required-vid.ensures.takes read in
    let read = taken _ c.read_required-members.ensures.takes read in
    let read = tested _ _ c.expect.ensures (ap not c.has_vlan.ensures) read in
    told c.finish.ensures (rw c.from_bits.ensures read)

pub returns-clause-own : goal.returns-clause-own
returns-clause-own c = own _ c.expect.ensures c.has_vlan.ensures c.finish.ensures

pub returns-clause-vlan : goal.returns-clause-vlan
returns-clause-vlan c = made_if _ c.finish.ensures (λ none.
    let (above, below) = in_range _ _ c.read_required-vid.ensures.takes c.read_required-vid.ensures.fits (omega arith) (omega arith) in
    record { vid_from = above; vid_to = below; members = rw c.from_bits.ensures (fits_if _ c.read_required-members.ensures.takes c.read_required-members.ensures.fits (before_test c.expect.ensures none)) })
