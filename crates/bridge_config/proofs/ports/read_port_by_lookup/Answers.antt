use Rattle.std.proofs.Common.{ap, arith, not, rules}
use Rattle.bridge_config.specs.Sections as sections
use Rattle.bridge_config.proofs.Taken.{begun, in_range, made, own, read, taken, tested, told}
use Rattle.bridge_config.proofs.ports.read_port_by_lookup.Goals as goal

pub returns-clause-reads : goal.returns-clause-reads
unfolding sections.read_port_by_lookup
returns-clause-reads g c =
    let so_far = begun _ _ c.begin-first.ensures c.has_port_keys.ensures in
    let so_far = taken _ c.read_required-number.ensures.takes so_far in
    let so_far = taken _ c.read_required-speed.ensures.takes so_far in
    let so_far = taken _ c.read_or_default-vid.ensures.takes so_far in
    let so_far = taken _ c.read_or_default-priority.ensures.takes so_far in
    let so_far = taken _ c.read_or_default-classes.ensures.takes so_far in
    let so_far = taken _ c.read_or_default-rooms.ensures.takes so_far in
    let so_far = read _ c.take_port_lists-list.ensures.reads so_far in
    told c.finish.ensures (tested _ _ c.expect.ensures (ap not c.has.ensures.among) so_far)

pub returns-clause-own : goal.returns-clause-own
returns-clause-own g c = own _ c.expect.ensures c.has.ensures.among c.finish.ensures

pub returns-clause-port : goal.returns-clause-port
returns-clause-port g c =
    let (above, below) = in_range _ _ c.read_required-number.ensures.takes c.read_required-number.ensures.fits (omega arith) (omega arith) in
    made _ c.finish.ensures (record {
      number_from = above;
      number_to = below;
      vid_from = c.read_or_default-vid.ensures.fits.0;
      vid_to = c.read_or_default-vid.ensures.fits.1;
      priority = c.read_or_default-priority.ensures.fits.1;
      classes = c.read_or_default-classes.ensures.fits;
      eight_classes = search rules;
      rooms = c.read_or_default-rooms.ensures.fits;
      eight_rooms = search rules;
      list = c.take_port_lists-list.ensures.list;
    })
