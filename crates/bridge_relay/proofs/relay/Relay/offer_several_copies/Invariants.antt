use Rattle.std.proofs.Common.{◌≤◌, max}
use Rattle.bridge_relay.specs.RelayedFrames.{IsOfferingSet, HasCopies, leaving_frame}
use Rattle.bridge_relay.proofs.relay.Relay.offer_several_copies.Given as goal

abbrev pub invariant-loop-number : goal.invariant-loop-number
invariant-loop-number g l = record {
  along : IsOfferingSet g.G.Agenda.held l.fn.self l.self l.set l.priority (leaving_frame l.first l.len l.eligible) l.number;
  copies : HasCopies l.fn.self.ports.slots l.set l.number l.first.octets.items l.copies.items;
  within : l.number ≤ max 1 l.last;
}
