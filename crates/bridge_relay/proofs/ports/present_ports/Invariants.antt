use Rattle.bridge_relay.proofs.Present.{ArePresent}
use Rattle.bridge_relay.proofs.ports.present_ports.Given as goal

abbrev pub invariant-loop-place : goal.invariant-loop-place
invariant-loop-place g l = record {
  set : ArePresent l.slots l.place l.present;
}
