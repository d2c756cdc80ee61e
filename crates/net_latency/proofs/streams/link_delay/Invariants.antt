use Rattle.std.proofs.Common.{◌≡◌, take}
use Rattle.net_latency.specs.Streams.{link_delay}
use Rattle.net_latency.proofs.streams.link_delay.Given as goal

abbrev pub invariant-loop-link : goal.invariant-loop-link
invariant-loop-link l = l.greatest ≡ link_delay (take l.link-index l.links) l.hops l.bridge
