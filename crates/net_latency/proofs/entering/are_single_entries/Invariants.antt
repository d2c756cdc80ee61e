use Rattle.std.proofs.Common.{◌≡◌, drop, true}
use Rattle.net_latency.specs.Entering.{come_in_once}
use Rattle.net_latency.proofs.entering.are_single_entries.Given as goal

abbrev pub invariant-loop-hop : goal.invariant-loop-hop
invariant-loop-hop g l =
    come_in_once l.plans l.links l.is_first (drop l.hop-index l.hops) ≡ come_in_once l.plans l.links true l.hops
