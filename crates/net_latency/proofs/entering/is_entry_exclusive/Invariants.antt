use Rattle.std.proofs.Common.{◌≡◌, drop}
use Rattle.net_latency.specs.Entering.{comes_in_at}
use Rattle.net_latency.proofs.entering.is_entry_exclusive.Given as goal

abbrev pub invariant-loop-on : goal.invariant-loop-on
invariant-loop-on g l =
    comes_in_at l.links l.is_first l.hop l.plan (drop l.on-index l.plan.ports) ≡ comes_in_at l.links l.is_first l.hop l.plan l.plan.ports
