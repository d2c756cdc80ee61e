use Rattle.std.proofs.Common.{ap, ◌∙◌}
use Rattle.net_latency.specs.Streams.{filter_bound}
use Rattle.net_latency.proofs.streams.hop_bound.Goals as goal

pub returns : goal.returns
returns g c = c.filter_bound.ensures ∙ ap (filter_bound c.args.hop.1) c.bounds_of_bridge.ensures
