use Rattle.std.proofs.Common.{Bool, List, ap, ◌∙◌}
use Rattle.net_report.specs.HopCounts.{counts_by_ports}
use Rattle.net_report.proofs.hop_counting.hop_counts.Goals as goal

pub returns : goal.returns
returns g c = (c.in_ok-ways.ways.items, c.in_ok-ways.ensures, c.counts_by_ports.ensures ∙ ap (λ (w : List Bool). counts_by_ports w c.args.hop.now.view.now) c.deref.ensures.value)
