use Rattle.net_check.specs.Networks.{link_row_value}
use Rattle.net_latency.proofs.Lined.{all_ones, one_more}
use Rattle.net_check.proofs.network.network_links.Goals as goal

pub loop-row-preserved : goal.loop-row-preserved
loop-row-preserved g c = one_more link_row_value c.args.rows.now c.loop-row.row-index _ c.loop-row.links.items c.push.new.self.items c.loop-row-test.true c.loop-row.invariant c.in-Ok.ensures.items

pub returns : goal.returns
returns g c = all_ones link_row_value c.args.rows.now c.loop-row.row-index c.loop-row.links.items c.loop-row-test.false c.loop-row.invariant
