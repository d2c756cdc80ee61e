use Rattle.std.proofs.Common.{map, option_map, ap, ◌∙◌}
use Rattle.net_model.specs.Networks.{sender}
use Rattle.net_model.specs.NetworkParts.{link_value, sender_value}
use Rattle.net_run.specs.BridgeRuns.{sender_values}
use Rattle.net_run.proofs.Made.{made_more}
use Rattle.net_run.proofs.bridge_run.port_senders.Goals as goal

pub loop-port-preserved : goal.loop-port-preserved
loop-port-preserved g c =
    ap sender_values c.in_ok-push.ensures.items
    ∙ made_more (option_map sender_value) (sender (map link_value c.args.links.now) c.args.bridge) c.args.ports.now c.loop-port.port-index _ c.loop-port.senders.items c.find_sender.result c.loop-port.invariant c.loop-port-test.true c.find_sender.ensures
