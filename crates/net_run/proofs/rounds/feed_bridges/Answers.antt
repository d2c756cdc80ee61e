use Rattle.std.proofs.Common.{sym, ap, arith, subst, ◌+◌, ◌∙◌}
use Rattle.std.specs.Option.{option_or}
use Rattle.net_run.proofs.Handing.{HandedTo, handed_all, to_more, to_none}
use Rattle.net_run.proofs.rounds.feed_bridges.Goals as goal

pub feed_bridge-requires-clause-fed : goal.feed_bridge-requires-clause-fed
feed_bridge-requires-clause-fed g c = c.loop-bridge.invariant.still c.args.ran.now c.requires

pub loop-bridge-init : goal.loop-bridge-init
loop-bridge-init g c = to_none c.args.stations.now

pub loop-bridge-preserved : goal.loop-bridge-preserved
loop-bridge-preserved g c =
    subst (HandedTo c.args.stations.now c.feed_bridge.new.stations (c.loop-bridge.bridge + 1)) (sym (c.or-first.ensures ∙ ap (option_or c.loop-bridge.first) c.with_bridge.ensures))
    (to_more c.args.stations.now c.loop-bridge.stations c.feed_bridge.new.stations c.loop-bridge.bridge c.loop-bridge.first c.in_ok-found.found c.loop-bridge.invariant c.in_ok-found.ensures)

pub returns : goal.returns
returns g c =
    let end = c.loop-bridge-test.false in
    let long = c.loop-bridge.auto.stations in
    handed_all c.args.stations.now c.loop-bridge.stations c.loop-bridge.bridge c.loop-bridge.first (omega (arith, end, long)) c.loop-bridge.invariant
