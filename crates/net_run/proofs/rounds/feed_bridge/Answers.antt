use Rattle.std.proofs.Common.{◌+◌, length, slice_index_or, sym, ap, arith, subst}
use Rattle.std.proofs.lemmas.Option.{slice_get-get_or}
use Rattle.net_run.proofs.Handing.{HandedBefore, handed_bridge, handed_more, handed_none}
use Rattle.bridge_limits.proofs.Lists.{there_is}
use Rattle.net_run.proofs.Turns.{ports_kept}
use Rattle.net_run.proofs.rounds.feed_bridge.Goals as goal

pub feed_port-requires-clause-place : goal.feed_port-requires-clause-place
feed_port-requires-clause-place g c = λ x is.
    let there = slice_get-get_or c.args.stations.now c.args.bridge c.index-stations-bridge.result c.requires.bridge in
    let same = ap length (ports_kept c.loop-place.stations c.args.stations.now c.args.bridge x (slice_index_or c.args.stations.now c.args.bridge c.index-stations-bridge.result) c.loop-place.invariant.same is there) in
    let own = ap (λ z. length z.ports) c.index-stations-bridge.is in
    let size = c.port_count-place-end.ensures.size in
    let within = c.loop-place-test.true in
    omega (arith, same, own, size, within)

pub feed_port-requires-clause-fed : goal.feed_port-requires-clause-fed
feed_port-requires-clause-fed g c = c.loop-place.invariant.still c.args.ran.now c.requires.fed

pub loop-place-init : goal.loop-place-init
loop-place-init g c = handed_none c.args.stations.now c.args.bridge

pub loop-place-preserved : goal.loop-place-preserved
loop-place-preserved g c =
    let x = slice_index_or c.args.stations.now c.args.bridge c.index-stations-bridge.result in
    let there = slice_get-get_or c.args.stations.now c.args.bridge c.index-stations-bridge.result c.requires.bridge in
    subst (HandedBefore c.args.stations.now c.feed_port.new.stations c.args.bridge (c.loop-place.place + 1)) (sym c.or-first.ensures)
    (handed_more c.args.stations.now c.loop-place.stations c.feed_port.new.stations c.args.bridge c.loop-place.place x c.loop-place.first c.in_ok-found.found there c.loop-place.invariant c.in_ok-found.ensures)

pub returns : goal.returns
returns g c =
    let x = slice_index_or c.args.stations.now c.args.bridge c.index-stations-bridge.result in
    let there = slice_get-get_or c.args.stations.now c.args.bridge c.index-stations-bridge.result c.requires.bridge in
    let own = ap (λ z. length z.ports) c.index-stations-bridge.is in
    let size = c.port_count-place-end.ensures.size in
    let end = c.loop-place-test.false in
    let long = c.loop-place.auto.stations in
    let y = there_is c.loop-place.stations c.args.bridge (omega (arith, long, c.requires.bridge)) in
    handed_bridge c.args.stations.now c.loop-place.stations c.args.bridge c.loop-place.place x y.0 c.loop-place.first there y.1 (omega (arith, size, own, end)) c.loop-place.invariant
