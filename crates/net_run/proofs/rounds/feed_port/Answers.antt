use Rattle.std.proofs.Common.{Option, Some, slice_index_or, sym, ap, ◌∙◌}
use Rattle.std.specs.Prelude.{slice_get, option_map}
use Rattle.std.proofs.lemmas.Option.{slice_get-get_or}
use Rattle.net_run.specs.BridgeRuns.{BridgeRunState}
use Rattle.net_model.specs.NetworkParts.{sender_value}
use Rattle.net_model.specs.declared.sender.Sender.{Sender}
use Rattle.net_run.proofs.Handing.{fed_open, handed_same}
use Rattle.net_run.proofs.Turns.{at_place}
use Rattle.net_run.proofs.rounds.feed_port.Goals as goal

pub sender-requires : goal.sender-requires
sender-requires g c = c.requires.place (slice_index_or c.args.stations.now c.args.bridge c.index-stations-bridge.result) (slice_get-get_or c.args.stations.now c.args.bridge c.index-stations-bridge.result c.requires.bridge)

pub deliver_capture-requires-clause-linked : goal.deliver_capture-requires-clause-linked
deliver_capture-requires-clause-linked g c = λ x is.
    let at = at_place c.args.stations.now c.args.bridge c.index-stations-bridge.result x c.requires.bridge is in
    ap (λ (z : BridgeRunState g.row.A.Denot). slice_get z.senders c.args.place) (sym at) ∙ (c.sender.ensures ∙ ap (λ (o : Option Sender). Some (option_map sender_value o)) c.in-Some.is)

pub returns-in_default : goal.returns-in_default
returns-in_default g c =
    let x = slice_index_or c.args.stations.now c.args.bridge c.index-stations-bridge.result in
    let there = slice_get-get_or c.args.stations.now c.args.bridge c.index-stations-bridge.result c.requires.bridge in
    handed_same c.args.stations.now c.args.bridge c.args.place x there (fed_open c.args.stations.now x c.args.place (c.sender.ensures ∙ ap (λ (o : Option Sender). Some (option_map sender_value o)) c.in_default.is))

pub returns-then-has_skipped_round : goal.returns-then-has_skipped_round
returns-then-has_skipped_round g c =
    let x = slice_index_or c.args.stations.now c.args.bridge c.index-stations-bridge.result in
    let there = slice_get-get_or c.args.stations.now c.args.bridge c.index-stations-bridge.result c.requires.bridge in
    let linked = c.sender.ensures ∙ ap (λ (o : Option Sender). Some (option_map sender_value o)) c.in-Some.is in
    handed_same c.args.stations.now c.args.bridge c.args.place x there (c.requires.fed c.args.bridge c.args.place x (sender_value c.in-Some.sender) there (c.requires.place x there) linked (c.has_skipped_round.ensures c.if-has_skipped_round.true))

pub bounds-stations-bridge : goal.bounds-stations-bridge
bounds-stations-bridge g c = c.requires.bridge

pub deliver_capture-requires-clause-bridge : goal.deliver_capture-requires-clause-bridge
deliver_capture-requires-clause-bridge g c = c.requires.bridge

pub deliver_capture-requires-clause-place : goal.deliver_capture-requires-clause-place
deliver_capture-requires-clause-place g c = c.requires.place
