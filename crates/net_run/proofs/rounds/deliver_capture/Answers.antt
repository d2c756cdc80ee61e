use Rattle.std.proofs.Common.{List, None, refl, sym, subst, slice_index_or}
use Rattle.std.proofs.lemmas.List.{set-get_or}
use Rattle.std.proofs.lemmas.Option.{slice_get-get_or}
use Rattle.net_run.specs.Delivery.{IsPortFed}
use Rattle.net_run.specs.BridgeRuns.{BridgeRunState}
use Rattle.net_model.specs.NetworkParts.{sender_value}
use Rattle.net_run.proofs.Handing.{handed_other, handed_same}
use Rattle.net_run.proofs.Turns.{fed_one}
use Rattle.net_run.proofs.rounds.deliver_capture.Goals as goal

pub has_input-requires : goal.has_input-requires
has_input-requires g c = c.requires.place (slice_index_or c.args.stations.now c.args.bridge c.index-stations-bridge.result) (slice_get-get_or c.args.stations.now c.args.bridge c.index-stations-bridge.result c.requires.bridge)

pub port-port-requires : goal.port-port-requires
port-port-requires g c = c.requires.place (slice_index_or c.args.stations.now c.args.bridge c.index-stations-bridge.result) (slice_get-get_or c.args.stations.now c.args.bridge c.index-stations-bridge.result c.requires.bridge)

pub set_input-requires-clause-place : goal.set_input-requires-clause-place
set_input-requires-clause-place g c =
    c.requires.place (slice_index_or c.args.stations.now c.args.bridge c.index-stations-bridge.result) (slice_get-get_or c.args.stations.now c.args.bridge c.index-stations-bridge.result c.requires.bridge)

pub set_input-requires-clause-linked : goal.set_input-requires-clause-linked
set_input-requires-clause-linked g c = (
  sender_value c.args.sender,
  c.requires.linked (slice_index_or c.args.stations.now c.args.bridge c.index-stations-bridge.result) (slice_get-get_or c.args.stations.now c.args.bridge c.index-stations-bridge.result c.requires.bridge),
)

pub returns-then-is_same : goal.returns-then-is_same
returns-then-is_same g c =
    let x = slice_index_or c.args.stations.now c.args.bridge c.index-stations-bridge.result in
    let there = slice_get-get_or c.args.stations.now c.args.bridge c.index-stations-bridge.result c.requires.bridge in
    let came = c.in_ok-is_same.ensures.same c.if-is_same.true in
    subst (λ (ss : List (BridgeRunState g.row.A.Denot)). IsPortFed c.args.stations.now ss c.args.bridge c.args.place None) (sym (set-get_or c.args.stations.now c.args.bridge c.index-stations-bridge.result))
    (handed_same c.args.stations.now c.args.bridge c.args.place x there
    (fed_one c.args.stations.now c.args.bridge c.args.place x x (sender_value c.args.sender) c.in_ok-input.input refl (c.requires.linked x there) came c.in_ok-input.ensures))

pub returns : goal.returns
returns g c =
    let x = slice_index_or c.args.stations.now c.args.bridge c.index-stations-bridge.result in
    let there = slice_get-get_or c.args.stations.now c.args.bridge c.index-stations-bridge.result c.requires.bridge in
    let here = c.in_ok-is_same.ensures.other c.if-is_same.false in
    let linked = c.requires.linked x there in
    handed_other c.args.stations.now c.args.bridge c.args.place c.port-port.result x c.set_input.new.self (sender_value c.args.sender) c.in_ok-input.input there c.set_input.ensures.ground c.set_input.ensures.taps c.set_input.ensures.texts linked c.in_ok-input.ensures
    c.port-port.ensures
    (record {
      sender = sender_value c.args.sender;
      linked = linked;
      text = here.0;
      came = here.1;
      sent = c.in_ok-input.input;
      later = c.in_ok-input.ensures;
      other = here.2;
    })

pub bounds-stations-bridge : goal.bounds-stations-bridge
bounds-stations-bridge g c = c.requires.bridge
