use Rattle.std.proofs.Common.{arith, ◌∙◌}
use Rattle.std.specs.Prelude.{option_map}
use Rattle.std.proofs.lemmas.List.{length-map}
use Rattle.net_run.specs.BridgeRuns.{sender_values, text_octets}
use Rattle.net_model.specs.NetworkParts.{sender_value}
use Rattle.net_run.proofs.Begun.{none_all}
use Rattle.net_run.proofs.bridge_run.clear_linked_ports.Goals as goal

pub returns-clause-empty : goal.returns-clause-empty
returns-clause-empty g c =
    let many = length-map c.args.senders.now (option_map sender_value) in
    let end = c.loop-place-test.false in
    none_all (sender_values c.args.senders.now) (text_octets c.loop-place.texts.items) c.loop-place.place (omega (arith, many, end)) c.loop-place.invariant.empty

pub clear_linked_port-requires : goal.clear_linked_port-requires
clear_linked_port-requires g c = record { place = c.loop-place-test.true; many = c.loop-place.invariant.many }

pub loop-place-preserved : goal.loop-place-preserved
loop-place-preserved g c = record {
  many = c.in_ok-texts.ensures.many;
  same = c.in_ok-texts.ensures.from_outside ∙ c.loop-place.invariant.same;
  empty = c.in_ok-texts.ensures.empty c.loop-place.invariant.empty;
}

pub returns-clause-many : goal.returns-clause-many
returns-clause-many g c = c.loop-place.invariant.many

pub returns-clause-from_outside : goal.returns-clause-from_outside
returns-clause-from_outside g c = c.loop-place.invariant.same
