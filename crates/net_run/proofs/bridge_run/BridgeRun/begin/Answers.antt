use Rattle.std.proofs.Common.{◌≡◌, ℕ, List, Option, length, map, refl, sym, ap, subst, arith, ◌∙◌}
use Rattle.std.specs.Prelude.{Vec, option_map}
use Rattle.std.proofs.lemmas.List.{length-map}
use Rattle.bridge_config.specs.Model.{Plan}
use Rattle.bridge_core.specs.WholeRuns.{ArePortNumbers}
use Rattle.bridge_core.proofs.Simulating.{ports_many}
use Rattle.net_model.specs.Networks as networks
use Rattle.net_model.specs.NetworkParts.{link_value, sender_value}
use Rattle.net_model.specs.declared.sender.Sender.{Sender}
use Rattle.net_run.specs.BridgeRuns.{NoInput, open_texts, sender_values, sink_octets, text_octets}
use Rattle.net_run.proofs.Over.{kept_begun}
use Rattle.net_run.proofs.bridge_run.BridgeRun.begin.Goals as goal

pub clear_linked_ports-requires : goal.clear_linked_ports-requires
clear_linked_ports-requires g c =
    let numbers : ArePortNumbers c.args.accepted.now c.in_ok-ports.ports.items = subst (λ (p : Plan g.row.A.Denot). ArePortNumbers p c.in_ok-ports.ports.items) c.plan.ensures.plan c.in_ok-ports.ensures in
    let many = ports_many c.args.accepted.now c.in_ok-ports.ports.items numbers in
    let senders = length-map c.in_ok-senders.senders.items (option_map sender_value) in
    let each = length-map c.deref.result.now (networks.sender (map link_value c.args.links.now) c.args.bridge) in
    let made = ap length c.in_ok-senders.ensures in
    let lent = ap length c.deref-2.ensures.value in
    let own = ap length c.deref.ensures.value in
    let came = c.requires.captures in
    omega (arith, many, senders, each, made, lent, own, came)

pub invariant_of-result : goal.invariant_of-result
invariant_of-result g c =
    let numbers : ArePortNumbers c.args.accepted.now c.in_ok-ports.ports.items = subst (λ (p : Plan g.row.A.Denot). ArePortNumbers p c.in_ok-ports.ports.items) c.plan.ensures.plan c.in_ok-ports.ensures in
    let senders = length-map c.in_ok-senders.senders.items (option_map sender_value) in
    let each = length-map c.deref.result.now (networks.sender (map link_value c.args.links.now) c.args.bridge) in
    let made = ap length c.in_ok-senders.ensures in
    let lent = ap length c.deref-2.ensures.value in
    let own = ap length c.deref.ensures.value in
    let captures = length-map c.in_ok-captures.captures.items (λ (v : Vec ℕ g.row.A.Denot). v.items) in
    let texts = ap length c.in_ok-texts.ensures in
    let many = c.in_ok-captures.ensures.many in
    kept_begun c.args.accepted.now c.args.came.commands.items c.in_ok-ports.ports.items (sender_values c.in_ok-senders.senders.items) c.in_ok-texts.texts.items (sink_octets c.new.result.items)
    numbers c.requires.commands (omega (arith, senders, each, made, own)) (omega (arith, texts, captures, many, lent, senders, each, made, own))

pub returns : goal.returns
returns g c =
    let senders = length-map c.in_ok-senders.senders.items (option_map sender_value) in
    let each = length-map c.deref.result.now (networks.sender (map link_value c.args.links.now) c.args.bridge) in
    let made = ap length c.in_ok-senders.ensures in
    let lent = ap length c.deref-2.ensures.value in
    let own = ap length c.deref.ensures.value in
    let captures = length-map c.in_ok-captures.captures.items (λ (v : Vec ℕ g.row.A.Denot). v.items) in
    let texts = ap length c.in_ok-texts.ensures in
    let many = c.in_ok-captures.ensures.many in
    record {
      plan = refl;
      commands = refl;
      numbers = subst (λ (p : Plan g.row.A.Denot). ArePortNumbers p c.in_ok-ports.ports.items) c.plan.ensures.plan c.in_ok-ports.ensures;
      senders = c.in_ok-senders.ensures ∙ ap (map (networks.sender (map link_value c.args.links.now) c.args.bridge)) c.deref.ensures.value;
      many = omega (arith, texts, captures, many, lent, senders, each, made, own);
      from_outside = ap (open_texts (sender_values c.in_ok-senders.senders.items)) c.in_ok-texts.ensures
          ∙ subst (λ (l : List (Option Sender)). open_texts (sender_values l) (text_octets c.in_ok-captures.captures.items) ≡ open_texts (sender_values l) (text_octets c.args.came.captures.items)) c.deref-2.ensures.value c.in_ok-captures.ensures.from_outside;
      over_links = subst (NoInput (sender_values c.in_ok-senders.senders.items)) (sym c.in_ok-texts.ensures)
          (subst (λ (l : List (Option Sender)). NoInput (sender_values l) (text_octets c.in_ok-captures.captures.items)) c.deref-2.ensures.value c.in_ok-captures.ensures.empty);
      idle = refl;
    }
