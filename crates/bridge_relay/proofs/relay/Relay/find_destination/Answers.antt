use Rattle.std.proofs.Common.{◌≡◌, ℕ, ◌+◌, Bool, arith, sym, subst, ap, ◌∙◌, true, false}
use Rattle.std.specs.Prelude.{nat_eq}
use Rattle.std.proofs.lemmas.Bool.Decides.{nat_tests}
use Rattle.bridge_ident.specs.Identification.{first_handle}
use Rattle.bridge_filter.specs.Verdicts.{filter_input}
use Rattle.bridge_forward.specs.Forward.{forward}
use Rattle.bridge_config.specs.Rules.{find_port}
use Rattle.bridge_check.specs.FrameInput.{frame_vid, frame_priority, is_eligible}
use Rattle.bridge_semantics.specs.declared.destination.Destination.TheVariants.{Nowhere, Forwarded}
use Rattle.bridge_semantics.specs.Events.{arrival, metered_octets, frame_destination, destination_by_set}
use Rattle.bridge_relay.specs.Ports.{port_state}
use Rattle.bridge_relay.specs.RelayState.{RelayState}
use Rattle.bridge_relay.proofs.Relayed.{port_is}
use Rattle.bridge_relay.proofs.Ways.{classified_is, defaults_are, goes_nowhere, goes_somewhere, priority_few, same_call, way_good}
use Rattle.bridge_relay.proofs.relay.Relay.find_destination.Goals as goal

pub returns-then-bits-eq0-clause-way : goal.returns-then-bits-eq0-clause-way
returns-then-bits-eq0-clause-way g c =
    let b = c.self.inside in
    let p = b.plan.now in
    let port = c.args.port in
    let head = c.in-Ok.head in
    let a = arrival c.args.at port c.args.octets.now c.args.len in
    let d = defaults_are (find_port p.ports port) (port_state b.ports port) c.in-Some.vid c.in-Some.priority (c.self.invariant.alike port c.requires.from) (sym c.ingress_defaults.ensures ∙ c.in-Some.is) in
    let out = d.0 in
    let is_port = port_is p.ports port out c.self.invariant.rules.ports.each d.1 in
    let class : c.classify-vid.result ≡ (frame_vid out head.tag, frame_priority out head.tag, is_eligible head.tag) = c.classify-vid.ensures ∙ classified_is out head.tag c.in-Some.vid c.in-Some.priority d.2 d.3 in
    let vid : c.classify-vid.result.0 ≡ frame_vid out head.tag = ap (λ (z : ℕ × ℕ × Bool). z.0) class in
    let set : c.forward-set.result ≡ forward p.database out.number (frame_vid out head.tag) head.da = c.forward-set.ensures.ports ∙ (ap (λ (n : ℕ). forward p.database port n head.da) vid ∙ ap (λ (n : ℕ). forward p.database n (frame_vid out head.tag) head.da) (sym is_port.1)) in
    let none : nat_eq c.forward-set.result 0 ≡ true = (let z = c.if-bits-eq0.true in let y = c.bits.ensures in grind (arith, nat_tests)) in
    subst (λ (v : RelayState _ _). Nowhere ≡ frame_destination v.plan a) c.self.view_is
    (goes_nowhere p out a head c.forward-set.result none ∙ (ap (destination_by_set p out a head) set ∙ way_good p a out head d.1 (sym c.in-Ok.ensures.exact)))

pub returns-clause-way : goal.returns-clause-way
returns-clause-way g c =
    let b = c.self.inside in
    let p = b.plan.now in
    let port = c.args.port in
    let head = c.in-Ok.head in
    let a = arrival c.args.at port c.args.octets.now c.args.len in
    let d = defaults_are (find_port p.ports port) (port_state b.ports port) c.in-Some.vid c.in-Some.priority (c.self.invariant.alike port c.requires.from) (sym c.ingress_defaults.ensures ∙ c.in-Some.is) in
    let out = d.0 in
    let is_port = port_is p.ports port out c.self.invariant.rules.ports.each d.1 in
    let class : c.classify-vid.result ≡ (frame_vid out head.tag, frame_priority out head.tag, is_eligible head.tag) = c.classify-vid.ensures ∙ classified_is out head.tag c.in-Some.vid c.in-Some.priority d.2 d.3 in
    let vid : c.classify-vid.result.0 ≡ frame_vid out head.tag = ap (λ (z : ℕ × ℕ × Bool). z.0) class in
    let set : c.forward-set.result ≡ forward p.database out.number (frame_vid out head.tag) head.da = c.forward-set.ensures.ports ∙ (ap (λ (n : ℕ). forward p.database port n head.da) vid ∙ ap (λ (n : ℕ). forward p.database n (frame_vid out head.tag) head.da) (sym is_port.1)) in
    let some : nat_eq c.forward-set.result 0 ≡ false = (let z = c.if-bits-eq0.false in let y = c.bits.ensures in grind (arith, nat_tests)) in
    let handle : c.stream_handle.result ≡ first_handle p.streams out.number head (frame_vid out head.tag) = c.stream_handle.ensures ∙ (ap (λ (es : _). first_handle es port head c.classify-vid.result.0) c.self.invariant.identified ∙ (ap (λ (n : ℕ). first_handle p.streams port head n) vid ∙ ap (λ (n : ℕ). first_handle p.streams n head (frame_vid out head.tag)) (sym is_port.1))) in
    let priority : c.classify-vid.result.1 ≡ frame_priority out head.tag = ap (λ (z : ℕ × ℕ × Bool). z.1) class in
    let dei : c.classify-vid.result.2 ≡ is_eligible head.tag = ap (λ (z : ℕ × ℕ × Bool). z.2) class in
    let octets : c.max.result + 4 ≡ metered_octets c.args.len = ap (λ (n : ℕ). n + 4) c.max.ensures in
    let sees = same_call c.args.at head.sdu c.stream_handle.result (first_handle p.streams out.number head (frame_vid out head.tag)) c.classify-vid.result.1 (frame_priority out head.tag) c.classify-vid.result.2 (is_eligible head.tag) (c.max.result + 4) (metered_octets c.args.len) handle priority dei octets in
    subst (λ (v : RelayState _ _). Forwarded c.forward-set.result (filter_input c.args.at c.stream_handle.result c.classify-vid.result.1 c.classify-vid.result.2 head.sdu (c.max.result + 4)) ≡ frame_destination v.plan a) c.self.view_is
    (ap (Forwarded c.forward-set.result) sees ∙ (goes_somewhere p out a head c.forward-set.result some ∙ (ap (destination_by_set p out a head) set ∙ way_good p a out head d.1 (sym c.in-Ok.ensures.exact))))

pub returns-clause-priority : goal.returns-clause-priority
returns-clause-priority g c =
    let b = c.self.inside in
    let p = b.plan.now in
    let port = c.args.port in
    let head = c.in-Ok.head in
    let d = defaults_are (find_port p.ports port) (port_state b.ports port) c.in-Some.vid c.in-Some.priority (c.self.invariant.alike port c.requires.from) (sym c.ingress_defaults.ensures ∙ c.in-Some.is) in
    let out = d.0 in
    let is_port = port_is p.ports port out c.self.invariant.rules.ports.each d.1 in
    let class : c.classify-vid.result ≡ (frame_vid out head.tag, frame_priority out head.tag, is_eligible head.tag) = c.classify-vid.ensures ∙ classified_is out head.tag c.in-Some.vid c.in-Some.priority d.2 d.3 in
    let priority : c.classify-vid.result.1 ≡ frame_priority out head.tag = ap (λ (z : ℕ × ℕ × Bool). z.1) class in
    let few = priority_few out head.tag is_port.0 c.in-Ok.ensures.priority in
    omega (arith, priority, few)

pub stream_handle-requires : goal.stream_handle-requires
stream_handle-requires g c κs h = h
