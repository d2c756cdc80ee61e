use Rattle.std.proofs.Common.{◌≡◌, ℕ, List, Bor, option_map, ap, sym, ◌∙◌}
use Rattle.bridge_capture.specs.Memory.{MemoryDevice}
use Rattle.net_run.specs.BridgeRuns.{BridgeRunState, sink_octets, text_of_port}
use Rattle.net_run.specs.InputCaptures.{sent_octets}
use Rattle.net_run.proofs.Delaying.{delivered_if}
use Rattle.net_run.proofs.bridge_run.BridgeRun.delivered_capture.Goals as goal

pub returns-in-Some : goal.returns-in-Some
returns-in-Some g c =
    let port = c.args.port in
    let same : c.in-Some.sent.now.octets ≡ text_of_port c.args.self.now.ports c.args.self.now.taps port =
    sym (ap sent_octets (ap (option_map (λ (d : Bor MemoryDevice). d.now)) c.in-Some.is))
    ∙ (c.find_port_capture.ensures
    ∙ (ap (λ (l : List ℕ). text_of_port l (sink_octets c.deref-2.result.now) port) c.deref.ensures.value
    ∙ (ap (λ (l : List MemoryDevice). text_of_port c.self.inside.ports.items (sink_octets l) port) c.deref-2.ensures.value
    ∙ ap (λ (s : BridgeRunState g.row.A.Denot). text_of_port s.ports s.taps port) c.self.view_is))) in
    delivered_if c.args.delay (text_of_port c.args.self.now.ports c.args.self.now.taps port) c.in-Some.sent.now.octets c.over_link.result same c.over_link.ensures
