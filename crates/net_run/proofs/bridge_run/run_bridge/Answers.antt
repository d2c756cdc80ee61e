use Rattle.std.proofs.Common.{◌≡◌, ℕ, List, [], Option, Err, true, length, sym, ap, subst, ◌∙◌}
use Rattle.std.specs.Prelude.{All, Vec}
use Rattle.std.proofs.lemmas.List.{length-map}
use Rattle.bridge_limits.proofs.Lists.{lent}
use Rattle.bridge_limits.proofs.Members.{each_in}
use Rattle.bridge_capture.specs.Memory.{MemoryDevice, is_unfailing_source}
use Rattle.bridge_capture.specs.Devices.{AreUnfailing}
use Rattle.bridge_capture.specs.declared.fault.RunFault.{RunFault}
use Rattle.bridge_core.proofs.Simulating.{ports_many}
use Rattle.net_run.specs.BridgeRuns.{RunsBridge, StopsBridge, sink_octets, text_of_port, text_octets}
use Rattle.net_run.proofs.Over.{are_texts, runs_bridge, sources_many, stops_bridge}
use Rattle.net_run.proofs.bridge_run.run_bridge.Goals as goal

pub simulate-ran-requires-clause-sources : goal.simulate-ran-requires-clause-sources
simulate-ran-requires-clause-sources g c = ap length c.deref_mut.ensures.value ∙ sources_many c.args.accepted.now c.args.ports.now c.in-Ok.sources.items c.args.texts.now c.requires.numbers c.in-Ok.ensures.texts c.requires.texts

pub simulate-ran-requires-clause-sinks : goal.simulate-ran-requires-clause-sinks
simulate-ran-requires-clause-sinks g c = ap length c.deref_mut-2.ensures.value ∙ (c.in-Ok-empty_sinks.ensures.many ∙ ports_many c.args.accepted.now c.args.ports.now c.requires.numbers)

pub returns-in-Ok-ran-clause-runs : goal.returns-in-Ok-ran-clause-runs
returns-in-Ok-ran-clause-runs g c =
    let p = c.args.accepted.now in
    let ports = c.args.ports.now in
    let texts = text_octets c.args.texts.now in
    let olds = c.deref_mut-2.result.now in
    let news = c.simulate-ran.new.sinks in
    let lend = c.deref_mut-2.ensures.value in
    let long = c.simulate-ran.auto.sinks in
    let came : length news ≡ length c.in-Ok-empty_sinks.sinks.items = long ∙ ap length lend in
    let back = lent c.in-Ok-empty_sinks.sinks.items news c.in-Ok-empty_sinks.sinks.len c.in-Ok-empty_sinks.sinks.ok.0 came in
    let are = are_texts p ports texts c.deref_mut.result.now c.requires.numbers (ap sink_octets c.deref_mut.ensures.value ∙ c.in-Ok.ensures.texts) in
    let ran = c.in-Ok-ran.ensures.ok ports (text_of_port ports texts) c.requires.numbers are in
    let many : length texts ≡ length ports = length-map c.args.texts.now (λ (v : Vec ℕ g.row.A.Denot). v.items) ∙ c.requires.texts in
    let as_many : length olds ≡ length ports = ap length lend ∙ c.in-Ok-empty_sinks.ensures.many in
    let empty = subst (All (λ (d : MemoryDevice). d.octets ≡ [])) (sym lend) c.in-Ok-empty_sinks.ensures.empty in
    subst (λ (l : List MemoryDevice). RunsBridge p ports c.args.commands.now texts (sink_octets l) c.in-Ok-ran.outcome) (sym back)
    (runs_bridge p ports c.args.commands.now texts olds news c.in-Ok-ran.outcome c.requires.numbers many as_many empty ran)

pub returns-in-Ok-ran-clause-many : goal.returns-in-Ok-ran-clause-many
returns-in-Ok-ran-clause-many g c =
    let news = c.simulate-ran.new.sinks in
    let lend = c.deref_mut-2.ensures.value in
    let long = c.simulate-ran.auto.sinks in
    let came : length news ≡ length c.in-Ok-empty_sinks.sinks.items = long ∙ ap length lend in
    let back = lent c.in-Ok-empty_sinks.sinks.items news c.in-Ok-empty_sinks.sinks.len c.in-Ok-empty_sinks.sinks.ok.0 came in
    ap length back ∙ (came ∙ c.in-Ok-empty_sinks.ensures.many)

pub returns-in-Err-clause-stops : goal.returns-in-Err-clause-stops
returns-in-Err-clause-stops g c =
    let p = c.args.accepted.now in
    let ports = c.args.ports.now in
    let texts = text_octets c.args.texts.now in
    let are = are_texts p ports texts c.deref_mut.result.now c.requires.numbers (ap sink_octets c.deref_mut.ensures.value ∙ c.in-Ok.ensures.texts) in
    let sure : AreUnfailing (λ (d : MemoryDevice). is_unfailing_source d) c.deref_mut.result.now = subst (AreUnfailing (λ (d : MemoryDevice). is_unfailing_source d)) (sym c.deref_mut.ensures.value)
    (λ d member. each_in (λ (d : MemoryDevice). is_unfailing_source d ≡ true) c.in-Ok.sources.items d c.in-Ok.ensures.sure member) in
    subst (StopsBridge p ports c.args.commands.now texts) (sym c.as_memory_fault.ensures)
    (stops_bridge p ports c.args.commands.now texts c.simulate-ran.new.sources c.deref_mut-2.result.now c.simulate-ran.new.sinks c.in-Err.fault c.requires.numbers
    (λ port e. c.in-Err.ensures.sure sure port (ap (λ (f : RunFault). Err f) e))
    (λ (rests : ℕ → Option (List ℕ)) after. c.in-Err.ensures.err ports (text_of_port ports texts) rests c.requires.numbers are after))
