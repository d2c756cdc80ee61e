use Rattle.std.proofs.Common.{◌≡◌, ℕ, suc, ◌+◌, ◌∙◌, sym, ap, drop, arith}
use Rattle.std.proofs.lemmas.List.{length-map}
use Rattle.bridge_capture.specs.Memory.{MemoryDevice}
use Rattle.net_run.specs.BridgeRuns.{sink_octets, text_of_port}
use Rattle.net_run.proofs.Turns.{index_map, text_behind, text_here, text_next, text_past}
use Rattle.net_run.proofs.bridge_run.find_port_capture.Goals as goal

pub returns-then-place-taps : goal.returns-then-place-taps
returns-then-place-taps g c =
    let size = length-map c.args.taps.now (λ (d : MemoryDevice). d.octets) in
    let behind = c.if-place-taps.true in
    sym (text_behind c.args.ports.now (sink_octets c.args.taps.now) c.args.port c.loop-place.place (omega (arith, size, behind))) ∙ c.loop-place.invariant

pub returns-then-ports-place : goal.returns-then-ports-place
returns-then-ports-place g c =
    let size = length-map c.args.taps.now (λ (d : MemoryDevice). d.octets) in
    let within = c.if-place-taps.false in
    let here = text_here c.args.ports.now (sink_octets c.args.taps.now) c.args.port c.loop-place.place 0 c.index-taps-place.result.octets c.loop-place-test.true (omega (arith, size, within)) c.if-ports-place.true in
    ap (λ (d : MemoryDevice). d.octets) c.index-taps-place.is ∙ (sym (index_map (λ (d : MemoryDevice). d.octets) c.args.taps.now c.loop-place.place c.index-taps-place.result) ∙ (sym here ∙ c.loop-place.invariant))

pub loop-place-preserved : goal.loop-place-preserved
loop-place-preserved g c =
    let size = length-map c.args.taps.now (λ (d : MemoryDevice). d.octets) in
    let within = c.if-place-taps.false in
    let next : c.loop-place.place + 1 ≡ suc c.loop-place.place = omega arith in
    ap (λ (n : ℕ). text_of_port (drop n c.args.ports.now) (drop n (sink_octets c.args.taps.now)) c.args.port) next
    ∙ (text_next c.args.ports.now (sink_octets c.args.taps.now) c.args.port c.loop-place.place 0 c.loop-place-test.true (omega (arith, size, within)) c.if-ports-place.false ∙ c.loop-place.invariant)

pub returns : goal.returns
returns g c = sym (text_past c.args.ports.now (sink_octets c.args.taps.now) c.args.port c.loop-place.place c.loop-place-test.false) ∙ c.loop-place.invariant
