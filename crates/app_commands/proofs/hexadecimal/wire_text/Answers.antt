use Rattle.std.proofs.Common.{◌≡◌, Some, ap, ◌∙◌, subst}
use Rattle.bridge_frame.specs.declared.Speed.TheVariants.{Mbps1000}
use Rattle.bridge_wire.specs.Wire.{WiresText}
use Rattle.app_commands.specs.Text.{StopsText}
use Rattle.app_commands.proofs.Runs.{stops_text, text_run}
use Rattle.app_commands.proofs.hexadecimal.wire_text.Goals as goal

pub returns-in-Err-wire-clause-run : goal.returns-in-Err-wire-clause-run
returns-in-Err-wire-clause-run g c = λ fault octets is spelled.
    let items = c.in-Ok.octets.items in
    let same : items ≡ octets = let told = c.in-Ok.ensures.ok in cc in
    let told : Some c.new-source.result.octets ≡ Some octets = ap Some (c.new-source.ensures.octets ∙ (c.deref.ensures.value ∙ same)) in
    let one : c.in-Err-wire.fault ≡ fault = cc in
    subst (StopsText octets) one (stops_text octets (Some c.wire.new.source.octets) (Some c.new-sink.result.octets) (Some c.wire.new.sink.octets) c.in-Err-wire.fault (c.in-Err-wire.ensures.err octets told) c.in-Err-wire.ensures.one)

pub returns-in-Ok-hex_lines-clause-ok : goal.returns-in-Ok-hex_lines-clause-ok
returns-in-Ok-hex_lines-clause-ok g c =
    let octets = c.in-Ok.octets.items in
    let told : Some c.new-source.result.octets ≡ Some octets = ap Some (c.new-source.ensures.octets ∙ c.deref.ensures.value) in
    let wires = c.in_default.ensures.ok octets told in
    let fresh = subst (λ sink. WiresText Mbps1000 4 octets (Some sink) (Some c.wire.new.sink.octets) c.in_default.field-0) c.new-sink.ensures.octets wires in
    (octets, c.in-Ok.ensures.ok, text_run octets c.wire.new.sink.octets c.in_default.field-0 _ fresh (λ frames all is. c.in-Ok-hex_lines.ensures frames all (c.octets.ensures ∙ is)))
