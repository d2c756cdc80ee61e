use Rattle.std.proofs.Common.{length, sym, ap, ◌∙◌}
use Rattle.std.proofs.lemmas.List.{length-map}
use Rattle.bridge_capture.specs.Memory.{MemoryDevice}
use Rattle.net_run.proofs.bridge_run.run_over_inputs.Goals as goal

pub returns-clause-many : goal.returns-clause-many
returns-clause-many g c =
    sym (length-map c.in-Ok-share_captures.taps.items (λ (d : MemoryDevice). d.octets))
    ∙ (ap length c.in-Ok-share_captures.ensures
    ∙ (length-map c.in-Ok-ran.ran.taps.items (λ (d : MemoryDevice). d.octets) ∙ c.in-Ok-ran.ensures.many))
