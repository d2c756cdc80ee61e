use Rattle.std.proofs.Common.{◌≡◌, true, take}
use Rattle.std.specs.Prelude.{All}
use Rattle.bridge_capture.specs.Memory.{is_unfailing_source}
use Rattle.net_run.specs.BridgeRuns.{sink_octets, text_octets}
use Rattle.net_run.proofs.bridge_run.capture_sources.Given as goal

abbrev pub invariant-loop-text : goal.invariant-loop-text
invariant-loop-text g l = record {
  texts : sink_octets l.sources.items ≡ text_octets (take l.text-index l.texts);
  sure : All (λ d. is_unfailing_source d ≡ true) l.sources.items;
}
