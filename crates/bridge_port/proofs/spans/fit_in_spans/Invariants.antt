use Rattle.std.proofs.Common.{◌≡◌, drop}
use Rattle.bridge_port.specs.Spans.{fit_in_spans}
use Rattle.bridge_port.proofs.spans.fit_in_spans.Given as goal

abbrev pub invariant-loop-span : goal.invariant-loop-span
invariant-loop-span l = fit_in_spans (drop l.span-index l.spans) l.from l.occ l.stop ≡ fit_in_spans l.spans l.from l.occ l.stop
