use Rattle.std.proofs.Common.{take}
use Rattle.bridge_text.specs.Growth.{HasGrown}
use Rattle.net_latency.specs.TrafficText.{timings_text}
use Rattle.net_latency.proofs.timings.timings_text.Given as goal

abbrev pub invariant-loop-timing : goal.invariant-loop-timing
invariant-loop-timing g l = HasGrown l.initial.text (timings_text (take l.timing-index l.timings)) l.text
