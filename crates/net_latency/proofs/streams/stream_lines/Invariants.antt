use Rattle.std.proofs.Common.{List, ℕ, take}
use Rattle.bridge_text.specs.Growth.{HasGrown}
use Rattle.net_latency.specs.Talkers.{AreStreamLines}
use Rattle.net_latency.proofs.streams.stream_lines.Given as goal

abbrev pub invariant-loop-stream : goal.invariant-loop-stream
invariant-loop-stream g l = (octets : List ℕ) × HasGrown l.initial.text octets l.text × AreStreamLines l.network.plans l.network.links l.bounds l.links (take l.stream-index l.streams) octets l.kept
