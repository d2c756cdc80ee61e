use Rattle.std.proofs.Common.{take}
use Rattle.std.specs.Prelude.{flat_map}
use Rattle.bridge_text.specs.Growth.{HasGrown}
use Rattle.net_report.specs.Losing.{hop_words}
use Rattle.net_report.proofs.losing.put_hops.Given as goal

abbrev pub invariant-loop-hop : goal.invariant-loop-hop
invariant-loop-hop g l = HasGrown l.fn.text (flat_map hop_words (take l.hop-index l.hops)) l.text
