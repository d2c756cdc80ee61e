use Rattle.std.proofs.Common.{take}
use Rattle.app_networks.specs.Figures.{AreFigures}
use Rattle.app_networks.proofs.figures.stream_figures.Given as goal

abbrev pub invariant-loop-stream : goal.invariant-loop-stream
invariant-loop-stream l = AreFigures l.network.plans l.network.links l.bounds l.links (take l.stream-index l.streams) l.rows.items
