use Rattle.std.proofs.Common.{take}
use Rattle.app_networks.proofs.Losses.{HasLines}
use Rattle.app_networks.proofs.losing.fault_lines.Given as goal

abbrev pub invariant-loop-stream : goal.invariant-loop-stream
invariant-loop-stream l = HasLines l.links l.settled l.fn.file.bridges (take l.stream-index l.fn.file.streams) l.initial.text l.text
