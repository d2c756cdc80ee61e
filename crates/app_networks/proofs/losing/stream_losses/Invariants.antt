use Rattle.std.proofs.Common.{◌≡◌, length, take}
use Rattle.app_networks.specs.Losing.{AreLosses}
use Rattle.app_networks.proofs.losing.stream_losses.Given as goal

abbrev pub invariant-loop-place : goal.invariant-loop-place
invariant-loop-place l = length l.runs ≡ length l.hops → AreLosses l.links l.runs l.bridges (take l.place l.hops) (take l.place l.runs) l.all.items
