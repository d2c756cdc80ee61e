use Rattle.std.proofs.Common.{◌≡◌, map}
use Rattle.app_commands.proofs.Devices.{asked}
use Rattle.app_commands.proofs.transfer.buffered_sources.Given as goal

abbrev pub invariant-loop-reader : goal.invariant-loop-reader
invariant-loop-reader g l = map (asked g.R.Read.remaining) l.sources.items ≡ map g.R.Read.remaining l.yielded
