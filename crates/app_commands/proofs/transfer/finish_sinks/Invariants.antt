use Rattle.std.proofs.Common.{◌≡◌, ◌≤◌, length, vec_capacity, vec_len}
use Rattle.app_commands.specs.Flushed.{AllKept, NoneFailed}
use Rattle.app_commands.proofs.Devices.{broken, sunk}
use Rattle.app_commands.proofs.transfer.finish_sinks.Given as goal

abbrev pub invariant-loop-sink : goal.invariant-loop-sink
invariant-loop-sink g l = record {
  kept : AllKept (sunk g.W.Write.contents) g.W.Write.contents l.yielded l.flushed.items;
  sound : NoneFailed broken l.yielded;
  count : vec_len l.flushed ≡ length l.yielded;
  room : length l.fn.sinks.items ≤ vec_capacity l.flushed;
}
