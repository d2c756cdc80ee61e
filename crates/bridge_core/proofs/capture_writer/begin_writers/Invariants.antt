use Rattle.std.proofs.Common.{◌≡◌, ◌≤◌, length, take, vec_len, vec_capacity}
use Rattle.bridge_capture.specs.Devices.{AreUnfailing}
use Rattle.bridge_core.specs.CaptureWriters.{writer_ports}
use Rattle.bridge_core.proofs.Written.{HaveHeaders}
use Rattle.bridge_core.proofs.capture_writer.begin_writers.Given as goal

abbrev pub invariant-loop-place : goal.invariant-loop-place
invariant-loop-place g l = record {
  headers : HaveHeaders g.W.ByteSink.contents l.fn.sinks l.sinks l.place;
  numbers : writer_ports l.lines.items ≡ take l.place l.ports;
  holds : AreUnfailing g.W.ByteSink.never_fails l.fn.sinks → AreUnfailing g.W.ByteSink.never_fails l.sinks;
  few : vec_len l.lines ≤ l.place;
  room : length l.ports ≤ vec_capacity l.lines;
}
